use Rattle.std.proofs.Common.{◌≡◌}
use Rattle.rendezvous_machine.specs.Effects.{cleared}
use Rattle.trace_members.proofs.Changing.{mapped_to}
use Rattle.trace_members.proofs.members.clear_all.Given as goal

abbrev pub invariant-loop-i : goal.invariant-loop-i
invariant-loop-i l = l.members ≡ mapped_to cleared l.i l.initial.members
