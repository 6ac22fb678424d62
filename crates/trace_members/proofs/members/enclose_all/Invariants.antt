use Rattle.std.proofs.Common.{◌≡◌}
use Rattle.rendezvous_machine.specs.Effects.{enclosed}
use Rattle.trace_members.proofs.Changing.{mapped_to}
use Rattle.trace_members.proofs.members.enclose_all.Given as goal

abbrev pub invariant-loop-i : goal.invariant-loop-i
invariant-loop-i l = l.members ≡ mapped_to enclosed l.i l.initial.members
