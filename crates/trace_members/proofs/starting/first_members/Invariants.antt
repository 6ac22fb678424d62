use Rattle.std.proofs.Common.{◌≡◌, ◌++◌, drop}
use Rattle.trace_members.specs.Members.{firsts}
use Rattle.trace_members.proofs.starting.first_members.Given as goal

abbrev pub invariant-loop-i : goal.invariant-loop-i
invariant-loop-i l = l.members.items ++ firsts (drop l.i l.registers) (drop l.i l.images) ≡ firsts l.registers l.images
