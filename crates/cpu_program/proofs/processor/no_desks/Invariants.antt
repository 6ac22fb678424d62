use Rattle.std.proofs.Common.{◌≡◌, None, replicate}
use Rattle.cpu_program.proofs.processor.no_desks.Given as goal

abbrev pub invariant-loop-cpu : goal.invariant-loop-cpu
invariant-loop-cpu l = l.desks.items ≡ replicate l._cpu None
