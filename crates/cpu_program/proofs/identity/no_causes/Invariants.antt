use Rattle.std.proofs.Common.{◌≡◌, replicate}
use Rattle.cpu_table.specs.Causes.{no_cause}
use Rattle.cpu_program.proofs.identity.no_causes.Given as goal

abbrev pub invariant-loop-visit : goal.invariant-loop-visit
invariant-loop-visit l = l.causes.items ≡ replicate l._visit no_cause
