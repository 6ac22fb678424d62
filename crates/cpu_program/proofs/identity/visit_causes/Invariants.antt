use Rattle.std.proofs.Common.{◌≡◌, drop}
use Rattle.cpu_program.specs.Visits.{causes_of}
use Rattle.cpu_program.proofs.identity.visit_causes.Given as goal

abbrev pub invariant-loop-i : goal.invariant-loop-i
invariant-loop-i l = l.causes.items ≡ causes_of (drop l.i l.fn.entries) l.fn.me l.fn.visits
