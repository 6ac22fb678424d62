use Rattle.std.proofs.Common.{◌≡◌}
use Rattle.generated_rounds.specs.Rounds.{rounds}
use Rattle.generated_rounds.proofs.generated.rounds.Given as goal

abbrev pub invariant-loop-round : goal.invariant-loop-round
invariant-loop-round l = l.actors.items ≡ rounds l._round l.processors
