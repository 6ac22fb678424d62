-- Blocked processors are announced where each announcement before was followed by its wave.
use Rattle.std.proofs.Common.{◌≡◌, ℕ, true}
use Rattle.std.proofs.lemmas.Bool.{and_parts, eqb-true}
use Rattle.std.specs.Prelude.{◌==◌}
use Rattle.sync_words.specs.declared.label.Label.TheVariants as say
use Rattle.trace_check.specs.Judged.{Judged}
use Rattle.trace_check.specs.Verdicts.{announces, verdict}

pub excepts : (j : Judged) (i e : ℕ) → verdict j i (say.Excepted e) ≡ true → j.excepted ≡ j.waves
excepts j i e h =
    let rest = (and_parts (announces j i) _ h).1 in
    eqb-true j.excepted j.waves (and_parts (j.excepted == j.waves) _ rest).0
