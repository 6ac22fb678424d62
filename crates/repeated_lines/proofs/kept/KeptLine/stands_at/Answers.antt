use Rattle.std.proofs.lemmas.Bool.Decides.{Decides-eqb}
use Rattle.repeated_lines.proofs.Standing.{begins}
use Rattle.repeated_lines.proofs.kept.KeptLine.stands_at.Goals as goal

pub returns-in-Some : goal.returns-in-Some
returns-in-Some c =
    λ is. begins Decides-eqb c.args.bytes.now c.in-Some.rest.now _ c.args.at c.starts_with.result c.in-Some.ensures.lookup.0.2 (rw c.text.ensures at c.starts_with.ensures.value) is
