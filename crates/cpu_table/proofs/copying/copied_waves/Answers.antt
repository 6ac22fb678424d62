use Rattle.std.proofs.Common.{rules}
use Rattle.std.proofs.lemmas.List.Elements.{same_from_all_zip}
use Rattle.cpu_table.proofs.copying.copied_waves.Goals as goal

pub returns : goal.returns
returns c = same_from_all_zip _ _ _ c.in_ok-copy.ensures.cases (λ a b is. search (rules, same_from_all_zip))
