use Rattle.std.proofs.Common.{List, subst, sym}
use Rattle.std.specs.List.{IsDistinct}
use Rattle.cpu_table.specs.Ranges.{same_text, same_visit}
use Rattle.cpu_table.specs.declared.setup.CauseAt.{CauseAt}
use Rattle.platform_file.proofs.Distinct.{keys_distinct, distinct_keys, same_list}
use Rattle.platform_file.proofs.laws.distinct_laws.Goals as goal

pub returns-clause-handlers : goal.returns-clause-handlers
returns-clause-handlers c = λ handlers. (keys_distinct (λ h. h.name) same_text handlers, distinct_keys (λ h. h.name) same_text handlers)

pub returns-clause-procedures : goal.returns-clause-procedures
returns-clause-procedures c = λ procedures. (keys_distinct (λ p. p.name) same_text procedures, distinct_keys (λ p. p.name) same_text procedures)

pub returns-clause-causes : goal.returns-clause-causes
returns-clause-causes c = λ causes. (
  λ distinct. subst (λ (xs : List CauseAt). IsDistinct same_visit xs) (same_list causes) (keys_distinct (λ x. x) same_visit causes distinct),
  λ distinct. distinct_keys (λ x. x) same_visit causes (subst (λ (xs : List CauseAt). IsDistinct same_visit xs) (sym (same_list causes)) distinct),
)
