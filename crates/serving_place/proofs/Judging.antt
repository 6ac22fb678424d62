-- A place that stands for a list takes what a prefix allows, is over where the list is whole, and stands again after it.
use Rattle.std.proofs.Common.{◌≡◌, ◌↔◌, ℕ, List, [], ◌∷◌, ◌++◌, sym, subst, append_assoc}
use Rattle.std.proofs.lemmas.List.{append-nil}
use Rattle.smm_base.specs.declared.kinds.HandlerType.{HandlerType}
use Rattle.serving_place.specs.Serving.{Serving}
use Rattle.serving_place.specs.Forms.{Program, Event, Own, Ran, IsWhole}
use Rattle.serving_place.specs.Places.{Place, StillToSay, Accepts, next, at_first, IsOver}
use Rattle.serving_place.specs.Stands.{StandsFor, Follows}
use Rattle.serving_place.proofs.Steps.{own_step}
use Rattle.serving_place.proofs.Runs.{run_step, is_over, is_whole}
use Rattle.serving_place.proofs.Completion.{completes}

pub one_step : (program : Program) (p : Place) (e : Event) (es : List Event)
    → StillToSay program p (e ∷ es) ↔ (Accepts program p e × StillToSay program (next program p e) es)
one_step program p (Own l) es = own_step program p l es
one_step program p (Ran c j x S) es = run_step program p c j x S es

pub begins : (program : Program) (w : ℕ) (kinds : List HandlerType) (s : Serving) → StandsFor program w kinds s (at_first w kinds s) []
begins program w kinds s more = (λ x. x, λ x. x)

pub regroup : (es : List Event) (e : Event) (more : List Event) → (es ++ e ∷ []) ++ more ≡ es ++ e ∷ more
regroup es e more = append_assoc es (e ∷ []) more

pub follows : (program : Program) (w : ℕ) (kinds : List HandlerType) (s : Serving) (p : Place) (es : List Event) (e : Event)
    → StandsFor program w kinds s p es → Follows program w kinds s p es e
follows program w kinds s p es e h =
    let holds : List Event → Type 0 = λ xs. IsWhole program w kinds s xs in
    record {
      exact = (
        λ a. let rest = completes program (next program p e) in
            (rest.0, subst holds (sym (regroup es e rest.0)) ((h (e ∷ rest.0)).1 ((one_step program p e rest.0).1 (a, rest.1)))),
        λ x. ((one_step program p e x.0).0 ((h (e ∷ x.0)).0 (subst holds (regroup es e x.0) x.1))).0,
      );
      after = λ a more. (
        λ x. ((one_step program p e more).0 ((h (e ∷ more)).0 (subst holds (regroup es e more) x))).1,
        λ x. subst holds (sym (regroup es e more)) ((h (e ∷ more)).1 ((one_step program p e more).1 (a, x))),
      );
    }

pub ends_whole : (program : Program) (w : ℕ) (kinds : List HandlerType) (s : Serving) (p : Place) (es : List Event)
    → StandsFor program w kinds s p es → IsOver p ↔ IsWhole program w kinds s es
ends_whole program w kinds s p es h =
    let holds : List Event → Type 0 = λ xs. IsWhole program w kinds s xs in (
      λ o. subst holds (append-nil es) ((h []).1 (is_whole program p.kinds p.walks p.begun p.state o)),
      λ x. is_over program p.kinds p.walks p.begun p.state ((h []).0 (subst holds (sym (append-nil es)) x)),
    )
