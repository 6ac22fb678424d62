-- Places of serving: what was said leads to a place.
use Rattle.std.proofs.Common.{◌≡◌, ℕ, Bool, List, [], ◌∷◌, ◌++◌, length, sym, ap, subst, refl, ◌∙◌}
use Rattle.std.specs.Prelude.{slice_index_or}
use Rattle.serving_place.specs.declared.seat.Seat.{Seat}
use Rattle.serving_place.specs.declared.seat.Seat.TheVariants.{Free}
use Rattle.serving_place.specs.Serving.{Serving, IsFree, IsDone}
use Rattle.serving_place.specs.Forms.{Program, Event}
use Rattle.serving_place.specs.Places.{Place, next, Accepts}
use Rattle.serving_place.specs.Stands.{Leads}
use Rattle.serving_place.specs.Setting.{Setting}
use Rattle.handler_ops.specs.Course.{after_all}
use Rattle.handler_ops.specs.Conditions.{IsSound}

pub leads_after : (program : Program) (p : Place) (es : List Event) (q : Place) → Leads program p es q → after_all program p es ≡ q
leads_after program p [] q h = h
leads_after program p (e ∷ es) q h = leads_after program (next program p e) es q h.1

-- a label that the place takes leads on
pub leads_on : (program : Program) (p : Place) (es : List Event) (q : Place) (e : Event) → Leads program p es q → Accepts program q e
    → Leads program p (es ++ e ∷ []) (next program q e)
leads_on program p [] q e h a = subst (λ (x : Place). Accepts program x e × (next program x e ≡ next program q e)) (sym h) (a, refl)
leads_on program p (f ∷ es) q e h a = (h.0, leads_on program (next program p f) es q e h.1 a)

-- what serving may count on rests on the jobs alone
pub sound_with : (t : Setting) (there : ℕ → Bool) (s u : Serving) → u.seats ≡ s.seats → IsSound t there s → IsSound t there u
sound_with t there s u e sound =
    record {
      size = ap (λ (qs : List Seat). length qs) e ∙ sound.size;
      mine = sound.mine;
      idle = λ c h. subst (λ (qs : List Seat). IsFree (slice_index_or qs c Free)) (sym e) (sound.idle c h);
      undone = λ c. subst (λ (qs : List Seat). IsDone (slice_index_or qs c Free) → ⊥) (sym e) (sound.undone c);
    }
