-- What it means that a place stands for a list.
use Rattle.std.specs.Prelude.{◌≡◌, ℕ, ◌≤◌, true, ◌↔◌, List, [], ◌∷◌, ◌++◌}
use Rattle.smm_base.specs.declared.kinds.HandlerType.{HandlerType}
use Rattle.handler_registry.specs.Registrations.{is_live}
use Rattle.serving_place.specs.Serving.{Serving}
use Rattle.serving_place.specs.Forms.{Program, Event, IsWhole, IsPrefix}
use Rattle.serving_place.specs.Places.{Place, StillToSay, Accepts, next}

-- What makes the list whole is what the place has still to say.
abbrev pub StandsFor : Program → ℕ → List HandlerType → Serving → Place → List Event → Type 0
StandsFor program w kinds s p es = (more : List Event) → IsWhole program w kinds s (es ++ more) ↔ StillToSay program p more

-- The event is taken exactly where the list with it is a prefix of a whole list, and the place after it stands for that.
pub record Follows (program : Program) (w : ℕ) (kinds : List HandlerType) (s : Serving) (p : Place) (es : List Event) (e : Event) : Type 0 where
  pub exact : Accepts program p e ↔ IsPrefix program w kinds s (es ++ e ∷ [])
  pub after : Accepts program p e → StandsFor program w kinds s (next program p e) (es ++ e ∷ [])

-- Numbers that were given stay given, and one that was given before and is live after was live before.
pub record Kept (s t : Serving) : Type 0 where
  pub later : s.registrations.last ≤ t.registrations.last
  pub live : (n : ℕ) → n ≤ s.registrations.last → is_live n t.registrations ≡ true → is_live n s.registrations ≡ true

-- the events are taken one after another, and lead to that place
abbrev pub Leads : Program → Place → List Event → Place → Type 0
Leads program p [] q = p ≡ q
Leads program p (e ∷ es) q = Accepts program p e × Leads program (next program p e) es q
