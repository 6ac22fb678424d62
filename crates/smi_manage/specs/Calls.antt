-- Whom a walk calls while registrations come and go.
use Rattle.std.specs.Prelude.{ℕ, cond, map, List, [], ◌∷◌, Option, Some, None}
use Rattle.std.specs.List.{filter}
use Rattle.smm_base.specs.declared.kinds.HandlerType.{HandlerType}
use Rattle.smm_base.specs.declared.status.Status.{Status}
use Rattle.handler_registry.specs.Registrations.{Registrations, is_same_list, is_live}
use Rattle.handler_registry.specs.Changes.{Change, all_changed}
use Rattle.smi_manage.specs.Answers.{stops}
use Rattle.smi_manage.specs.Walks.{Walk, turn_of, after_turn, answered}

-- the calls of `register` and `unregister` before a turn, and the status that the handler returns whose turn it is
pub record Turn : Type 0 where
  pub changes : List Change
  pub status : Status

abbrev pub on_turn : Option ℕ → (ℕ → List ℕ) → List ℕ
on_turn None called = []
on_turn (Some serial) called = called serial

-- the serial numbers that a walk gives over these turns, where each is answered for by its status
abbrev pub calls : Walk → Registrations → List Turn → List ℕ
calls walk state [] = []
calls walk state (turn ∷ rest) =
    on_turn (turn_of walk (all_changed turn.changes state))
    (λ serial. serial ∷ calls (answered turn.status (after_turn (Some serial) walk)) (all_changed turn.changes state) rest)

-- the serial numbers of this list, in the order of registration
abbrev pub serials_on : HandlerType → Registrations → List ℕ
serials_on kind state = map (λ r. r.serial) (filter (λ r. is_same_list r.kind kind) state.live)

-- those of them that are live
abbrev pub still_live : Registrations → List ℕ → List ℕ
still_live state serials = filter (λ serial. is_live serial state) serials

abbrev pub on_first : List ℕ → (ℕ → List ℕ → List ℕ) → List ℕ
on_first [] called = []
on_first (serial ∷ rest) called = called serial rest

-- Whom to call over these turns: at each turn the first of those waiting that is still live, up to and with the one
-- whose status stops the walk. Those behind it go on waiting.
abbrev pub due : HandlerType → List ℕ → Registrations → List Turn → List ℕ
due kind waiting state [] = []
due kind waiting state (turn ∷ rest) =
    on_first (still_live (all_changed turn.changes state) waiting)
    (λ serial later. serial ∷ cond (stops kind turn.status) [] (due kind later (all_changed turn.changes state) rest))
