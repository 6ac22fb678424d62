-- Whom a walk calls.
use Rattle.std.proofs.Common.{◌≡◌, ℕ, ◌≤◌, Bool, true, false, cond, List, [], ◌∷◌, Some, map, refl, sym, ap, ◌∙◌, arith}
use Rattle.smm_base.specs.declared.kinds.HandlerType.{HandlerType}
use Rattle.smm_base.specs.declared.kinds.HandlerType.TheVariants.{Root, Typed}
use Rattle.smm_base.specs.declared.status.Status.TheVariants.{NotFound}
use Rattle.handler_registry.specs.Registrations.{Registrations, IsRegistered}
use Rattle.handler_registry.specs.Changes.{Change, changed, all_changed}
use Rattle.handler_registry.proofs.LawLemmas.{kept, later_last}
use Rattle.smi_manage.specs.Answers.{stops}
use Rattle.smi_manage.specs.Walks.{Walk, begun, is_stopped, turn_of, after_turn, answered}
use Rattle.smi_manage.specs.Calls.{Turn, on_turn, calls, serials_on, on_first, due}
use Rattle.smi_manage.proofs.DueLemmas.{due_in, first_of, first_due, rest_due, all_due, still_due}

all_kept : (changes : List Change) (state : Registrations) → IsRegistered state → IsRegistered (all_changed changes state)
all_kept [] state k = k
all_kept (change ∷ rest) state k = all_kept rest (changed change state) (kept change state k)

all_last : (changes : List Change) (state : Registrations) → state.last ≤ (all_changed changes state).last
all_last [] state = omega arith
all_last (change ∷ rest) state = omega (arith, later_last change state, all_last rest (changed change state))

-- a walk that was stopped calls none
stopped_calls : (walk : Walk) (state : Registrations) (turns : List Turn) → is_stopped walk ≡ true → calls walk state turns ≡ []
stopped_calls walk state [] e = refl
stopped_calls walk state (turn ∷ rest) e = rw e refl

turn_is : (walk : Walk) (state : Registrations) → IsRegistered state → is_stopped walk ≡ false → turn_of walk state ≡ first_of (due_in walk.kind walk.before walk.bound state)
turn_is walk state k e = rw e (sym (first_due walk.kind walk.before walk.bound 0 state.last state.live k.rising))

calls_due : (turns : List Turn) (walk : Walk) (state : Registrations) → IsRegistered state → is_stopped walk ≡ false → walk.bound ≤ state.last → calls walk state turns ≡ due walk.kind (due_in walk.kind walk.before walk.bound state) state turns
calls_due [] walk state k e h = refl
calls_due (turn ∷ rest) walk state k e h =
    let more = all_last turn.changes state in
    rw (turn_is walk (all_changed turn.changes state) (all_kept turn.changes state k) e, still_due turn.changes walk.kind walk.before walk.bound state k h)
    (by_due (due_in walk.kind walk.before walk.bound (all_changed turn.changes state)) refl
    (λ walk' f g. calls_due rest walk' (all_changed turn.changes state) (all_kept turn.changes state k) f g))
  where
    now : Registrations
    now = all_changed turn.changes state

    next : ℕ → Walk
    next serial = answered turn.status (after_turn (Some serial) walk)

    by_due : (ds : List ℕ) → due_in walk.kind walk.before walk.bound now ≡ ds →
        ((walk' : Walk) → is_stopped walk' ≡ false → walk'.bound ≤ now.last → calls walk' now rest ≡ due walk'.kind (due_in walk'.kind walk'.before walk'.bound now) now rest) →
        on_turn (first_of ds) (λ serial. serial ∷ calls (next serial) now rest) ≡ on_first ds (λ serial later. serial ∷ cond (stops walk.kind turn.status) [] (due walk.kind later now rest))
    by_due [] d ih = refl
    by_due (serial ∷ later) d ih = ap (λ ns. serial ∷ ns) (by_stop (stops walk.kind turn.status) refl)
      where
        by_stop : (b : Bool) → stops walk.kind turn.status ≡ b → calls (next serial) now rest ≡ cond b [] (due walk.kind later now rest)
        by_stop true s = stopped_calls (next serial) now rest s
        by_stop false s =
            let bound : walk.bound ≤ now.last = omega (arith, h, all_last turn.changes state) in
            ih (next serial) s bound ∙
            ap (λ ns. due walk.kind ns now rest) (rest_due walk.kind walk.before walk.bound 0 now.last serial later now.live (all_kept turn.changes state k).rising d)

never_stopped : (kind : HandlerType) → stops kind NotFound ≡ false
never_stopped Root = refl
never_stopped (Typed guid) = refl

pub calls_live : (kind : HandlerType) (state : Registrations) (turns : List Turn) → IsRegistered state → calls (begun kind state) state turns ≡ due kind (serials_on kind state) state turns
calls_live kind state turns k =
    calls_due turns (begun kind state) state k (never_stopped kind) (omega arith) ∙
    ap (λ rs. due kind (map (λ r. r.serial) rs) state turns) (all_due kind 0 state.last state.live k.rising)
