-- Who is still live after calls of `register` and `unregister`.
use Rattle.std.proofs.Common.{◌≡◌, ◌≢◌, ℕ, zero, suc, ◌+◌, ◌<◌, ◌≤◌, ◌==◌, Bool, true, false, ◌&&◌, ◌||◌, not, cond, List, [], ◌∷◌, length, get_or, refl, sym, ◌∙◌, inl, inr, arith, ne_eqb}
use Rattle.std.specs.List.{list_any}
use Rattle.std.proofs.lemmas.Bool.{cases_eq}
use Rattle.std.proofs.lemmas.List.Folds.{list_any-append, list_any_at}
use Rattle.handler_registry.specs.declared.registration.Registration.{Registration}
use Rattle.handler_registry.specs.Registrations.{Registrations, has_serial, is_full, is_live, registered, IsRising}
use Rattle.handler_registry.specs.Changes.{Change, changed, all_changed}
use Rattle.handler_registry.specs.Changes.Change.{Register, Unregister}
use Rattle.handler_registry.proofs.LawLemmas.{others, later_last}

-- the change leaves a registration with this serial number live
abbrev pub survives : Change → ℕ → Bool
survives (Register kind handler) serial = true
survives (Unregister x) serial = not (serial == x)

abbrev pub survives_all : List Change → ℕ → Bool
survives_all [] serial = true
survives_all (change ∷ rest) serial = survives change serial && survives_all rest serial

any_others : (x serial : ℕ) (rs : List Registration) → x ≢ serial → list_any (has_serial serial) (others x rs) ≡ list_any (has_serial serial) rs
any_others x serial [] n = refl
any_others x serial (h ∷ rest) n = by_test (h.serial == x) refl (any_others x serial rest n)
  where
    by_test : (b : Bool) → (h.serial == x) ≡ b → list_any (has_serial serial) (others x rest) ≡ list_any (has_serial serial) rest → list_any (has_serial serial) (cond (not b) (h ∷ others x rest) (others x rest)) ≡ ((h.serial == serial) || list_any (has_serial serial) rest)
    by_test true e ih =
        let differs : h.serial ≢ serial = grind (arith, e, n) in
        rw (ne_eqb h.serial serial differs) ih
    by_test false e ih = rw ih refl

none_other : (serial : ℕ) (rs : List Registration) → list_any (has_serial serial) (others serial rs) ≡ false
none_other serial [] = refl
none_other serial (h ∷ rest) = by_test (h.serial == serial) refl (none_other serial rest)
  where
    by_test : (b : Bool) → (h.serial == serial) ≡ b → list_any (has_serial serial) (others serial rest) ≡ false → list_any (has_serial serial) (cond (not b) (h ∷ others serial rest) (others serial rest)) ≡ false
    by_test true e ih = ih
    by_test false e ih = rw e ih

or_false : (a : Bool) → (a || false) ≡ a
or_false true = refl
or_false false = refl

same_serial : (n : ℕ) → (n == n) ≡ true
same_serial n = grind arith

live_after : (change : Change) (state : Registrations) (serial : ℕ) → serial ≤ state.last → is_live serial (changed change state) ≡ (survives change serial && is_live serial state)
live_after (Register kind handler) state serial h = by_full (is_full state)
  where
    by_full : (b : Bool) → is_live serial (cond b state (registered kind handler state)) ≡ is_live serial state
    by_full true = refl
    by_full false =
        let differs : state.last + 1 ≢ serial = omega (arith, h) in
        list_any-append (has_serial serial) state.live (record { serial = state.last + 1; kind = kind; handler = handler } ∷ []) ∙
        rw (ne_eqb (state.last + 1) serial differs) (or_false (is_live serial state))
live_after (Unregister x) state serial h =
    elim (cases_eq serial x) [
      | inl same ↦ rw (same, same_serial x) (none_other x state.live)
      | inr differs ↦ rw (ne_eqb serial x differs) (any_others x serial state.live (λ (e : x ≡ serial). differs (sym e)))
    ]

and_swap : (a b c : Bool) → (a && (b && c)) ≡ ((b && a) && c)
and_swap true true c = refl
and_swap true false c = refl
and_swap false true c = refl
and_swap false false c = refl

pub live_after_all : (changes : List Change) (state : Registrations) (serial : ℕ) → serial ≤ state.last → is_live serial (all_changed changes state) ≡ (survives_all changes serial && is_live serial state)
live_after_all [] state serial h = refl
live_after_all (change ∷ rest) state serial h =
    let more = later_last change state in
    live_after_all rest (changed change state) serial (omega (arith, h, more)) ∙
    rw (live_after change state serial h) (and_swap (survives_all rest serial) (survives change serial) (is_live serial state))

pub live_at_place : (state : Registrations) (k : ℕ) (d : Registration) → k < length state.live → is_live (get_or state.live k d).serial state ≡ true
live_at_place state k d h = list_any_at (has_serial (get_or state.live k d).serial) state.live k d h (same_serial (get_or state.live k d).serial)

pub at_most_last : (n last : ℕ) (rs : List Registration) (k : ℕ) (d : Registration) → IsRising n last rs → k < length rs → (get_or rs k d).serial ≤ last
at_most_last n last [] k d r h = absurd (omega (arith, h))
at_most_last n last (x ∷ rest) zero d r h = r.1
at_most_last n last (x ∷ rest) (suc k) d r h = at_most_last x.serial last rest k d r.2 (omega (arith, h))
