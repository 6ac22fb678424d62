-- Lemmas on registrations over many calls.
use Rattle.std.proofs.Common.{◌≡◌, ◌≢◌, ℕ, zero, suc, ◌+◌, ◌<◌, ◌≤◌, ◌==◌, Bool, true, false, not, cond, List, [], ◌∷◌, length, get_or, Option, Some, None, refl, sym, subst, ◌∙◌, inl, inr, arith, ne_eqb}
use Rattle.std.specs.List.{find, Contains}
use Rattle.std.specs.Option.{option_map, option_or}
use Rattle.std.proofs.lemmas.Bool.{cases_eq}
use Rattle.std.proofs.lemmas.Grind.{common_steps}
use Rattle.std.proofs.lemmas.List.Folds.{find-append}
use Rattle.smm_base.specs.declared.kinds.HandlerType.{HandlerType}
use Rattle.slab_order.specs.Numbered.{without}
use Rattle.slab_order.proofs.RisingLemmas.{rising_pushed, rising_filtered}
use Rattle.handler_registry.specs.declared.registration.Registration.{Registration}
use Rattle.handler_registry.specs.Registrations.{Registrations, serial_of, has_serial, is_full, is_on_after, registered, next_of, IsRising, IsRegistered}
use Rattle.handler_registry.specs.Changes.{Change, changed, all_changed, live_at}
use Rattle.handler_registry.specs.Changes.Change.{Register, Unregister}

-- all but those with this serial number
abbrev pub others : ℕ → List Registration → List Registration
others serial rs = without serial_of serial rs

none_found : (serial : ℕ) (rs : List Registration) → find (has_serial serial) (others serial rs) ≡ None
none_found serial [] = refl
none_found serial (h ∷ rest) = by_test (h.serial == serial) refl (none_found serial rest)
  where
    by_test : (b : Bool) → (h.serial == serial) ≡ b → find (has_serial serial) (others serial rest) ≡ None → find (has_serial serial) (cond (not b) (h ∷ others serial rest) (others serial rest)) ≡ None
    by_test true e ih = ih
    by_test false e ih = rw e ih

-- taking out another serial number's registration leaves what is found
same_found : (x serial : ℕ) (rs : List Registration) → x ≢ serial → find (has_serial serial) (others x rs) ≡ find (has_serial serial) rs
same_found x serial [] n = refl
same_found x serial (h ∷ rest) n = by_test (h.serial == x) refl (same_found x serial rest n)
  where
    by_test : (b : Bool) → (h.serial == x) ≡ b → find (has_serial serial) (others x rest) ≡ find (has_serial serial) rest → find (has_serial serial) (cond (not b) (h ∷ others x rest) (others x rest)) ≡ cond (h.serial == serial) (Some h) (find (has_serial serial) rest)
    by_test true e ih =
        let differs : h.serial ≢ serial = grind (arith, e, n) in
        rw (ne_eqb h.serial serial differs) ih
    by_test false e ih = rw ih refl

-- a registration that is found among the others was found before
others_found : (x serial : ℕ) (rs : List Registration) (r : Registration) → find (has_serial serial) (others x rs) ≡ Some r → find (has_serial serial) rs ≡ Some r
others_found x serial rs r f =
    elim (cases_eq x serial) [
      | inl same ↦ absurd (none_is_not (subst (λ (y : ℕ). find (has_serial serial) (others y rs) ≡ Some r) same f))
      | inr differs ↦ sym (same_found x serial rs differs) ∙ f
    ]
  where
    none_is_not : find (has_serial serial) (others serial rs) ≡ Some r → ⊥
    none_is_not g = cc (none_found serial rs, g)

option_or_none : (o : Option Registration) → option_or o None ≡ o
option_or_none None = refl
option_or_none (Some r) = refl

given_once_by : (change : Change) (state : Registrations) (serial : ℕ) (r : Registration) → serial ≤ state.last → live_at serial (changed change state) ≡ Some r → live_at serial state ≡ Some r
given_once_by (Register kind handler) state serial r h f = by_full (is_full state) f
  where
    by_full : (b : Bool) → live_at serial (cond b state (registered kind handler state)) ≡ Some r → live_at serial state ≡ Some r
    by_full true g = g
    by_full false g =
        let v : Registration = record { serial = state.last + 1; kind = kind; handler = handler } in
        let differs : v.serial ≢ serial = omega (arith, h) in
        let same : live_at serial (registered kind handler state) ≡ live_at serial state = find-append (has_serial serial) state.live (v ∷ []) ∙ rw (ne_eqb v.serial serial differs) (option_or_none (live_at serial state)) in
        sym same ∙ g
given_once_by (Unregister x) state serial r h f = others_found x serial state.live r f

-- the last serial number never falls
pub later_last : (change : Change) (state : Registrations) → state.last ≤ (changed change state).last
later_last (Register kind handler) state = by_full (is_full state)
  where
    by_full : (b : Bool) → state.last ≤ (cond b state (registered kind handler state)).last
    by_full true = omega arith
    by_full false = omega arith
later_last (Unregister x) state = omega arith

pub given_once : (changes : List Change) (state : Registrations) (serial : ℕ) (r : Registration) → serial ≤ state.last → live_at serial (all_changed changes state) ≡ Some r → live_at serial state ≡ Some r
given_once [] state serial r h f = f
given_once (change ∷ rest) state serial r h f =
    let more = later_last change state in
    given_once_by change state serial r h (given_once rest (changed change state) serial r (omega (arith, h, more)) f)

fewer_others : (x : ℕ) (rs : List Registration) → length (others x rs) ≤ length rs
fewer_others x [] = omega arith
fewer_others x (h ∷ rest) = by_test (has_serial x h) (fewer_others x rest)
  where
    by_test : (b : Bool) → length (others x rest) ≤ length rest → length (cond (not b) (h ∷ others x rest) (others x rest)) ≤ suc (length rest)
    by_test true ih = omega (arith, ih)
    by_test false ih = omega (arith, ih)

pub kept : (change : Change) (state : Registrations) → IsRegistered state → IsRegistered (changed change state)
kept (Register kind handler) state k = by_full (is_full state) refl
  where
    by_full : (b : Bool) → is_full state ≡ b → IsRegistered (cond b state (registered kind handler state))
    by_full true e = k
    by_full false e =
        let few : length state.live ≤ 64 = k.few in
        record {
          few = grind (arith, common_steps, e, few);
          rising = rising_pushed serial_of 0 state.last state.live (record { serial = state.last + 1; kind = kind; handler = handler }) refl (omega arith) k.rising;
        }
kept (Unregister x) state k =
    record {
      few = omega (arith, k.few, fewer_others x state.live);
      rising = rising_filtered serial_of _ 0 state.last state.live k.rising;
    }

-- the registrations of a rising list are above its bound
above : (n last : ℕ) (rs : List Registration) (k : ℕ) (d : Registration) → IsRising n last rs → k < length rs → n < (get_or rs k d).serial
above n last [] k d r h = absurd (omega (arith, h))
above n last (x ∷ rest) zero d r h = r.0
above n last (x ∷ rest) (suc k) d r h = omega (arith, r.0, above x.serial last rest k d r.2 (omega (arith, h)))

least_at : (p : Registration → Bool) (n last : ℕ) (rs : List Registration) (k : ℕ) (d : Registration) (next : ℕ) → IsRising n last rs → option_map (λ r. r.serial) (find p rs) ≡ Some next → k < length rs → p (get_or rs k d) ≡ true → next ≤ (get_or rs k d).serial
least_at p n last [] k d next r f h e = absurd (omega (arith, h))
least_at p n last (x ∷ rest) k d next r f h e =
    by_test (λ k. least_at p x.serial last rest k d next r.2) (p x) refl k h e f
  where
    by_test : ((k : ℕ) → option_map (λ r. r.serial) (find p rest) ≡ Some next → k < length rest → p (get_or rest k d) ≡ true → next ≤ (get_or rest k d).serial) → (b : Bool) → p x ≡ b → (k : ℕ) → k < suc (length rest) → p (get_or (x ∷ rest) k d) ≡ true → option_map (λ r. r.serial) (cond b (Some x) (find p rest)) ≡ Some next → next ≤ (get_or (x ∷ rest) k d).serial
    by_test ih true t zero h e f = grind (arith, f)
    by_test ih true t (suc k) h e f =
        let more : x.serial < (get_or rest k d).serial = above x.serial last rest k d r.2 (omega (arith, h)) in
        grind (arith, f, more)
    by_test ih false t zero h e f = absurd (cc (t, e))
    by_test ih false t (suc k) h e f = ih k f (omega (arith, h)) e

pub least : (kind : HandlerType) (after next : ℕ) (state : Registrations) (r : Registration) → IsRegistered state → next_of kind after state ≡ Some next → Contains state.live r → is_on_after kind after r ≡ true → next ≤ r.serial
least kind after next state r k f m e =
    let due : is_on_after kind after (get_or state.live m.0 r) ≡ true = rw (m.2) e in
    let bound : next ≤ (get_or state.live m.0 r).serial = least_at (is_on_after kind after) 0 state.last state.live m.0 r next k.rising f m.1 due in
    rw m.2 at bound
