-- The turns of a walk by the registry's search: the handler to call next.
use Rattle.std.proofs.Common.{◌≡◌, ◌<◌, ◌≤◌, ◌+◌, ◌-◌, ◌&&◌, ℕ, zero, suc, Bool, true, false, List, [], ◌∷◌, Option, Some, None, refl, sym, ap, ◌∙◌, arith, cond, inl, inr}
use Rattle.std.proofs.lemmas.Bool.{eqb-true, eqb-false, ltb-true, lt-ltb, le-ltb, le-leb, lt-leb, ne_eqb, and_parts, and_from, and_cases, and_left, and_right, cases_lt}
use Rattle.std.specs.Prelude.{◌==◌, nat_lt, option_map, option_and_then}
use Rattle.std.specs.List.{find}
use Rattle.smm_base.specs.declared.kinds.HandlerType.{HandlerType}
use Rattle.handler_registry.specs.declared.registration.Registration.{Registration}
use Rattle.handler_registry.specs.Registrations.{Registrations, is_same_list, has_serial, is_on_after, next_of, handler_at, IsRising, IsRegistered}
use Rattle.smi_manage.specs.Walks as manage
use Rattle.serving_place.specs.Forms.{is_turn, turn_of, count_up}
use Rattle.serving_place.specs.Progresses.{first_handler, first_turn, turns_of}

-- a turn's serial number is above the first bound
turn_above : (kind : HandlerType) (n above last : ℕ) (rs : List Registration) (r : Registration) → IsRising above last rs → find (is_turn kind n) rs ≡ Some r → above < n
turn_above kind n above last [] r h e = absurd cc
turn_above kind n above last (x ∷ rs) r h e = at_test (is_turn kind n x) refl e (λ f. turn_above kind n x.serial last rs r h.2 f)
  where
    at_test : (b : Bool) → is_turn kind n x ≡ b → cond b (Some x) (find (is_turn kind n) rs) ≡ Some r → (find (is_turn kind n) rs ≡ Some r → x.serial < n) → above < n
    at_test true t e rec = let s = eqb-true x.serial n (and_parts _ _ t).0 in omega (arith, h.0, s)
    at_test false t e rec = omega (arith, h.0, rec e)

pub turn_serial : (kind : HandlerType) (n : ℕ) (rs : List Registration) (r : Registration) → find (is_turn kind n) rs ≡ Some r → r.serial ≡ n
turn_serial kind n [] r e = absurd cc
turn_serial kind n (x ∷ rs) r e = at_test (is_turn kind n x) refl e (turn_serial kind n rs r)
  where
    at_test : (b : Bool) → is_turn kind n x ≡ b → cond b (Some x) (find (is_turn kind n) rs) ≡ Some r → (find (is_turn kind n) rs ≡ Some r → r.serial ≡ n) → r.serial ≡ n
    at_test true t e rec = let s = eqb-true x.serial n (and_parts _ _ t).0 in let same : x ≡ r = cc in rw (← same) s
    at_test false t e rec = rec e

-- where a number has its turn it is the next one of the list, and the only one with its number
pub turn_found : (kind : HandlerType) (low above last : ℕ) (rs : List Registration) (r : Registration) → IsRising above last rs → find (is_turn kind (low + 1)) rs ≡ Some r
    → (find (is_on_after kind low) rs ≡ Some r) × (find (has_serial (low + 1)) rs ≡ Some r)
turn_found kind low above last [] r h e = absurd cc
turn_found kind low above last (x ∷ rs) r h e = at_test (is_turn kind (low + 1) x) refl e (turn_found kind low x.serial last rs r h.2)
  where
    at_test : (b : Bool) → is_turn kind (low + 1) x ≡ b → cond b (Some x) (find (is_turn kind (low + 1)) rs) ≡ Some r
        → (find (is_turn kind (low + 1)) rs ≡ Some r → (find (is_on_after kind low) rs ≡ Some r) × (find (has_serial (low + 1)) rs ≡ Some r))
        → (find (is_on_after kind low) (x ∷ rs) ≡ Some r) × (find (has_serial (low + 1)) (x ∷ rs) ≡ Some r)
    at_test true t e rec =
        let s = eqb-true x.serial (low + 1) (and_parts _ _ t).0 in
        let on : is_on_after kind low x ≡ true = and_from _ _ (and_parts _ _ t).1 (lt-ltb low x.serial (omega (arith, s))) in
        let has : has_serial (low + 1) x ≡ true = (and_parts _ _ t).0 in
        (rw on e, rw has e)
    at_test false t e rec =
        let lt = turn_above kind (low + 1) x.serial last rs r h.2 e in
        let on : is_on_after kind low x ≡ false = and_right _ _ (le-ltb low x.serial (omega (arith, lt))) in
        let has : has_serial (low + 1) x ≡ false = ne_eqb x.serial (low + 1) (omega (arith, lt)) in
        (rw on (rec e).0, rw has (rec e).1)

later_same : (low s : ℕ) → (s == low + 1) ≡ false → nat_lt low s ≡ nat_lt (low + 1) s
later_same low s e = elim (cases_lt (low + 1) s) [
  | inl a ↦ rw (lt-ltb (low + 1) s a, lt-ltb low s (omega (arith, a))) refl
  | inr b ↦ (let differs = eqb-false s (low + 1) e in rw (le-ltb (low + 1) s b, le-ltb low s (omega (arith, b, differs))) refl)
]

-- where a number has no turn the search goes on behind it
pub turn_none : (kind : HandlerType) (low : ℕ) (rs : List Registration) → find (is_turn kind (low + 1)) rs ≡ None → find (is_on_after kind low) rs ≡ find (is_on_after kind (low + 1)) rs
turn_none kind low [] e = refl
turn_none kind low (x ∷ rs) e = at_test (is_turn kind (low + 1) x) refl e (turn_none kind low rs)
  where
    at_test : (b : Bool) → is_turn kind (low + 1) x ≡ b → cond b (Some x) (find (is_turn kind (low + 1)) rs) ≡ None
        → (find (is_turn kind (low + 1)) rs ≡ None → find (is_on_after kind low) rs ≡ find (is_on_after kind (low + 1)) rs)
        → find (is_on_after kind low) (x ∷ rs) ≡ find (is_on_after kind (low + 1)) (x ∷ rs)
    at_test true t e rec = absurd cc
    at_test false t e rec =
        let on : is_on_after kind low x ≡ is_on_after kind (low + 1) x = elim (and_cases _ _ t) [
          | inl n ↦ ap (λ b. is_same_list x.kind kind && b) (later_same low x.serial n)
          | inr n ↦ (and_left _ _ n ∙ sym (and_left _ _ n))
        ] in
        rw (on, rec e) refl

-- nothing at or below the bound is found above it
pub none_below : (kind : HandlerType) (bound low : ℕ) (rs : List Registration) → bound ≤ low → manage.at_most bound (option_map (λ r. r.serial) (find (is_on_after kind low) rs)) ≡ None
none_below kind bound low [] h = refl
none_below kind bound low (x ∷ rs) h = at_test (is_on_after kind low x) refl (none_below kind bound low rs h)
  where
    at_test : (b : Bool) → is_on_after kind low x ≡ b → manage.at_most bound (option_map (λ r. r.serial) (find (is_on_after kind low) rs)) ≡ None
        → manage.at_most bound (option_map (λ r. r.serial) (cond b (Some x) (find (is_on_after kind low) rs))) ≡ None
    at_test true t rec = let lt = ltb-true low x.serial (and_parts _ _ t).1 in rw (lt-leb x.serial bound (omega (arith, h, lt))) refl
    at_test false t rec = rec

-- the handler of the first turn is that of the next serial number
first_is : (kind : HandlerType) (g : Registrations) (low count bound : ℕ) → IsRegistered g → bound ≡ low + count
    → first_turn kind (count_up low count) g ≡ option_and_then (λ n. handler_at n g) (manage.at_most bound (next_of kind low g))
first_is kind g low zero bound h e = sym (ap (option_and_then (λ n. handler_at n g)) (none_below kind bound low g.live (omega (arith, e))))
first_is kind g low (suc count) bound h e = at_turn (turn_of kind g (low + 1)) refl (first_is kind g (low + 1) count bound h (omega (arith, e)))
  where
    at_turn : (o : Option Registration) → turn_of kind g (low + 1) ≡ o
        → first_turn kind (count_up (low + 1) count) g ≡ option_and_then (λ n. handler_at n g) (manage.at_most bound (next_of kind (low + 1) g))
        → first_handler o (first_turn kind (count_up (low + 1) count) g) ≡ option_and_then (λ n. handler_at n g) (manage.at_most bound (next_of kind low g))
    at_turn None t rec = rw (turn_none kind low g.live t) rec
    at_turn (Some r) t rec =
        let f = turn_found kind low 0 g.last g.live r h.rising t in
        let s = turn_serial kind (low + 1) g.live r t in
        rw (f.0, s, le-leb (low + 1) bound (omega (arith, e)), f.1) refl

-- the same of a walk
pub first_turn_is : (m : manage.Walk) (g : Registrations) → IsRegistered g → first_turn m.kind (turns_of m) g ≡ option_and_then (λ n. handler_at n g) (manage.turn_of m g)
first_turn_is m g h = at_stop (manage.is_stopped m)
  where
    going : first_turn m.kind (count_up m.before (m.bound - m.before)) g ≡ option_and_then (λ n. handler_at n g) (manage.at_most m.bound (next_of m.kind m.before g))
    going = elim (cases_lt m.before m.bound) [
      | inl a ↦ first_is m.kind g m.before (m.bound - m.before) m.bound h (omega (arith, a))
      | inr b ↦ (let none : m.bound - m.before ≡ 0 = omega (arith, b) in
          rw none (sym (ap (option_and_then (λ n. handler_at n g)) (none_below m.kind m.bound m.before g.live b))))
    ]

    at_stop : (b : Bool) → first_turn m.kind (cond b [] (count_up m.before (m.bound - m.before))) g
        ≡ option_and_then (λ n. handler_at n g) (cond b None (manage.at_most m.bound (next_of m.kind m.before g)))
    at_stop true = refl
    at_stop false = going
