-- Lemmas on values by rising number.
use Rattle.std.proofs.Common.{◌≡◌, ◌≢◌, ℕ, zero, suc, ◌+◌, ◌<◌, ◌≤◌, Bool, true, false, ◌||◌, not, cond, List, [], ◌∷◌, ◌++◌, length, get_or, Option, Some, None, refl, sym, subst, ◌∙◌, arith, ne_eqb}
use Rattle.std.specs.List.{cons_option, filter, list_any, remove}
use Rattle.std.specs.Option.{option_map_or}
use Rattle.slab.specs.Slab.{Slab, get, Updates}
use Rattle.slab_order.specs.Order.{values_at, IsApart, IsOrder}
use Rattle.slab_order.specs.Numbered.{is_numbered, is_at, without, IsRisingBy}
use Rattle.slab_order.proofs.OrderLemmas.{values_apart, apart_at}

module _ {T : Type 0} (number : T → ℕ) where
  rising_lower : (a b last : ℕ) (vs : List T) → a ≤ b → IsRisingBy number b last vs → IsRisingBy number a last vs
  rising_lower a b last [] h r = tt
  rising_lower a b last (v ∷ rest) h r = (omega (arith, h, r.0), r.1, r.2)

  pub rising_more : (a last later : ℕ) (vs : List T) → last ≤ later → IsRisingBy number a last vs → IsRisingBy number a later vs
  rising_more a last later [] h r = tt
  rising_more a last later (v ∷ rest) h r = (r.0, omega (arith, h, r.1), rising_more (number v) last later rest h r.2)

  -- the next number
  pub rising_pushed : (a last : ℕ) (vs : List T) (v : T) → number v ≡ last + 1 → a ≤ last → IsRisingBy number a last vs → IsRisingBy number a (last + 1) (vs ++ v ∷ [])
  rising_pushed a last [] v e h r = (omega (arith, e, h), omega (arith, e), tt)
  rising_pushed a last (x ∷ rest) v e h r = (r.0, omega (arith, r.1), rising_pushed (number x) last rest v e r.1 r.2)

  rising_head : (b : Bool) (a last : ℕ) (v : T) (vs : List T) → a < number v → number v ≤ last → IsRisingBy number (number v) last vs → IsRisingBy number a last (cond b (v ∷ vs) vs)
  rising_head true a last v vs h k r = (h, k, r)
  rising_head false a last v vs h k r = rising_lower a (number v) last vs (omega (arith, h)) r

  pub rising_filtered : (p : T → Bool) (a last : ℕ) (vs : List T) → IsRisingBy number a last vs → IsRisingBy number a last (filter p vs)
  rising_filtered p a last [] r = tt
  rising_filtered p a last (v ∷ rest) r = rising_head (p v) a last v (filter p rest) r.0 r.1 (rising_filtered p (number v) last rest r.2)

  pub rising_rest : (o : Option T) (vs : List T) (a last : ℕ) → IsRisingBy number a last (cons_option o vs) → (b : ℕ) × IsRisingBy number b last vs
  rising_rest None vs a last r = (a, r)
  rising_rest (Some v) vs a last r = (number v, r.2)

  -- values with greater numbers stay
  without_above : (n a last : ℕ) (vs : List T) → n ≤ a → IsRisingBy number a last vs → without number n vs ≡ vs
  without_above n a last [] h r = refl
  without_above n a last (v ∷ rest) h r =
      let differs : number v ≢ n = omega (arith, h, r.0) in
      rw (ne_eqb (number v) n differs, without_above n (number v) last rest (omega (arith, h, r.0)) r.2) refl

  pub without_none : (n : ℕ) (vs : List T) → list_any (is_numbered number n) vs ≡ false → without number n vs ≡ vs
  without_none n [] e = refl
  without_none n (v ∷ rest) e = by_test (is_numbered number n v) e (without_none n rest)
    where
      by_test : (b : Bool) → (b || list_any (is_numbered number n) rest) ≡ false → (list_any (is_numbered number n) rest ≡ false → without number n rest ≡ rest) → cond (not b) (v ∷ without number n rest) (without number n rest) ≡ v ∷ rest
      by_test true g ih = absurd (cc g)
      by_test false g ih = rw (ih g) refl

  removed_here : (o : Option T) (vs : List T) (n a last : ℕ) → option_map_or (is_numbered number n) o false ≡ true → IsRisingBy number a last (cons_option o vs) → vs ≡ without number n (cons_option o vs)
  removed_here None vs n a last h r = absurd (grind (arith, h))
  removed_here (Some v) vs n a last h r =
      let same : number v ≡ n = grind (arith, h) in
      rw (h) (sym (without_above n (number v) last vs (omega (arith, same)) r.2))

  removed_later : (o : Option T) (vs left : List T) (n : ℕ) → option_map_or (is_numbered number n) o false ≡ false → left ≡ without number n vs → cons_option o left ≡ without number n (cons_option o vs)
  removed_later None vs left n h e = e
  removed_later (Some v) vs left n h e = rw (h, e) refl

  -- without the first key whose value has the number
  pub values_removed : (slab new : Slab T) (key n : ℕ) (keys : List ℕ) (i a last : ℕ) →
      Updates slab new key None → i < length keys → get_or keys i 0 ≡ key →
      is_at number slab n key ≡ true →
      ((j : ℕ) → j < i → is_at number slab n (get_or keys j 0) ≡ false) →
      IsOrder slab keys → IsRisingBy number a last (values_at slab keys) →
      values_at new (remove keys i) ≡ without number n (values_at slab keys)
  values_removed slab new key n [] i a last u h at found before o r = absurd (omega (arith, h))
  values_removed slab new key n (k ∷ rest) zero a last u h at found before o r =
      values_apart slab new key None rest u (subst (λ (x : ℕ). IsApart x rest) at o.1) ∙
      removed_here (get slab k) (values_at slab rest) n a last (rw at found) r
  values_removed slab new key n (k ∷ rest) (suc i) a last u h at found before o r =
      let within : i < length rest = omega (arith, h) in
      let kept : get new k ≡ get slab k = u.others k (λ (e : k ≡ key). apart_at k rest i o.1 within (at ∙ sym e)) in
      let below = rising_rest (get slab k) (values_at slab rest) a last r in
      rw kept (removed_later (get slab k) (values_at slab rest) (values_at new (remove rest i)) n
      (before 0 (omega arith))
      (values_removed slab new key n rest i below.0 last u within at found (λ j b. before (suc j) (omega (arith, b))) o.2 below.1))
