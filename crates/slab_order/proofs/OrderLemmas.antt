-- Lemmas on the values of a slab in an order of their keys.
use Rattle.std.proofs.Common.{◌≡◌, ◌≢◌, ℕ, zero, suc, ◌<◌, Bool, true, false, ◌||◌, cond, List, [], ◌∷◌, ◌++◌, length, get_or, Option, Some, None, IsSome, refl, sym, ap, subst, ◌∙◌, inl, inr, arith}
use Rattle.std.proofs.lemmas.Bool.{cases_eq}
use Rattle.std.specs.List.{cons_option, find, list_any, remove}
use Rattle.std.specs.Option.{option_map_or, option_and_then}
use Rattle.slab.specs.Slab.{Slab, get, Updates}
use Rattle.slab_order.specs.Order.{values_at, IsApart, IsOrder}

apart_pushed : (k key : ℕ) (keys : List ℕ) → IsApart k keys → key ≢ k → IsApart k (keys ++ key ∷ [])
apart_pushed k key [] a n = (n, tt)
apart_pushed k key (x ∷ rest) a n = (a.0, apart_pushed k key rest a.1 n)

apart_removed : (k : ℕ) (keys : List ℕ) (i : ℕ) → i < length keys → IsApart k keys → IsApart k (remove keys i)
apart_removed k [] i h a = absurd (omega (arith, h))
apart_removed k (x ∷ rest) zero h a = a.1
apart_removed k (x ∷ rest) (suc i) h a = (a.0, apart_removed k rest i (omega (arith, h)) a.1)

pub apart_at : (k : ℕ) (keys : List ℕ) (i : ℕ) → IsApart k keys → i < length keys → get_or keys i 0 ≢ k
apart_at k [] i a h = absurd (omega (arith, h))
apart_at k (x ∷ rest) zero a h = a.0
apart_at k (x ∷ rest) (suc i) a h = apart_at k rest i a.1 (omega (arith, h))

module _ {T : Type 0} where
  -- a change at a key that is none of these leaves their values
  pub values_apart : (slab new : Slab T) (key : ℕ) (slot : Option T) (keys : List ℕ) → Updates slab new key slot → IsApart key keys → values_at new keys ≡ values_at slab keys
  values_apart slab new key slot [] u a = refl
  values_apart slab new key slot (k ∷ rest) u a = cc (u.others k a.0, values_apart slab new key slot rest u a.1)

  -- a key with no value is none of an order's
  pub apart_vacant : (slab : Slab T) (key : ℕ) (keys : List ℕ) → IsOrder slab keys → get slab key ≡ None → IsApart key keys
  apart_vacant slab key [] o vacant = tt
  apart_vacant slab key (k ∷ rest) o vacant =
      (λ (e : k ≡ key). grind (arith, o.0, vacant, e), apart_vacant slab key rest o.2 vacant)

  order_apart : (slab new : Slab T) (key : ℕ) (slot : Option T) (keys : List ℕ) → Updates slab new key slot → IsApart key keys → IsOrder slab keys → IsOrder new keys
  order_apart slab new key slot [] u a o = tt
  order_apart slab new key slot (k ∷ rest) u a o =
      (rw (u.others k a.0) (o.0), o.1, order_apart slab new key slot rest u a.1 o.2)

  -- a new value under a new key
  pub order_pushed : (slab new : Slab T) (key : ℕ) (v : T) (keys : List ℕ) → Updates slab new key (Some v) → IsApart key keys → IsOrder slab keys → IsOrder new (keys ++ key ∷ [])
  order_pushed slab new key v [] u a o = (rw u.changed refl, tt, tt)
  order_pushed slab new key v (k ∷ rest) u a o =
      (rw (u.others k a.0) (o.0), apart_pushed k key rest o.1 (λ (e : key ≡ k). a.0 (sym e)), order_pushed slab new key v rest u a.1 o.2)

  pushed_head : (o : Option T) (vs : List T) (v : T) → cons_option o (vs ++ v ∷ []) ≡ cons_option o vs ++ v ∷ []
  pushed_head None vs v = refl
  pushed_head (Some x) vs v = refl

  pub values_pushed : (slab new : Slab T) (key : ℕ) (v : T) (keys : List ℕ) → Updates slab new key (Some v) → IsApart key keys → values_at new (keys ++ key ∷ []) ≡ values_at slab keys ++ v ∷ []
  values_pushed slab new key v [] u a = rw u.changed refl
  values_pushed slab new key v (k ∷ rest) u a =
      rw (u.others k a.0, values_pushed slab new key v rest u a.1) (pushed_head (get slab k) (values_at slab rest) v)

  length_head : (o : Option T) (vs : List T) (n : ℕ) → IsSome o → length vs ≡ n → length (cons_option o vs) ≡ suc n
  length_head None vs n h e = absurd (grind (arith, h))
  length_head (Some v) vs n h e = ap suc e

  -- each key of an order has a value
  pub length-values : (slab : Slab T) (keys : List ℕ) → IsOrder slab keys → length (values_at slab keys) ≡ length keys
  length-values slab [] o = refl
  length-values slab (k ∷ rest) o = length_head (get slab k) (values_at slab rest) (length rest) o.0 (length-values slab rest o.2)

  -- the order without the key whose value was taken out
  pub order_removed : (slab new : Slab T) (key : ℕ) (keys : List ℕ) (i : ℕ) → Updates slab new key None → i < length keys → get_or keys i 0 ≡ key → IsOrder slab keys → IsOrder new (remove keys i)
  order_removed slab new key [] i u h at o = absurd (omega (arith, h))
  order_removed slab new key (k ∷ rest) zero u h at o =
      order_apart slab new key None rest u (subst (λ (x : ℕ). IsApart x rest) at o.1) o.2
  order_removed slab new key (k ∷ rest) (suc i) u h at o =
      let within : i < length rest = omega (arith, h) in (
        rw (u.others k (λ (e : k ≡ key). apart_at k rest i o.1 within (at ∙ sym e))) (o.0),
        apart_removed k rest i within o.1,
        order_removed slab new key rest i u within at o.2,
      )

  find_head : (p : T → Bool) (values : ℕ → Option T) (k : ℕ) (o : Option T) (vs : List T) (found : Option ℕ) → values k ≡ o → find p vs ≡ option_and_then values found → find p (cons_option o vs) ≡ option_and_then values (cond (option_map_or p o false) (Some k) found)
  find_head p values k None vs found e ih = ih
  find_head p values k (Some v) vs found e ih = by_test (p v)
    where
      by_test : (b : Bool) → cond b (Some v) (find p vs) ≡ option_and_then values (cond b (Some k) found)
      by_test true = sym e
      by_test false = ih

  -- the first value that passes is the value at the first key whose value passes
  pub find_values : (p : T → Bool) (slab : Slab T) (keys : List ℕ) → find p (values_at slab keys) ≡ option_and_then (get slab) (find (λ key. option_map_or p (get slab key) false) keys)
  find_values p slab [] = refl
  find_values p slab (k ∷ rest) = find_head p (get slab) k (get slab k) (values_at slab rest) (find (λ key. option_map_or p (get slab key) false) rest) refl (find_values p slab rest)

  any_head : (p : T → Bool) (o : Option T) (vs : List T) (b : Bool) → list_any p vs ≡ b → list_any p (cons_option o vs) ≡ (option_map_or p o false || b)
  any_head p None vs b ih = ih
  any_head p (Some v) vs b ih = rw ih refl

  pub any_values : (p : T → Bool) (slab : Slab T) (keys : List ℕ) → list_any p (values_at slab keys) ≡ list_any (λ key. option_map_or p (get slab key) false) keys
  any_values p slab [] = refl
  any_values p slab (k ∷ rest) = any_head p (get slab k) (values_at slab rest) (list_any (λ key. option_map_or p (get slab key) false) rest) (any_values p slab rest)

  -- a value for a value
  pub order_set : (slab new : Slab T) (key : ℕ) (v : T) (keys : List ℕ) → Updates slab new key (Some v) → IsOrder slab keys → IsOrder new keys
  order_set slab new key v [] u o = tt
  order_set slab new key v (k ∷ rest) u o = (still_there, o.1, order_set slab new key v rest u o.2)
    where
      still_there : IsSome (get new k)
      still_there = elim (cases_eq k key) [ inl same ↦ rw (ap (get new) same ∙ u.changed) refl | inr differs ↦ rw (u.others k differs) (o.0) ]
