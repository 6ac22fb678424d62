-- What a new value, a value less and a value for a value keep of a slab and the order of its keys, and what is then at the keys.
use Rattle.std.proofs.Common.{◌≡◌, ℕ, ◌+◌, ◌<◌, Bool, true, false, List, [], ◌∷◌, ◌++◌, length, get_or, Option, Some, None, IsSome, refl, sym, ◌∙◌, arith}
use Rattle.std.specs.List.{All, position, remove}
use Rattle.std.specs.Option.{option_map_or}
use Rattle.std.proofs.lemmas.Grind.{common_steps}
use Rattle.std.proofs.lemmas.List.{get_or_default}
use Rattle.std.proofs.lemmas.List.Folds.{list_any_none}
use Rattle.std.proofs.lemmas.List.Edits.{length-remove}
use Rattle.std.proofs.lemmas.List.Quantifiers.{position-Some}
use Rattle.slab.specs.Slab.{Slab, get, slab_len, Updates}
use Rattle.slab_order.specs.Order.{values_at}
use Rattle.slab_order.specs.Numbered.{is_numbered, is_at, without, IsRisingBy, IsOrderedBy}
use Rattle.slab_order.proofs.OrderLemmas.{length-values, apart_vacant, order_pushed, values_pushed, order_removed, order_set, any_values}
use Rattle.slab_order.proofs.RisingLemmas.{rising_filtered, without_none, values_removed}

pub has_value : {T : Type 0} (p : T → Bool) (o : Option T) → option_map_or p o false ≡ true → IsSome o
has_value p None h = absurd (grind (arith, h))
has_value p (Some v) h = refl

-- a key whose value has the number, found as the first of the order
pub record IsFound {T : Type 0} (number : T → ℕ) (slab : Slab T) (order : List ℕ) (n i key : ℕ) : Type 0 where
  pub within : i < length order
  pub at : get_or order i 0 ≡ key
  pub here : is_at number slab n key ≡ true
  pub before : (j : ℕ) → j < i → is_at number slab n (get_or order j 0) ≡ false

module _ {T : Type 0} (number : T → ℕ) where
  pub length_shown : (slab : Slab T) (order : List ℕ) (most room last : ℕ) → IsOrderedBy number slab order most room last → length (values_at slab order) ≡ length order
  length_shown slab order most room last k = length-values slab order k.ordered

  pub shown_more : (slab new : Slab T) (key : ℕ) (v : T) (order : List ℕ) (most room last : ℕ) →
      IsOrderedBy number slab order most room last → get slab key ≡ None → Updates slab new key (Some v) →
      values_at new (order ++ key ∷ []) ≡ values_at slab order ++ v ∷ []
  shown_more slab new key v order most room last k vacant u = values_pushed slab new key v order u (apart_vacant slab key order k.ordered vacant)

  pub kept_more : (slab new : Slab T) (key : ℕ) (v : T) (order : List ℕ) (most room last later : ℕ) →
      IsOrderedBy number slab order most room last → get slab key ≡ None → Updates slab new key (Some v) →
      slab_len new ≡ slab_len slab + 1 → new.capacity ≡ slab.capacity → length order < most →
      IsRisingBy number 0 later (values_at slab order ++ v ∷ []) →
      IsOrderedBy number new (order ++ key ∷ []) most room later
  kept_more slab new key v order most room last later k vacant u count capacity few rising =
      record {
        ordered = order_pushed slab new key v order u (apart_vacant slab key order k.ordered vacant) k.ordered;
        counted = grind (arith, common_steps, count, k.counted);
        few = grind (arith, common_steps, few);
        slab_room = omega (arith, capacity, k.slab_room);
        order_room = k.order_room;
        rising = rw (shown_more slab new key v order most room last k vacant u) rising;
      }

  pub found_place : (slab : Slab T) (order : List ℕ) (n i key : ℕ) → position (is_at number slab n) order ≡ Some i → key ≡ get_or order i key → IsFound number slab order n i key
  found_place slab order n i key p e =
      let h = position-Some (is_at number slab n) order i 0 p in
      let at : get_or order i 0 ≡ key = get_or_default order i 0 key h.0 ∙ sym e in
      record { within = h.0; at = at; here = rw at at (h.1); before = h.2 }

  pub shown_less : (slab new : Slab T) (key n : ℕ) (order : List ℕ) (i most room last : ℕ) →
      IsOrderedBy number slab order most room last → IsFound number slab order n i key → Updates slab new key None →
      values_at new (remove order i) ≡ without number n (values_at slab order)
  shown_less slab new key n order i most room last k f u =
      values_removed number slab new key n order i 0 last u f.within f.at f.here f.before k.ordered k.rising

  pub kept_less : (slab new : Slab T) (key n : ℕ) (order : List ℕ) (i most room last : ℕ) →
      IsOrderedBy number slab order most room last → IsFound number slab order n i key → Updates slab new key None →
      slab_len new + 1 ≡ slab_len slab → new.capacity ≡ slab.capacity →
      IsOrderedBy number new (remove order i) most room last
  kept_less slab new key n order i most room last k f u count capacity =
      let fewer = length-remove order i f.within in
      record {
        ordered = order_removed slab new key order i u f.within f.at k.ordered;
        counted = omega (arith, count, k.counted, fewer);
        few = omega (arith, k.few, fewer);
        slab_room = omega (arith, capacity, k.slab_room);
        order_room = k.order_room;
        rising = rw (shown_less slab new key n order i most room last k f u) (rising_filtered number _ 0 last (values_at slab order) k.rising);
      }

  pub shown_same : (slab : Slab T) (order : List ℕ) (n : ℕ) → All (λ key. is_at number slab n key ≡ false) order → values_at slab order ≡ without number n (values_at slab order)
  shown_same slab order n h = sym (without_none number n (values_at slab order) (any_values (is_numbered number n) slab order ∙ list_any_none (is_at number slab n) order h))

  pub kept_set : (slab new : Slab T) (key : ℕ) (v : T) (order : List ℕ) (most room last : ℕ) →
      IsOrderedBy number slab order most room last → Updates slab new key (Some v) →
      slab_len new ≡ slab_len slab → new.capacity ≡ slab.capacity →
      IsRisingBy number 0 last (values_at new order) →
      IsOrderedBy number new order most room last
  kept_set slab new key v order most room last k u count capacity rising =
      record {
        ordered = order_set slab new key v order u k.ordered;
        counted = omega (arith, count, k.counted);
        few = k.few;
        slab_room = omega (arith, capacity, k.slab_room);
        order_room = k.order_room;
        rising = rising;
      }
