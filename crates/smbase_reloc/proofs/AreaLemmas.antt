-- The places of an area that has room for its processors are disjoint.
use Rattle.std.proofs.Common.{◌≡◌, ◌≢◌, ℕ, suc, ◌+◌, ◌-◌, ◌*◌, ◌<◌, ◌≤◌, inl, inr, Bool, true, false, ◌||◌, ◌==◌, not, if◌then◌else◌, Option, Some, None, refl, arith}
use Rattle.std.proofs.Math.Nat.{mul-le-mul_right, add-mul}
use Rattle.std.proofs.lemmas.Bool.{or_cases, eqb-true, cases_lt}
use Rattle.std.specs.Prelude.{nat_lt}
use Rattle.cpu_table.specs.Layout.{is_tile, areas_end, layout_refusal}
use Rattle.cpu_table.specs.declared.layout.LayoutError.{LayoutError}
use Rattle.cpu_table.specs.declared.layout.LayoutError.TheVariants.{BadTile, CodeTooLong, Low, PastEnd}
use Rattle.cpu_table.specs.declared.setup.Smram.{Smram}
use Rattle.smbase_reloc.specs.Areas.{Interval, AreDisjoint, Use, EntryCode, SaveState, place_of, PlacesAreDisjoint, PlacesAvoidDefault, PlacesAreWithin}

-- what an area has that is not refused: so many tiles are 8000H
pub record IsAccepted (area : Smram) (n : ℕ) : Type 0 where
  pub tiles : ℕ
  pub some : 1 ≤ tiles
  pub tile : tiles * area.tile ≡ 0x8000
  pub wide : 2048 ≤ area.tile
  pub code : area.code + 1024 ≤ area.tile
  pub base : 0x40000 ≤ area.base
  pub end : areas_end area n ≤ area.base + area.size

not_refused : (b : Bool) (error : LayoutError) (rest : Option LayoutError) → (if b then Some error else rest) ≡ None → (b ≡ false) × (rest ≡ None)
not_refused true error rest h = absurd cc
not_refused false error rest h = (refl, h)

is_true : (b : Bool) → not b ≡ false → b ≡ true
is_true true h = refl
is_true false h = absurd cc

not_less : (a b : ℕ) → nat_lt a b ≡ false → b ≤ a
not_less a b h = grind arith

-- each tile divides 8000H
record Tiles (tile : ℕ) : Type 0 where
  count : ℕ
  some : 1 ≤ count
  whole : count * tile ≡ 0x8000
  wide : 2048 ≤ tile

tiles_of : (tile : ℕ) → is_tile tile ≡ true → Tiles tile
tiles_of tile h =
    elim (or_cases (tile == 2048 || tile == 4096 || tile == 8192 || tile == 16384) (tile == 32768) h) [
      | inr e ↦ let is = eqb-true tile 32768 e in record { count = 1; some = omega arith; whole = omega (arith, is); wide = omega (arith, is) }
      | inl f ↦ elim (or_cases (tile == 2048 || tile == 4096 || tile == 8192) (tile == 16384) f) [
        | inr e ↦ let is = eqb-true tile 16384 e in record { count = 2; some = omega arith; whole = omega (arith, is); wide = omega (arith, is) }
        | inl g ↦ elim (or_cases (tile == 2048 || tile == 4096) (tile == 8192) g) [
          | inr e ↦ let is = eqb-true tile 8192 e in record { count = 4; some = omega arith; whole = omega (arith, is); wide = omega (arith, is) }
          | inl i ↦ elim (or_cases (tile == 2048) (tile == 4096) i) [
            | inr e ↦ let is = eqb-true tile 4096 e in record { count = 8; some = omega arith; whole = omega (arith, is); wide = omega (arith, is) }
            | inl e ↦ let is = eqb-true tile 2048 e in record { count = 16; some = omega arith; whole = omega (arith, is); wide = omega (arith, is) }
          ]
        ]
      ]
    ]

pub accepted : (area : Smram) (n : ℕ) → layout_refusal area n ≡ None → IsAccepted area n
accepted area n h =
    let a = not_refused (not (is_tile area.tile)) (BadTile area.tile) _ h in
    let b = not_refused (nat_lt (area.tile - 1024) area.code) (CodeTooLong area.code) _ a.1 in
    let c = not_refused (nat_lt area.base 262144) (Low area.base) _ b.1 in
    let d = not_refused (nat_lt (area.base + area.size) (areas_end area n)) (PastEnd (areas_end area n)) _ c.1 in
    let t = tiles_of area.tile (is_true (is_tile area.tile) a.0) in
    let code : area.code ≤ area.tile - 1024 = not_less _ _ b.0 in
    record {
      tiles = t.count;
      some = t.some;
      tile = t.whole;
      wide = t.wide;
      code = omega (arith, code, t.wide);
      base = not_less _ _ c.0;
      end = not_less _ _ d.0;
    }

-- a later processor's tile is at least one tile further
further : (i j tile : ℕ) → i < j → i * tile + tile ≤ j * tile
further i j tile lt =
    let le : suc i * tile ≤ j * tile = mul-le-mul_right tile lt in omega (arith, le)

two_entries : (area : Smram) (n i j : ℕ) → IsAccepted area n → i < j → AreDisjoint (place_of area i EntryCode) (place_of area j EntryCode)
two_entries area n i j h lt = inl (omega (arith, further i j area.tile lt, h.code, h.base))

two_states : (area : Smram) (n i j : ℕ) → IsAccepted area n → i < j → AreDisjoint (place_of area i SaveState) (place_of area j SaveState)
two_states area n i j h lt = inl (omega (arith, further i j area.tile lt, h.wide, h.base))

swapped : (a b : Interval) → AreDisjoint a b → AreDisjoint b a
swapped a b (inl h) = inr h
swapped a b (inr h) = inl h

-- a save state ends where a tile ends, and the code leaves the end of each tile free
entry_and_state : (area : Smram) (n i j : ℕ) → IsAccepted area n → AreDisjoint (place_of area i EntryCode) (place_of area j SaveState)
entry_and_state area n i j h =
    let split : (j + h.tiles) * area.tile ≡ j * area.tile + h.tiles * area.tile = add-mul j h.tiles area.tile in
    elim (cases_lt i (j + h.tiles)) [
      | inl lt ↦ inl (omega (arith, further i (j + h.tiles) area.tile lt, split, h.tile, h.code, h.base))
      | inr le ↦ let above : (j + h.tiles) * area.tile ≤ i * area.tile = mul-le-mul_right area.tile le in
          inr (omega (arith, above, split, h.tile, h.base))
    ]

of_one_use : (area : Smram) (n i j : ℕ) (u : Use) → IsAccepted area n → i ≢ j → AreDisjoint (place_of area i u) (place_of area j u)
of_one_use area n i j EntryCode h other =
    elim (cases_lt i j) [
      | inl lt ↦ two_entries area n i j h lt
      | inr le ↦ swapped _ _ (two_entries area n j i h (omega (arith, le, other)))
    ]
of_one_use area n i j SaveState h other =
    elim (cases_lt i j) [
      | inl lt ↦ two_states area n i j h lt
      | inr le ↦ swapped _ _ (two_states area n j i h (omega (arith, le, other)))
    ]

pub disjoint : (area : Smram) (n : ℕ) → layout_refusal area n ≡ None → PlacesAreDisjoint area n
disjoint area n none i j EntryCode EntryCode below below' (inl other) = of_one_use area n i j EntryCode (accepted area n none) other
disjoint area n none i j EntryCode EntryCode below below' (inr other) = absurd (other refl)
disjoint area n none i j EntryCode SaveState below below' other = entry_and_state area n i j (accepted area n none)
disjoint area n none i j SaveState EntryCode below below' other = swapped _ _ (entry_and_state area n j i (accepted area n none))
disjoint area n none i j SaveState SaveState below below' (inl other) = of_one_use area n i j SaveState (accepted area n none) other
disjoint area n none i j SaveState SaveState below below' (inr other) = absurd (other refl)

pub avoid_default : (area : Smram) (n : ℕ) → layout_refusal area n ≡ None → PlacesAvoidDefault area n
avoid_default area n none i EntryCode below = let h = accepted area n none in inr (omega (arith, h.base))
avoid_default area n none i SaveState below = let h = accepted area n none in inr (omega (arith, h.base))

within_tile : (tiles tile : ℕ) → 1 ≤ tiles → tiles * tile ≡ 0x8000 → tile ≤ 0x8000
within_tile tiles tile some whole =
    let le : 1 * tile ≤ tiles * tile = mul-le-mul_right tile some in omega (arith, le, whole)

pub within : (area : Smram) (n : ℕ) → layout_refusal area n ≡ None → PlacesAreWithin area n
within area n none i u below =
    let h = accepted area n none in
    let last : i ≤ n - 1 = omega arith in
    let le : i * area.tile ≤ (n - 1) * area.tile = mul-le-mul_right area.tile last in
    let tile : area.tile ≤ 0x8000 = within_tile h.tiles area.tile h.some h.tile in
    elim u as (λ v. (area.base ≤ (place_of area i v).first) × ((place_of area i v).after ≤ area.base + area.size)) [
      | EntryCode ↦ (omega (arith, h.base), omega (arith, le, tile, h.code, h.base, h.end))
      | SaveState ↦ (omega (arith, h.base), omega (arith, le, h.base, h.end))
    ]
