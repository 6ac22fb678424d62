-- Desks that are given up and put back, and the desks that are held as a set of bits.
use Rattle.std.proofs.Common.{◌≡◌, ◌∙◌, ℕ, ◌+◌, ◌*◌, ◌^◌, ◌%◌, ◌<◌, ◌≤◌, ◌==◌, Bool, true, false, map, length, Option, Some, None, slice_set, sym, ap, subst, bit_or, inl, inr, w64, arith}
use Rattle.std.proofs.lemmas.List.{set-set, set_past, get_or_past, length-map}
use Rattle.std.proofs.lemmas.Bool.{cases_eq, cases_lt}
use Rattle.std.proofs.lemmas.Nat.{one_shl, or_lt, pow-add, pow_pos}
use Rattle.std.proofs.lemmas.Nat.Bits.{bit_at_set_same, bit_at_set_other, bit_at_above}
use Rattle.std.specs.Prelude.{option_map, is_some}
use Rattle.std.specs.List.{range_with_len}
use Rattle.exit_handshake.specs.Desks.{is_set, desks_of}
use Rattle.handler_ops.specs.declared.desk.Desk.{Desk}
use Rattle.handler_ops.specs.Course.{Desks, is_held, desk_of}
use Rattle.cpu_program.specs.Processors.{desks_held}

-- a desk that was given up and is put back changed
pub put_back : (old mid now : Desks) (c : ℕ) (f : Desk → Desk) (desk : Desk) → Some desk ≡ desk_of old c → mid ≡ slice_set old c None
    → now ≡ slice_set mid c (Some (f desk)) → now ≡ slice_set old c (option_map f (desk_of old c))
put_back old mid now c f desk is given put =
    put ∙ ap (λ m. slice_set m c (Some (f desk))) given ∙ set-set old c None (Some (f desk)) ∙ ap (λ o. slice_set old c (option_map f o)) is

pub put_past : (held : Desks) (k : ℕ) (item : Option Desk) → length held ≤ k → held ≡ slice_set held k item
put_past held k item past = sym (set_past held k item past)

-- the bits of the processors below one
pub record IsBitsOf (held : Desks) (cpu bits : ℕ) : Type 0 where
  pub fits : bits < 2 ^ cpu
  pub bit : (k : ℕ) → k < cpu → is_set bits k ≡ is_held held k

pub bits_none : (held : Desks) → IsBitsOf held 0 0
bits_none held = record { fits = omega arith; bit = λ k h. absurd (omega arith) }

none_set : (bits cpu k : ℕ) → bits < 2 ^ cpu → cpu ≤ k → is_set bits k ≡ false
none_set bits cpu k h le = ap (λ n. n == 1) (bit_at_above bits cpu k h le)

or_fits : (bits cpu : ℕ) → cpu < 64 → bits < 2 ^ cpu → bit_or bits (1 * 2 ^ cpu % 2 ^ 64) < 2 ^ (cpu + 1)
or_fits bits cpu few h =
    let one = one_shl cpu 64 few in
    let more = pow-add 2 cpu 1 in
    or_lt (cpu + 1) bits (1 * 2 ^ cpu % 2 ^ 64) (omega (arith, more, h)) (omega (arith, more, one, pow_pos cpu))

put_bit : (held : Desks) (cpu bits : ℕ) → cpu < 64 → is_held held cpu ≡ true → IsBitsOf held cpu bits → (k : ℕ) → k < cpu + 1
    → is_set (bit_or bits (1 * 2 ^ cpu % 2 ^ 64)) k ≡ is_held held k
put_bit held cpu bits few is h k less =
    elim (cases_eq k cpu) [
      | inl e ↦ subst (λ n. is_set (bit_or bits (1 * 2 ^ cpu % 2 ^ 64)) n ≡ is_held held n) (sym e) (ap (λ n. n == 1) (bit_at_set_same w64 bits cpu few) ∙ sym is)
      | inr ne ↦ ap (λ n. n == 1) (bit_at_set_other w64 bits cpu few k ne) ∙ h.bit k (omega (arith, less, ne))
    ]

pub bits_put : (held : Desks) (cpu bits next : ℕ) → cpu < 64 → is_held held cpu ≡ true → next ≡ bit_or bits (1 * 2 ^ cpu % 2 ^ 64) → IsBitsOf held cpu bits
    → IsBitsOf held (cpu + 1) next
bits_put held cpu bits next few is put h =
    subst (IsBitsOf held (cpu + 1)) (sym put) (record { fits = or_fits bits cpu few h.fits; bit = put_bit held cpu bits few is h })

past_bit : (held : Desks) (cpu bits : ℕ) → is_held held cpu ≡ false → IsBitsOf held cpu bits → (k : ℕ) → k < cpu + 1 → is_set bits k ≡ is_held held k
past_bit held cpu bits is h k less =
    elim (cases_eq k cpu) [
      | inl e ↦ subst (λ n. is_set bits n ≡ is_held held n) (sym e) (none_set bits cpu cpu h.fits (omega arith) ∙ sym is)
      | inr ne ↦ h.bit k (omega (arith, less, ne))
    ]

pub bits_past : (held : Desks) (cpu bits next : ℕ) → is_held held cpu ≡ false → next ≡ bits → IsBitsOf held cpu bits → IsBitsOf held (cpu + 1) next
bits_past held cpu bits next is same h =
    subst (IsBitsOf held (cpu + 1)) (sym same)
    (record { fits = let more = pow-add 2 cpu 1 in let fits = h.fits in omega (arith, more, fits); bit = past_bit held cpu bits is h })

held_past : (held : Desks) (k : ℕ) → length held ≤ k → is_held held k ≡ false
held_past held k past = get_or_past (map is_some held) k false (rw (length-map held is_some) past)

each_bit : (held : Desks) (cpu bits : ℕ) → length held ≤ cpu → IsBitsOf held cpu bits → (k : ℕ) → is_set bits k ≡ is_held held k
each_bit held cpu bits past h k =
    elim (cases_lt k cpu) [
      | inl less ↦ h.bit k less
      | inr more ↦ none_set bits cpu k h.fits more ∙ sym (held_past held k (omega (arith, past, more)))
    ]

-- past the last processor the bits are those of all
pub bits_all : (held : Desks) (cpu bits : ℕ) → length held ≤ cpu → IsBitsOf held cpu bits → desks_of bits ≡ desks_held held
unfolding desks_of desks_held
bits_all held cpu bits past h = ap (λ (f : ℕ → Bool). map f (range_with_len 0 64)) (λ i k. each_bit held cpu bits past h k i)

pub bits_fit : (held : Desks) (cpu bits : ℕ) → cpu ≡ length held → IsBitsOf held cpu bits → bits < 2 ^ length held
bits_fit held cpu bits e h = subst (λ n. bits < 2 ^ n) e h.fits
