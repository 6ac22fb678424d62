-- The first processor that may not be relocated, and why.
use Rattle.std.proofs.Common.{◌≡◌, ℕ, zero, suc, ◌+◌, ◌<◌, ◌≤◌, Bool, true, false, ◌&&◌, not, cond, if◌then◌else◌, List, [], ◌∷◌, length, get_or, Option, Some, None, refl, sym, ap, subst, ◌∙◌, arith}
use Rattle.std.specs.Prelude.{position, nat_lt, slice_get, option_map, IsSomeAnd}
use Rattle.std.specs.List.{position_or_len, prefix_len}
use Rattle.std.proofs.lemmas.Option.{slice_get-get_or}
use Rattle.std.proofs.lemmas.List.Quantifiers.{position-Some}
use Rattle.cpu_regs.specs.Registers.{Registers}
use Rattle.smbase_reloc.specs.declared.error.RelocError.{RelocError}
use Rattle.smbase_reloc.specs.declared.error.RelocError.TheVariants.{NoRelocation, NotDefault}
use Rattle.smbase_reloc.specs.Relocation.{can_relocate, is_at_default, is_fixed, AreRelocatable, refusal_of, refusal_at, relocation_refusal, IsFirstFixed, IsCause}

abbrev Holds : List Registers → ℕ → (Registers → Type 0) → Type 0
Holds all i p = IsSomeAnd (slice_get all i) p

there : (all : List Registers) (i : ℕ) (d : Registers) (p : Registers → Type 0) → i < length all → p (get_or all i d) → Holds all i p
there all i d p within h = subst (λ (o : Option Registers). IsSomeAnd o p) (sym (slice_get-get_or all i d within)) h

by_bit : (all : List Registers) (i : ℕ) (r : Registers) (b : Bool) → slice_get all i ≡ Some r → IsFirstFixed all i → can_relocate r ≡ b → IsCause all (if b then NotDefault i else NoRelocation i)
by_bit all i r true at first bit = (first, subst (λ (o : Option Registers). IsSomeAnd o (λ x. can_relocate x ≡ true)) (sym at) bit)
by_bit all i r false at first bit = (first, subst (λ (o : Option Registers). IsSomeAnd o (λ x. can_relocate x ≡ false)) (sym at) bit)

first_fixed : (all : List Registers) (i : ℕ) (d : Registers) → position is_fixed all ≡ Some i → IsFirstFixed all i
first_fixed all i d at =
    let h = position-Some is_fixed all i d at in
    record {
      fixed = there all i d (λ r. is_fixed r ≡ true) h.0 h.1;
      before = λ j lt. there all j d (λ r. is_fixed r ≡ false) (omega (arith, lt, h.0)) (h.2 j lt);
    }

-- what is found at the first processor that may not be relocated has its cause
pub cause_of : (all : List Registers) (i : ℕ) (d : Registers) (error : RelocError) → position is_fixed all ≡ Some i → d ≡ get_or all i d → error ≡ refusal_of i d → IsCause all error
cause_of all i d error at is named =
    let h = position-Some is_fixed all i d at in
    let found : slice_get all i ≡ Some d = slice_get-get_or all i d h.0 ∙ ap Some (sym is) in
    subst (λ (e : RelocError). IsCause all e) (sym named) (by_bit all i d (can_relocate d) found (first_fixed all i d at) refl)

-- ---- where nothing is refused

front : (q : Registers → Bool) (x : Registers) (xs : List Registers) (k : ℕ) (d : Registers) (b : Bool) → q x ≡ b → ((j : ℕ) → j < prefix_len q xs → q (get_or xs j d) ≡ true) → k < cond b (1 + prefix_len q xs) 0 → q (get_or (x ∷ xs) k d) ≡ true
front q x xs zero d true is rest lt = is
front q x xs (suc k) d true is rest lt = rest k (omega (arith, lt))
front q x xs k d false is rest lt = absurd (omega (arith, lt))

prefix_passes : (q : Registers → Bool) (xs : List Registers) (k : ℕ) (d : Registers) → k < prefix_len q xs → q (get_or xs k d) ≡ true
prefix_passes q [] k d lt = absurd (omega (arith, lt))
prefix_passes q (x ∷ xs) k d lt = front q x xs k d (q x) refl (λ j. prefix_passes q xs j d) lt

both : (a b : Bool) → not (not (a && b)) ≡ true → (a ≡ true) × (b ≡ true)
both true true h = (refl, refl)
both true false h = absurd cc
both false b h = absurd cc

is_some_refusal : (i : ℕ) (o : Option Registers) (r : Registers) → o ≡ Some r → option_map (refusal_of i) o ≡ None → ⊥
is_some_refusal i None r e h = absurd cc
is_some_refusal i (Some x) r e h = absurd cc

abbrev first_of : List Registers → ℕ
first_of all = position_or_len is_fixed all

none_before : (all : List Registers) (d : Registers) (b : Bool) → nat_lt (first_of all) (length all) ≡ b → refusal_at all (cond b (Some (first_of all)) None) ≡ None → length all ≤ first_of all
none_before all d true is none =
    let lt : first_of all < length all = grind arith in
    absurd (is_some_refusal (first_of all) (slice_get all (first_of all)) (get_or all (first_of all) d) (slice_get-get_or all (first_of all) d lt) none)
none_before all d false is none = grind arith

pub none_refused : (all : List Registers) → relocation_refusal all ≡ None → AreRelocatable all
none_refused all none k d lt =
    let all_pass : length all ≤ first_of all = none_before all d (nat_lt (first_of all) (length all)) refl none in
    both (can_relocate (get_or all k d)) (is_at_default (get_or all k d)) (prefix_passes (λ r. not (is_fixed r)) all k d (omega (arith, lt, all_pass)))
