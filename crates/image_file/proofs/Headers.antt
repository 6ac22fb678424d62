-- The header that a file without refusal has, and the checks that a spelling passes.
use Rattle.std.proofs.Common.{◌≡◌, ℕ, zero, suc, ◌+◌, ◌<◌, ◌≤◌, Bool, true, false, cond, not, ◌||◌, eqb, ltb, List, ◌++◌, length, get_or, take, drop, Option, Some, None, refl, sym, ap, ◌∙◌, inl, inr, arith}
use Rattle.std.specs.Prelude.{nat_eq}
use Rattle.std.specs.List.{starts_with}
use Rattle.std.specs.Int.{w16, w32, from_le_bytes}
use Rattle.std.proofs.lemmas.Bool.{cases_lt, eqb-true, eq-eqb, ltb-false, le-ltb}
use Rattle.std.proofs.lemmas.Bool.Decides.{Decides-eqb, eqb_tells}
use Rattle.std.proofs.lemmas.List.{length-take-le, length-drop, get_or-take, get_or-drop, get_or_past, take-append-drop, drop-drop}
use Rattle.std.proofs.lemmas.Nat.{le_bytes_2, le_bytes_4}
use Rattle.std.proofs.lemmas.Slice.Eq.{starts_is}
use Rattle.byteorder.specs.Endian.{little_number, little_bytes}
use Rattle.image_file.specs.declared.error.ImagesError.{ImagesError}
use Rattle.image_file.specs.declared.error.ImagesError.TheVariants.{Short, Magic, Version, Kind, Count, Long}
use Rattle.image_file.specs.Spelling.{magic, kind_number, header}
use Rattle.image_file.specs.Refusals.{version_of, kind_number_of, count_of, kind_numbered, whole_length, checks, first_failed, refusal_of}

-- what the checks ask of a file
pub record Passes (file : List ℕ) : Type 0 where
  pub long : 12 ≤ length file
  pub begins : starts_with nat_eq file magic ≡ true
  pub version : version_of file ≡ 1
  pub kind : kind_number_of file ≤ 1
  pub some : 1 ≤ count_of file
  pub most : count_of file ≤ 64
  pub whole : length file ≡ whole_length (kind_numbered (kind_number_of file)) (count_of file)

abbrev rest_of : Bool → ImagesError → Option ImagesError → Option ImagesError
rest_of b e rest = cond b (Some e) rest

passed : (b : Bool) (e : ImagesError) (rest : Option ImagesError) → rest_of b e rest ≡ None → (b ≡ false) × (rest ≡ None)
passed true e rest h = absurd cc
passed false e rest h = (refl, h)

passes : (b : Bool) (e : ImagesError) (rest : Option ImagesError) → b ≡ false → rest ≡ None → rest_of b e rest ≡ None
passes true e rest b h = absurd cc
passes false e rest b h = h

not_false : (b : Bool) → not b ≡ false → b ≡ true
not_false true h = refl
not_false false h = absurd cc

not_true : (b : Bool) → b ≡ true → not b ≡ false
not_true true h = refl
not_true false h = absurd cc

neither : (a b : Bool) → (a || b) ≡ false → (a ≡ false) × (b ≡ false)
neither true b h = absurd cc
neither false b h = (refl, h)

both_false : (a b : Bool) → a ≡ false → b ≡ false → (a || b) ≡ false
both_false true b p q = absurd cc
both_false false b p q = q

not_zero : (n : ℕ) → eqb n 0 ≡ false → 1 ≤ n
not_zero zero h = absurd cc
not_zero (suc n) h = omega arith

is_not_zero : (n : ℕ) → 1 ≤ n → eqb n 0 ≡ false
is_not_zero n h = elim (eqb_tells n 0) [ inl same ↦ absurd (omega (arith, same.1)) | inr other ↦ other.0 ]

-- a file without refusal passes each check
pub passes_all : (file : List ℕ) → refusal_of file ≡ None → Passes file
passes_all file h =
    let a = passed (ltb (length file) 12) (Short (length file)) (first_failed (drop 1 (checks file))) h in
    let b = passed (not (starts_with nat_eq file magic)) Magic (first_failed (drop 2 (checks file))) a.1 in
    let d = passed (not (eqb (version_of file) 1)) (Version (version_of file)) (first_failed (drop 3 (checks file))) b.1 in
    let e = passed (ltb 1 (kind_number_of file)) (Kind (kind_number_of file)) (first_failed (drop 4 (checks file))) d.1 in
    let f = passed (eqb (count_of file) 0 || ltb 64 (count_of file)) (Count (count_of file)) (first_failed (drop 5 (checks file))) e.1 in
    let g = passed (ltb (length file) (whole_length (kind_numbered (kind_number_of file)) (count_of file))) (Short (length file)) (first_failed (drop 6 (checks file))) f.1 in
    let i = passed (ltb (whole_length (kind_numbered (kind_number_of file)) (count_of file)) (length file)) (Long (length file)) None g.1 in
    let counts = neither (eqb (count_of file) 0) (ltb 64 (count_of file)) f.0 in
    let at_least : whole_length (kind_numbered (kind_number_of file)) (count_of file) ≤ length file = ltb-false _ _ g.0 in
    let at_most : length file ≤ whole_length (kind_numbered (kind_number_of file)) (count_of file) = ltb-false _ _ i.0 in
    record {
      long = ltb-false _ _ a.0;
      begins = not_false (starts_with nat_eq file magic) b.0;
      version = eqb-true _ _ (not_false (eqb (version_of file) 1) d.0);
      kind = ltb-false _ _ e.0;
      some = not_zero (count_of file) counts.0;
      most = ltb-false _ _ counts.1;
      whole = omega (arith, at_least, at_most);
    }

-- a file that passes each check has no refusal
pub no_refusal : (file : List ℕ) → Passes file → refusal_of file ≡ None
no_refusal file p =
    passes (ltb (length file) 12) (Short (length file)) (first_failed (drop 1 (checks file))) (le-ltb _ _ p.long)
    (passes (not (starts_with nat_eq file magic)) Magic (first_failed (drop 2 (checks file))) (not_true (starts_with nat_eq file magic) p.begins)
    (passes (not (eqb (version_of file) 1)) (Version (version_of file)) (first_failed (drop 3 (checks file))) (not_true (eqb (version_of file) 1) (eq-eqb _ _ p.version))
    (passes (ltb 1 (kind_number_of file)) (Kind (kind_number_of file)) (first_failed (drop 4 (checks file))) (le-ltb _ _ p.kind)
    (passes (eqb (count_of file) 0 || ltb 64 (count_of file)) (Count (count_of file)) (first_failed (drop 5 (checks file))) (both_false (eqb (count_of file) 0) (ltb 64 (count_of file)) (is_not_zero (count_of file) p.some) (le-ltb _ _ p.most))
    (passes (ltb (length file) (whole_length (kind_numbered (kind_number_of file)) (count_of file))) (Short (length file)) (first_failed (drop 6 (checks file))) (le-ltb _ _ (omega (arith, p.whole)))
    (passes (ltb (whole_length (kind_numbered (kind_number_of file)) (count_of file)) (length file)) (Long (length file)) None (le-ltb _ _ (omega (arith, p.whole))) refl))))))

-- ---- the header's bytes

abbrev pub IsBytes : List ℕ → Type 0
IsBytes bytes = (i : ℕ) → get_or bytes i 0 < 256

pub drop_bytes : (n : ℕ) (bytes : List ℕ) → IsBytes bytes → IsBytes (drop n bytes)
drop_bytes n bytes h i = rw (get_or-drop n bytes i 0) (h (n + i))

pub take_bytes : (n : ℕ) (bytes : List ℕ) → n ≤ length bytes → IsBytes bytes → (i : ℕ) → get_or (take n bytes) i 0 < 256
take_bytes n bytes long h i =
    elim (cases_lt i n) [
      | inl lt ↦ rw (get_or-take n bytes i 0 lt) (h i)
      | inr le ↦ rw (get_or_past (take n bytes) i 0 (omega (arith, length-take-le n bytes long))) (omega arith)
    ]

two_back : (bytes : List ℕ) → 2 ≤ length bytes → IsBytes bytes → little_bytes 2 (little_number 2 bytes) ≡ take 2 bytes
two_back bytes long h =
    let first = get_or-take 2 bytes 0 0 (omega arith) in
    let second = get_or-take 2 bytes 1 0 (omega arith) in
    let same : little_number 2 bytes ≡ from_le_bytes w16 (take 2 bytes) = omega (arith, first, second) in
    le_bytes_2 (take 2 bytes) (little_number 2 bytes) (length-take-le 2 bytes long) (take_bytes 2 bytes long h) same

four_back : (bytes : List ℕ) → 4 ≤ length bytes → IsBytes bytes → little_bytes 4 (little_number 4 bytes) ≡ take 4 bytes
four_back bytes long h =
    let b0 = get_or-take 4 bytes 0 0 (omega arith) in
    let b1 = get_or-take 4 bytes 1 0 (omega arith) in
    let b2 = get_or-take 4 bytes 2 0 (omega arith) in
    let b3 = get_or-take 4 bytes 3 0 (omega arith) in
    let same : little_number 4 bytes ≡ from_le_bytes w32 (take 4 bytes) = omega (arith, b0, b1, b2, b3) in
    le_bytes_4 (take 4 bytes) (little_number 4 bytes) (length-take-le 4 bytes long) (take_bytes 4 bytes long h) same

numbered_back : (n : ℕ) → n ≤ 1 → kind_number (kind_numbered n) ≡ n
numbered_back zero h = refl
numbered_back (suc zero) h = refl
numbered_back (suc (suc n)) h = absurd (omega arith)

-- a file that passes is its header and what stands behind it
pub behind_header : (file : List ℕ) → IsBytes file → Passes file → file ≡ header (kind_numbered (kind_number_of file)) (count_of file) ++ drop 12 file
behind_header file h p =
    let n1 : ℕ = kind_number_of file in
    let start : file ≡ magic ++ drop 4 file = (starts_is Decides-eqb file magic true (sym p.begins)).0 refl in
    let version : take 2 (drop 4 file) ≡ little_bytes 2 1 = sym (two_back (drop 4 file) (omega (arith, length-drop 4 file, p.long)) (drop_bytes 4 file h)) ∙ ap (λ (n : ℕ). little_bytes 2 n) p.version in
    let kind : take 2 (drop 6 file) ≡ little_bytes 2 (kind_number (kind_numbered n1)) =
    sym (two_back (drop 6 file) (omega (arith, length-drop 6 file, p.long)) (drop_bytes 6 file h)) ∙ ap (λ (n : ℕ). little_bytes 2 n) (sym (numbered_back n1 p.kind)) in
    let count : take 4 (drop 8 file) ≡ little_bytes 4 (count_of file) = sym (four_back (drop 8 file) (omega (arith, length-drop 8 file, p.long)) (drop_bytes 8 file h)) in
    let s4 : drop 4 file ≡ little_bytes 2 1 ++ drop 6 file = sym (take-append-drop 2 (drop 4 file)) ∙ ap (λ (x : List ℕ). x ++ drop 2 (drop 4 file)) version ∙ ap (λ (x : List ℕ). little_bytes 2 1 ++ x) (drop-drop 2 4 file) in
    let s6 : drop 6 file ≡ little_bytes 2 (kind_number (kind_numbered n1)) ++ drop 8 file = sym (take-append-drop 2 (drop 6 file)) ∙ ap (λ (x : List ℕ). x ++ drop 2 (drop 6 file)) kind ∙ ap (λ (x : List ℕ). little_bytes 2 (kind_number (kind_numbered n1)) ++ x) (drop-drop 2 6 file) in
    let s8 : drop 8 file ≡ little_bytes 4 (count_of file) ++ drop 12 file = sym (take-append-drop 4 (drop 8 file)) ∙ ap (λ (x : List ℕ). x ++ drop 4 (drop 8 file)) count ∙ ap (λ (x : List ℕ). little_bytes 4 (count_of file) ++ x) (drop-drop 4 8 file) in
    start ∙ ap (λ (x : List ℕ). magic ++ x) (s4 ∙ ap (λ (x : List ℕ). little_bytes 2 1 ++ x) (s6 ∙ ap (λ (x : List ℕ). little_bytes 2 (kind_number (kind_numbered n1)) ++ x) s8))
