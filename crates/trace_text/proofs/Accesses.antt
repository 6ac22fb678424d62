-- Accesses.
use Rattle.std.proofs.Common.{◌≡◌, ℕ, ◌+◌, ◌*◌, ◌^◌, ◌≤◌, true, not, ◌&&◌, ◌==◌, nat_lt, nat_le, List, [], ◌∷◌, ◌++◌, Option, Some, None, option_map, codes, decimal, refl, ap, sym, subst, le-leb, leb-true, arith}
use Rattle.std.proofs.lemmas.Bool.{and_parts, and_from}
use Rattle.std.proofs.lemmas.Option.{none-some}
use Rattle.sync_words.specs.Texts.{colon, access_text}
use Rattle.sync_words.specs.declared.access.Access.{Access}
use Rattle.sync_words.specs.declared.access.Access.TheVariants.{Look, Put, Up, Down, Lower, Lock, Claim, Await, Seek, Signal, TakeSmi, ClearSmi, Raise}
use Rattle.sync_words.specs.declared.access.TheConstants.{LOCKED}
use Rattle.trace_text.specs.Readings.{split_first, pair_at, middle, bare_access, numbered_access, access_by, access_of, has_up_to}
use Rattle.trace_text.specs.Spelling.{HasUpTo}
use Rattle.trace_text.proofs.Bytes.{is_field_byte, is_word_byte, Within, all_weaker, decimal_within, spelled_within}
use Rattle.trace_text.proofs.Numbers.{below_spells}
use Rattle.trace_text.proofs.Spells.{Spells, word_case, fields_case, trailing, pairs, refitted}
use Rattle.trace_text.proofs.Splits.{Lacks, split_whole}

-- the greatest number of 32 bits
abbrev pub greatest : ℕ
greatest = 4294967295

abbrev IsMiddle : ℕ → Type 0
IsMiddle n = n ≤ greatest

middle_spells : Spells IsMiddle decimal middle
middle_spells = refitted (below_spells (2 ^ 32) (omega arith)) (λ n less. omega (arith, less)) (λ n less. omega (arith, less))

number_within : (n : ℕ) → n ≤ greatest → Within is_field_byte 10 (decimal n)
number_within n less = decimal_within 10 n (omega arith) (omega (arith, less)) (omega (arith, less))

pub colon_free : (b : ℕ) → is_field_byte b ≡ true → not (b == colon) ≡ true
colon_free b is = (and_parts (nat_lt 32 b && nat_lt b 127) (not (b == 58)) is).1

lacks_colon : (n : ℕ) → n ≤ greatest → Lacks colon (decimal n)
lacks_colon n less = all_weaker is_field_byte (λ b. not (b == colon)) colon_free (decimal n) (number_within n less).bytes

one_spells : Spells IsMiddle (λ n. decimal n ++ []) middle
one_spells = trailing middle_spells

two_spells : Spells (λ p. IsMiddle p.0 × IsMiddle p.1) (λ p. decimal p.0 ++ colon ∷ (decimal p.1 ++ [])) (pair_at colon middle middle)
two_spells = pairs colon lacks_colon middle_spells one_spells

abbrev IsAccessOf : List ℕ → Access → Type 0
IsAccessOf text access = HasUpTo greatest access × (text ≡ access_text access)

bare_said : (text : List ℕ) (access : Access) → bare_access text ≡ Some access → IsAccessOf text access
bare_said text access is =
    word_case text (codes "look") Look access _ (IsAccessOf text) is (λ e. (tt, e)) (λ is.
    word_case text (codes "up") Up access _ (IsAccessOf text) is (λ e. (tt, e)) (λ is.
    word_case text (codes "down") Down access _ (IsAccessOf text) is (λ e. (tt, e)) (λ is.
    word_case text (codes "lower") Lower access _ (IsAccessOf text) is (λ e. (tt, e)) (λ is.
    word_case text (codes "lock") Lock access _ (IsAccessOf text) is (λ e. (tt, e)) (λ is.
    word_case text (codes "signal") Signal access _ (IsAccessOf text) is (λ e. (tt, e)) (λ is.
    word_case text (codes "take") TakeSmi access _ (IsAccessOf text) is (λ e. (tt, e)) (λ is.
    word_case text (codes "clear") ClearSmi access None (IsAccessOf text) is (λ e. (tt, e)) (λ is. absurd (none-some access is)))))))))

-- a word and its fields, each as they are spelled
pub meet : {word w fields f : List ℕ} → word ≡ w → fields ≡ f → word ++ colon ∷ fields ≡ w ++ colon ∷ f
meet a b = λ i. a i ++ colon ∷ b i

numbered_said : (word numbers : List ℕ) (access : Access) → numbered_access word numbers ≡ Some access → IsAccessOf (word ++ colon ∷ numbers) access
numbered_said word numbers access is =
    fields_case word (codes "put") numbers Put access _ (IsAccessOf (word ++ colon ∷ numbers)) one_spells is (λ v fit a b. (fit, meet a b)) (λ is.
    fields_case word (codes "claim") numbers (λ p. Claim p.0 p.1) access _ (IsAccessOf (word ++ colon ∷ numbers)) two_spells is (λ v fit a b. (fit, meet a b)) (λ is.
    fields_case word (codes "await") numbers (λ p. Await p.0 p.1) access _ (IsAccessOf (word ++ colon ∷ numbers)) two_spells is (λ v fit a b. (fit, meet a b)) (λ is.
    fields_case word (codes "seek") numbers Seek access _ (IsAccessOf (word ++ colon ∷ numbers)) one_spells is (λ v fit a b. (fit, meet a b)) (λ is.
    fields_case word (codes "raise") numbers Raise access None (IsAccessOf (word ++ colon ∷ numbers)) one_spells is (λ v fit a b. (fit, meet a b)) (λ is. absurd (none-some access is))))))

access_said_by : (text : List ℕ) (o : Option (List ℕ × List ℕ)) (access : Access) → split_first colon text ≡ o → access_by text o ≡ Some access → IsAccessOf text access
access_said_by text None access split is = bare_said text access is
access_said_by text (Some (word, numbers)) access split is =
    subst (λ t. IsAccessOf t access) (sym (split_whole colon text word numbers split)) (numbered_said word numbers access is)

access_gives : (access : Access) → HasUpTo greatest access → access_of (access_text access) ≡ Some access
access_gives (Put new) fit = ap (option_map Put) (one_spells.gives new fit)
access_gives (Claim from new) fit = ap (option_map (λ p. Claim p.0 p.1)) (two_spells.gives (from, new) fit)
access_gives (Await from new) fit = ap (option_map (λ p. Await p.0 p.1)) (two_spells.gives (from, new) fit)
access_gives (Seek below) fit = ap (option_map Seek) (one_spells.gives below fit)
access_gives (Raise signal) fit = ap (option_map Raise) (one_spells.gives signal fit)
access_gives _ fit = refl

pub access_spells : Spells (HasUpTo greatest) access_text access_of
access_spells = record { said = λ text access is. access_said_by text (split_first colon text) access refl is; gives = access_gives }

-- its bytes, and their number, where its numbers have at most k digits
by_digits : (most k : ℕ) → ((n : ℕ) → n ≤ most → Within is_field_byte k (decimal n)) → (room : ℕ) → 7 + 2 * k ≤ room → (access : Access) → HasUpTo most access → Within is_word_byte room (access_text access)
by_digits most k number room less (Put new) fit = spelled_within room 3 (codes "put") (k ∷ []) (decimal new ∷ []) record { bytes = refl; few = omega arith } (number new fit, tt) (omega (arith, less))
by_digits most k number room less (Claim from new) fit =
    spelled_within room 5 (codes "claim") (k ∷ k ∷ []) (decimal from ∷ decimal new ∷ []) record { bytes = refl; few = omega arith } (number from fit.0, (number new fit.1, tt)) (omega (arith, less))
by_digits most k number room less (Await from new) fit =
    spelled_within room 5 (codes "await") (k ∷ k ∷ []) (decimal from ∷ decimal new ∷ []) record { bytes = refl; few = omega arith } (number from fit.0, (number new fit.1, tt)) (omega (arith, less))
by_digits most k number room less (Seek below) fit = spelled_within room 4 (codes "seek") (k ∷ []) (decimal below ∷ []) record { bytes = refl; few = omega arith } (number below fit, tt) (omega (arith, less))
by_digits most k number room less (Raise signal) fit = spelled_within room 5 (codes "raise") (k ∷ []) (decimal signal ∷ []) record { bytes = refl; few = omega arith } (number signal fit, tt) (omega (arith, less))
by_digits most k number room less _ fit = record { bytes = refl; few = omega (arith, less) }

locked_within : (n : ℕ) → n ≤ LOCKED → Within is_field_byte 8 (decimal n)
locked_within n less = decimal_within 8 n (omega arith) (omega (arith, less)) (omega (arith, less))

pub access_within : (access : Access) → HasUpTo LOCKED access → Within is_word_byte 23 (access_text access)
access_within access fit = by_digits LOCKED 8 locked_within 23 (omega arith) access fit

pub access_wider : (access : Access) → HasUpTo greatest access → Within is_word_byte 27 (access_text access)
access_wider access fit = by_digits greatest 10 number_within 27 (omega arith) access fit

-- the test
pub access_passes : (most : ℕ) (access : Access) → HasUpTo most access → has_up_to most access ≡ true
access_passes most (Put new) fit = le-leb new most fit
access_passes most (Claim from new) fit = and_from (nat_le from most) (nat_le new most) (le-leb from most fit.0) (le-leb new most fit.1)
access_passes most (Await from new) fit = and_from (nat_le from most) (nat_le new most) (le-leb from most fit.0) (le-leb new most fit.1)
access_passes most (Seek below) fit = le-leb below most fit
access_passes most (Raise signal) fit = le-leb signal most fit
access_passes most _ fit = refl

two_is : (most a b : ℕ) → (nat_le a most && nat_le b most) ≡ true → (a ≤ most) × (b ≤ most)
two_is most a b passes = let (one, other) = and_parts (nat_le a most) (nat_le b most) passes in (leb-true a most one, leb-true b most other)

pub access_is : (most : ℕ) (access : Access) → has_up_to most access ≡ true → HasUpTo most access
access_is most (Put new) passes = leb-true new most passes
access_is most (Claim from new) passes = two_is most from new passes
access_is most (Await from new) passes = two_is most from new passes
access_is most (Seek below) passes = leb-true below most passes
access_is most (Raise signal) passes = leb-true signal most passes
access_is most _ passes = tt

fits : (n : ℕ) → n ≤ LOCKED → n ≤ greatest
fits n less = omega (arith, less)

pub access_fits : (access : Access) → HasUpTo LOCKED access → HasUpTo greatest access
access_fits (Put new) fit = fits new fit
access_fits (Claim from new) fit = (fits from fit.0, fits new fit.1)
access_fits (Await from new) fit = (fits from fit.0, fits new fit.1)
access_fits (Seek below) fit = fits below fit
access_fits (Raise signal) fit = fits signal fit
access_fits _ fit = tt
