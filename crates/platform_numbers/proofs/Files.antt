-- The numbers of each platform that a file stands for fit their types.
use Rattle.std.proofs.Common.{◌≡◌, ◌⊎◌, ℕ, zero, suc, ◌+◌, ◌-◌, ◌*◌, ◌<◌, ◌≤◌, ◌^◌, Bool, true, false, List, [], ◌∷◌, length, take, drop, Option, Some, None, refl, sym, subst, ⊎_elim, ◌∙◌, arith, inl, inr}
use Rattle.std.specs.Prelude.{◌==◌, ◌&&◌, ◌||◌, nat_le, if◌then◌else◌, MatchOption, slice_index, codes, pos}
use Rattle.std.specs.Char.{digit_value, is_digit}
use Rattle.std.specs.Int.{w128, from_be_bytes}
use Rattle.std.specs.List.{list_all}
use Rattle.std.specs.Str.Parse.{AllDigits}
use Rattle.std.proofs.Math.Nat.{pow-le-pow_right}
use Rattle.std.proofs.lemmas.Bool.{and_parts, or_cases, ltb-true, leb-true, leb-false, cases_lt}
use Rattle.std.proofs.lemmas.Int.Digits.{digits_value-lt}
use Rattle.std.proofs.lemmas.List.{get_or_past}
use Rattle.toml.specs.Data.{Data, integer, string, Items, no_items, item, Members, get_member}
use Rattle.uuid.specs.Text.{by_index, is_hex_digit, value_of, byte_of_digits, parsed_simple, parsed_hyphenated, parsed_braced, parsed_urn, digits_of, parsed}
use Rattle.uuid.proofs.TextLemmas.{by_index_length, by_index_at}
use Rattle.smm_base.specs.declared.kinds.HandlerType.{HandlerType}
use Rattle.smm_base.specs.declared.kinds.HandlerType.TheVariants.{Root, Typed}
use Rattle.cpu_table.specs.Data.{SetupData}
use Rattle.cpu_table.specs.declared.handlers.HandlerDef.{HandlerDef}
use Rattle.cpu_table.specs.declared.handlers.Operand.{Operand}
use Rattle.cpu_table.specs.declared.handlers.Operand.TheVariants.{Number, Variable}
use Rattle.cpu_table.specs.declared.handlers.OpDef.{OpDef}
use Rattle.cpu_table.specs.declared.handlers.OpDef.TheVariants as op
use Rattle.cpu_table.specs.declared.waves.Wave.{Wave}
use Rattle.trace_text.specs.Spelling as spelling
use Rattle.platform_laws.specs.Words.{IsKind, IsHexadecimal}
use Rattle.platform_laws.specs.Values.{EachSays, IsListOf, IsTableOf, IsOperand}
use Rattle.platform_laws.specs.Says.{SaysParts, SaysOperation, SaysHandlerDef, SaysWave, IsNameAt, Says}
use Rattle.platform_laws.specs.Fits.{Fits, names_word, names_words}
use Rattle.platform_laws.specs.Platform.{StandsFor}
use Rattle.report_laws.specs.Widths.{HasWidth, HasWidths, OperationsFit, HandlersFit, KindsFit, WavesFit, NumbersFit}

-- NUMBERS

all_digits : (ds : List ℕ) → list_all (λ c. is_digit c 16) ds ≡ true → AllDigits 16 ds
all_digits [] h = tt
all_digits (c ∷ ds) h =
    let both = and_parts (is_digit c 16) (list_all (λ x. is_digit x 16) ds) h in
    (ltb-true (digit_value c) 16 both.0, all_digits ds both.1)

hexadecimal_few : (text : List ℕ) (n : ℕ) → IsHexadecimal text n → n < 2 ^ 64
hexadecimal_few text n is =
    let some : 0 < 16 = omega arith in
    let small = digits_value-lt 16 is.digits (all_digits is.digits is.hexadecimal) in
    let most = pow-le-pow_right {n = 16} some is.count.1 in
    let value = is.value in
    omega (arith, small, most, value)

operand_few : (o : Operand) (v : Data) → IsOperand o v → HasWidth o
operand_few (Number n) v h =
    ⊎_elim (λ (k : (v ≡ integer (pos n)) × (n < 9223372036854775808)). let small = k.1 in omega (arith, small))
    (λ (k : (text : List ℕ) × (v ≡ string text) × IsHexadecimal text n). hexadecimal_few k.0 n k.2) h
operand_few (Variable number) v h = tt

-- GUIDS

pick : (b : Bool) (x y : ℕ) → (b ≡ true → x < 16) → (b ≡ false → y < 16) → (if b then x else y) < 16
pick true x y h k = h refl
pick false x y h k = k refl

-- a digit lies in one of three ranges
record IsDigit (c : ℕ) : Type 0 where
  most : c ≤ 102
  upper : 57 < c → c < 97 → c ≤ 70

digit_is : (c : ℕ) → is_hex_digit c ≡ true → IsDigit c
digit_is c h =
    ⊎_elim
    (λ (a : ((nat_le 48 c && nat_le c 57) || (nat_le 97 c && nat_le c 102)) ≡ true).
    ⊎_elim
    (λ (b : (nat_le 48 c && nat_le c 57) ≡ true). let l = leb-true c 57 (and_parts (nat_le 48 c) (nat_le c 57) b).1 in record { most = omega (arith, l); upper = λ x y. absurd (omega (arith, l, x)) })
    (λ (b : (nat_le 97 c && nat_le c 102) ≡ true).
    let both = and_parts (nat_le 97 c) (nat_le c 102) b in
    let l = leb-true 97 c both.0 in
    let m = leb-true c 102 both.1 in
    record { most = m; upper = λ x y. absurd (omega (arith, l, y)) })
    (or_cases (nat_le 48 c && nat_le c 57) (nat_le 97 c && nat_le c 102) a))
    (λ (a : (nat_le 65 c && nat_le c 70) ≡ true). let m = leb-true c 70 (and_parts (nat_le 65 c) (nat_le c 70) a).1 in record { most = omega (arith, m); upper = λ x y. m })
    (or_cases ((nat_le 48 c && nat_le c 57) || (nat_le 97 c && nat_le c 102)) (nat_le 65 c && nat_le c 70) h)

value_few : (c : ℕ) → is_hex_digit c ≡ true → value_of c < 16
value_few c h =
    let d = digit_is c h in
    let most = d.most in
    pick (nat_le c 57) (c - 48) (if nat_le 97 c then c - 87 else c - 55) (λ e. let l = leb-true c 57 e in omega (arith, l))
    (λ e. let more = leb-false c 57 e in
    pick (nat_le 97 c) (c - 87) (c - 55) (λ f. omega (arith, most)) (λ f. let less = leb-false 97 c f in let u = d.upper more less in omega (arith, u)))

hex_few : (hex : List ℕ) (k : ℕ) → list_all is_hex_digit hex ≡ true → value_of (slice_index hex k) < 16
hex_few [] k h = omega arith
hex_few (c ∷ hex) zero h = value_few c (and_parts (is_hex_digit c) (list_all is_hex_digit hex) h).0
hex_few (c ∷ hex) (suc k) h = hex_few hex k (and_parts (is_hex_digit c) (list_all is_hex_digit hex) h).1

indexed_few : (f : ℕ → ℕ) (k : ℕ) → ((i : ℕ) → f i < 256) → slice_index (by_index 16 f) k < 256
indexed_few f k each =
    elim (cases_lt k 16) [
      | inl l ↦ rw (by_index_at 16 f k 0 l) (each k)
      | inr m ↦ rw (get_or_past (by_index 16 f) k 0 (omega (arith, m, by_index_length 16 f))) (omega arith)
    ]

Bytes : List ℕ → Type 0
Bytes bytes = (k : ℕ) → slice_index bytes k < 256

by_if : (b : Bool) (x y : Option (List ℕ)) (bytes : List ℕ) → (b ≡ true → x ≡ Some bytes → Bytes bytes) → (y ≡ Some bytes → Bytes bytes) → (if b then x else y) ≡ Some bytes → Bytes bytes
by_if true x y bytes h k e = h refl e
by_if false x y bytes h k e = k e

no_bytes : (bytes : List ℕ) → None ≡ Some bytes → Bytes bytes
no_bytes bytes e = cc

simple_few : (hex bytes : List ℕ) → parsed_simple hex ≡ Some bytes → Bytes bytes
unfolding Bytes
simple_few hex bytes is =
    by_if ((length hex == 32) && list_all is_hex_digit hex) (Some (by_index 16 (byte_of_digits hex))) None bytes
    (λ t e. let all = (and_parts (length hex == 32) (list_all is_hex_digit hex) t).1 in
    subst Bytes (same_list (by_index 16 (byte_of_digits hex)) bytes e)
    (λ k. indexed_few (byte_of_digits hex) k (λ i. let high = hex_few hex (2 * i) all in let low = hex_few hex (2 * i + 1) all in omega (arith, high, low))))
    (no_bytes bytes) is
  where
    same_list : (xs ys : List ℕ) → Some xs ≡ Some ys → xs ≡ ys
    same_list xs ys e = cc

hyphenated_few : (s bytes : List ℕ) → parsed_hyphenated s ≡ Some bytes → Bytes bytes
hyphenated_few s bytes is = by_if _ (parsed_simple (digits_of s)) None bytes (λ t e. simple_few (digits_of s) bytes e) (no_bytes bytes) is

braced_few : (s bytes : List ℕ) → parsed_braced s ≡ Some bytes → Bytes bytes
braced_few s bytes is = by_if _ (parsed_hyphenated (take 36 (drop 1 s))) None bytes (λ t e. hyphenated_few (take 36 (drop 1 s)) bytes e) (no_bytes bytes) is

urn_few : (s bytes : List ℕ) → parsed_urn s ≡ Some bytes → Bytes bytes
urn_few s bytes is = by_if _ (parsed_hyphenated (drop 9 s)) None bytes (λ t e. hyphenated_few (drop 9 s) bytes e) (no_bytes bytes) is

parsed_few : (s bytes : List ℕ) → parsed s ≡ Some bytes → Bytes bytes
parsed_few s bytes is =
    by_if (length s == 32) (parsed_simple s) _ bytes (λ t e. simple_few s bytes e)
    (by_if (length s == 36) (parsed_hyphenated s) _ bytes (λ t e. hyphenated_few s bytes e)
    (by_if (length s == 38) (parsed_braced s) _ bytes (λ t e. braced_few s bytes e)
    (by_if (length s == 45) (parsed_urn s) None bytes (λ t e. urn_few s bytes e) (no_bytes bytes)))) is

number_few : (bytes : List ℕ) → Bytes bytes → from_be_bytes w128 bytes < 2 ^ 128
unfolding Bytes
number_few bytes h = omega (arith, h 0, h 1, h 2, h 3, h 4, h 5, h 6, h 7, h 8, h 9, h 10, h 11, h 12, h 13, h 14, h 15)

kind_few : (text : List ℕ) (kind : HandlerType) → IsKind text kind → spelling.IsKind kind
kind_few text Root h = tt
kind_few text (Typed guid) h = subst (λ n. n < 2 ^ 128) (sym h.2) (number_few h.0 (parsed_few text h.0 h.1))

-- OPERATIONS

part_fits : (P : List ℕ → ℕ → Type 0) (t : Members) (o : OpDef) → SaysParts P t o → names_word o ≡ true → HasWidths o
part_fits P t (op.Set into value) h e = operand_few value h.1.0 h.1.2
part_fits P t (op.Read cpu reg width into) h e = let few = leb-true cpu 65535 e in omega (arith, few)
part_fits P t (op.Write cpu reg width value) h e = let few = leb-true cpu 65535 e in (omega (arith, few), operand_few value h.3.0 h.3.2)
part_fits P t (op.Start cpu procedure arg into) h e = let few = leb-true cpu 65535 e in (omega (arith, few), operand_few arg h.2.0 h.2.2)
part_fits P t (op.Launch cpu procedure arg into) h e = let few = leb-true cpu 65535 e in (omega (arith, few), operand_few arg h.2.0 h.2.2)
part_fits P t (op.Check token) h e = operand_few token h.0 h.2
part_fits P t (op.Wait token into) h e = operand_few token h.0.0 h.0.2
part_fits P t (op.Alloc size into) h e = operand_few size h.0.0 h.0.2
part_fits P t (op.Free place) h e = operand_few place h.0 h.2
part_fits P t (op.Register handler kind into) h e = tt
part_fits P t (op.Unregister handle) h e = operand_few handle h.0 h.2
part_fits P t (op.Manage kind) h e = kind_few h.0 kind h.2

operations_fit : (P : List ℕ → ℕ → Type 0) (items : Items) (ops : List OpDef) → EachSays (λ v o. IsTableOf (λ entry. SaysOperation P entry o) v) items ops → list_all names_word ops ≡ true → OperationsFit ops
operations_fit P no_items [] h e = tt
operations_fit P no_items (o ∷ ops) h e = absurd h
operations_fit P (item v vs) [] h e = absurd h
operations_fit P (item v vs) (o ∷ ops) h e =
    let both = and_parts (names_word o) (list_all names_word ops) e in
    (part_fits P h.0.0 o h.0.2.parts both.0, operations_fit P vs ops h.1 both.1)

handlers_fit : (P : List ℕ → ℕ → Type 0) (items : Items) (handlers : List HandlerDef) → EachSays (λ v x. IsTableOf (λ entry. SaysHandlerDef P entry x) v) items handlers → list_all names_words handlers ≡ true → HandlersFit handlers
handlers_fit P no_items [] h e = tt
handlers_fit P no_items (x ∷ handlers) h e = absurd h
handlers_fit P (item v vs) [] h e = absurd h
handlers_fit P (item v vs) (x ∷ handlers) h e =
    let both = and_parts (names_words x) (list_all names_words handlers) e in
    let ops = h.0.2.ops_are.2 in
    (operations_fit P ops.0 x.ops ops.2 both.0, handlers_fit P vs handlers h.1 both.1)

kinds_fit : (items : Items) (kinds : List HandlerType) → EachSays (λ v kind. (text : List ℕ) × (v ≡ string text) × IsKind text kind) items kinds → KindsFit kinds
kinds_fit no_items [] h = tt
kinds_fit no_items (kind ∷ kinds) h = absurd h
kinds_fit (item v vs) [] h = absurd h
kinds_fit (item v vs) (kind ∷ kinds) h = (kind_few h.0.0 kind h.0.2, kinds_fit vs kinds h.1)

waves_fit : (items : Items) (waves : List Wave) → EachSays (λ v wave. IsTableOf (λ entry. SaysWave entry wave) v) items waves → WavesFit waves
waves_fit no_items [] h = tt
waves_fit no_items (wave ∷ waves) h = absurd h
waves_fit (item v vs) [] h = absurd h
waves_fit (item v vs) (wave ∷ waves) h = let manage = h.0.2.manage_is.2 in (kinds_fit manage.0 wave.manage manage.2, waves_fit vs waves h.1)

by_member : (o : Option Data) (A : Type 0) (B : Data → Type 0) (C : Type 0) → (A → C) → ((v : Data) → B v → C) → MatchOption o A B → C
by_member None A B C f g h = f h
by_member (Some v) A B C f g h = g v h

-- the tables of the handlers
abbrev SaysHandlers : List HandlerDef → Data → Type 0
SaysHandlers handlers v = IsListOf (λ v x. IsTableOf (λ entry. SaysHandlerDef (IsNameAt handlers) entry x) v) handlers v

pub says_fit : (t : Members) (d : SetupData) → Says t d → Fits d → NumbersFit d
says_fit t d says fits =
    record {
      handlers =
          by_member (get_member (codes "handler") t) (d.handlers ≡ []) (SaysHandlers d.handlers) (HandlersFit d.handlers) (λ none. subst HandlersFit (sym none) tt)
          (λ v (list : SaysHandlers d.handlers v). handlers_fit (IsNameAt d.handlers) list.0 d.handlers list.2 fits.handlers_words) says.handlers_are;
      waves = let list = says.waves_are.2 in waves_fit list.0 d.waves list.2;
    }

pub file_fits : (bytes : List ℕ) (d : SetupData) → StandsFor bytes d → NumbersFit d
file_fits bytes d h = says_fit h.document d h.says h.fits
