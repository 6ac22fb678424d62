-- An operand that is read is the one that is written, and the other way round.
use Rattle.std.proofs.Common.{◌≡◌, inl, inr, ℕ, ℤ, pos, ◌≤◌, Bool, true, false, ◌&&◌, nat_le, eqb, List, [], ◌∷◌, ◌++◌, length, drop, Option, Some, None, Ok, option_map, codes, refl, ap, sym, subst, ◌∙◌, if◌then◌else◌, arith, le-leb}
use Rattle.std.specs.Char.{is_digit}
use Rattle.std.specs.List.{list_all, starts_with}
use Rattle.std.specs.Str.Parse.{digits_value}
use Rattle.std.proofs.lemmas.Bool.{and_parts, and_from, leb-true, eqb-true, false≢true}
use Rattle.std.proofs.lemmas.Option.{same_Some, none-some}
use Rattle.toml.specs.Data.{Data, integer, string, Members, as_integer, as_str}
use Rattle.cpu_table.specs.Ranges.{is_operand, is_variable}
use Rattle.cpu_table.specs.declared.handlers.Operand.{Operand}
use Rattle.cpu_table.specs.declared.handlers.Operand.TheVariants.{Number}
use Rattle.cpu_table.specs.declared.handlers.Operand.TheVariants as operand
use Rattle.platform_document.specs.declared.operand.Variable.{Variable}
use Rattle.platform_document.specs.declared.path.Path.{Path}
use Rattle.platform_document.specs.declared.fault.WalkFault.TheVariants.{Word, WrongType}
use Rattle.platform_document.specs.Path.{key_text}
use Rattle.platform_document.specs.Reading.{greatest}
use Rattle.platform_document.specs.Words.{variable_of, are_digits, number_of_digits, hexadecimal_of, operand_of}
use Rattle.platform_document.specs.Words as words
use Rattle.platform_document.specs.Reading.{required, number_within}
use Rattle.platform_document.specs.Operands.{operand_by, operand_value, operand_at}
use Rattle.platform_laws.specs.Words.{variable_text, IsHexadecimal}
use Rattle.platform_laws.specs.Values.{IsOperand, SaysOperand}
use Rattle.platform_laws.proofs.Readings.{split, joined, same_ok, some_of, of_some, err_ok, integer_is, string_is, within_said, within_read, required_said, required_read}
use Rattle.platform_laws.proofs.Words.{variable_said, variable_read}

if_some : {A : Type 0} (b : Bool) (o : Option A) (x : A) → (if b then o else None) ≡ Some x → (b ≡ true) × (o ≡ Some x)
if_some true o x is = (refl, is)
if_some false o x is = absurd (none-some x is)

-- a text that begins with `0x`
prefixed : (text : List ℕ) → starts_with eqb text (codes "0x") ≡ true → text ≡ codes "0x" ++ drop 2 text
prefixed [] e = absurd (false≢true e)
prefixed (a ∷ []) e = absurd (false≢true ((and_parts (eqb 48 a) false e).1))
prefixed (a ∷ b ∷ rest) e =
    let (first, more) = and_parts (eqb 48 a) (eqb 120 b && true) e in
    let (second, end) = and_parts (eqb 120 b) true more in
    ap (λ x. x ∷ b ∷ rest) (sym (eqb-true 48 a first)) ∙ ap (λ x. 48 ∷ x ∷ rest) (sym (eqb-true 120 b second))

number_said : (digits : List ℕ) (n : ℕ) → number_of_digits digits ≡ Some n → (are_digits digits ≡ true) × (digits_value 16 digits ≡ n)
number_said digits n is =
    let (are, same) = if_some (are_digits digits) (Some (digits_value 16 digits)) n is in
    (are, same_Some (digits_value 16 digits) n same)

hexadecimal_said : (text : List ℕ) (n : ℕ) → hexadecimal_of text ≡ Some n → IsHexadecimal text n
hexadecimal_said text n is =
    let (starts, rest) = if_some (starts_with eqb text (codes "0x")) (number_of_digits (drop 2 text)) n is in
    let (are, same) = number_said (drop 2 text) n rest in
    let (count, all) = and_parts (nat_le 1 (length (drop 2 text)) && nat_le (length (drop 2 text)) 16) (list_all (λ c. is_digit c 16) (drop 2 text)) are in
    let (some, few) = and_parts (nat_le 1 (length (drop 2 text))) (nat_le (length (drop 2 text)) 16) count in
    record {
      digits = drop 2 text;
      written = prefixed text starts;
      count = (leb-true 1 (length (drop 2 text)) some, leb-true (length (drop 2 text)) 16 few);
      hexadecimal = all;
      value = sym same;
    }

digits_read : (digits : List ℕ) → 1 ≤ length digits → length digits ≤ 16 → list_all (λ c. is_digit c 16) digits ≡ true → number_of_digits digits ≡ Some (digits_value 16 digits)
digits_read digits some few all =
    ap (λ b. if b then Some (digits_value 16 digits) else None)
    (and_from (nat_le 1 (length digits) && nat_le (length digits) 16) (list_all (λ c. is_digit c 16) digits)
    (and_from (nat_le 1 (length digits)) (nat_le (length digits) 16) (le-leb 1 (length digits) some) (le-leb (length digits) 16 few)) all)

hexadecimal_read : (text : List ℕ) (n : ℕ) → IsHexadecimal text n → operand_of text ≡ Some (Number n)
hexadecimal_read text n is =
    let no_variable : words.variable_of (codes "0x" ++ is.digits) ≡ None = refl in
    ap operand_of is.written ∙ ap (option_map Number) (digits_read is.digits is.count.0 is.count.1 is.hexadecimal ∙ ap Some (sym is.value))

text_said : (text : List ℕ) (v : Option Variable) (number : Option ℕ) (o : Operand) → variable_of text ≡ v → hexadecimal_of text ≡ number → words.operand_by v number ≡ Some o → IsOperand o (string text) × (is_operand o ≡ true)
text_said text (Some v) number o e h is =
    let (written, small) = variable_said text v e in
    subst (λ x. IsOperand x (string text) × (is_operand x ≡ true)) (same_Some (operand.Variable v.number) o is) (ap string written, small)
text_said text None None o e h is = absurd (none-some o is)
text_said text None (Some n) o e h is =
    subst (λ x. IsOperand x (string text) × (is_operand x ≡ true)) (same_Some (Number n) o is) (inr (text, refl, hexadecimal_said text n h), refl)

pub by_said : (path : Path) (v : Data) (z : Option ℤ) (s : Option (List ℕ)) (o : Operand) → as_integer v ≡ z → as_str v ≡ s → operand_by path z s ≡ Ok o → IsOperand o v × (is_operand o ≡ true)
by_said path v (Some z) s o e f is =
    let (n, within, rest) = split (number_within path 0 greatest z) (λ k. Ok (Number k)) o is in
    let (same, low, high) = within_said path 0 greatest z n within in
    subst (λ x. IsOperand x v × (is_operand x ≡ true)) (same_ok (Number n) o rest) (inl (integer_is v z e ∙ ap integer same, omega (arith, high)), refl)
by_said path v None None o e f is = err_ok (WrongType path) o is
by_said path v None (Some text) o e f is =
    let (says, fits) = text_said text (variable_of text) (hexadecimal_of text) o refl refl (some_of (operand_of text) (Word path) o is) in
    (subst (λ x. IsOperand o x) (sym (string_is v text f)) says, fits)

pub operand_said : (path : Path) (t : Members) (o : Operand) → operand_at path t ≡ Ok o → SaysOperand t (key_text path.key) o × (is_operand o ≡ true)
operand_said path t o is =
    let (v, there, rest) = split (required path t) (operand_value path) o is in
    let (says, fits) = by_said path v (as_integer v) (as_str v) o refl refl rest in
    ((v, required_said path t v there, says), fits)

variable_text_read : (n : ℕ) → is_variable n ≡ true → operand_of (variable_text n) ≡ Some (operand.Variable n)
variable_text_read n small = ap (λ v. words.operand_by v (hexadecimal_of (variable_text n))) (variable_read n small)

pub value_read : (path : Path) (v : Data) (o : Operand) → IsOperand o v → is_operand o ≡ true → operand_value path v ≡ Ok o
value_read path v (Number n) (inl (same, small)) fits =
    ap (operand_value path) same ∙ joined (number_within path 0 greatest (pos n)) (λ k. Ok (Number k)) n (Number n) (within_read path 0 greatest n (omega arith) (omega (arith, small))) refl
value_read path v (Number n) (inr (text, same, is)) fits = ap (operand_value path) same ∙ of_some (operand_of text) (Word path) (Number n) (hexadecimal_read text n is)
value_read path v (operand.Variable n) says fits = ap (operand_value path) says ∙ of_some (operand_of (variable_text n)) (Word path) (operand.Variable n) (variable_text_read n fits)

pub operand_read : (path : Path) (t : Members) (o : Operand) → SaysOperand t (key_text path.key) o → is_operand o ≡ true → operand_at path t ≡ Ok o
operand_read path t o (v, there, says) fits = joined (required path t) (operand_value path) v o (required_read path t v there) (value_read path v o says fits)
