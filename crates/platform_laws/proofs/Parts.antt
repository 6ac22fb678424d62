-- The parts that several operations have.
use Rattle.std.proofs.Common.{◌≡◌, ℕ, true, nat_lt, nat_le, List, length, Option, Some, Ok, refl, ap, sym, subst, ◌∙◌, codes, le-leb, lt-ltb, arith}
use Rattle.std.proofs.lemmas.Bool.{leb-true}
use Rattle.std.proofs.lemmas.List.Quantifiers.{position-Some}
use Rattle.toml.specs.Data.{Data, string, boolean, Members}
use Rattle.smm_base.specs.Register.{register_text, register_number, register_named, is_register_number}
use Rattle.smm_base.specs.declared.kinds.HandlerType.{HandlerType}
use Rattle.cpu_table.specs.Ranges.{is_variable}
use Rattle.platform_document.specs.declared.operand.Variable.{Variable}
use Rattle.platform_document.specs.declared.path.TablePlace.{TablePlace}
use Rattle.platform_document.specs.declared.path.Key.TheVariants as key
use Rattle.platform_document.specs.declared.path.Path.{Path}
use Rattle.platform_document.specs.Path.{key_text}
use Rattle.platform_document.specs.Words.{variable, variable_of, kind_of}
use Rattle.platform_document.specs.Reading.{path_to, word_at}
use Rattle.platform_document.specs.CommonKeys.{cpu_at, register_at, width_at, into_at, kind_at}
use Rattle.platform_file.specs.Operations.{has_name, handler_named, handler_at}
use Rattle.platform_laws.specs.Words.{variable_text}
use Rattle.platform_laws.specs.Values.{SaysNumber, SaysText, SaysRegister, SaysKind, SaysHandler}
use Rattle.platform_laws.proofs.Readings.{split, joined, same_ok, number_said, number_read, word_said, word_read}
use Rattle.platform_laws.proofs.Words.{register_said, register_read, register_there, variable_said, variable_read, kind_said, kind_read}

-- a word with one spelling
pub word_is : {A : Type 0} (path : Path) (find : List ℕ → Option A) (t : Members) (x : A) (w : List ℕ) → ((text : List ℕ) → find text ≡ Some x → text ≡ w) → word_at path find t ≡ Ok x → SaysText t (key_text path.key) w
word_is path find t x w same is =
    let (text, says, finds) = word_said path find t x is in
    says ∙ ap (λ s. Some (string s)) (same text finds)

pub cpu_said : (place : TablePlace) (t : Members) (n : ℕ) → cpu_at place t ≡ Ok n → SaysNumber t (codes "cpu") n × (nat_le n 65535 ≡ true)
cpu_said place t n is =
    let (says, low, high) = number_said (path_to place key.Cpu) 0 65535 t n is in
    (says, le-leb n 65535 high)

pub cpu_read : (place : TablePlace) (t : Members) (n : ℕ) → SaysNumber t (codes "cpu") n → nat_le n 65535 ≡ true → cpu_at place t ≡ Ok n
cpu_read place t n says fits = number_read (path_to place key.Cpu) 0 65535 t n says (omega arith) (leb-true n 65535 fits)

pub width_said : (place : TablePlace) (t : Members) (n : ℕ) → width_at place t ≡ Ok n → SaysNumber t (codes "width") n × (nat_le n 24 ≡ true)
width_said place t n is =
    let (says, low, high) = number_said (path_to place key.Width) 0 24 t n is in
    (says, le-leb n 24 high)

pub width_read : (place : TablePlace) (t : Members) (n : ℕ) → SaysNumber t (codes "width") n → nat_le n 24 ≡ true → width_at place t ≡ Ok n
width_read place t n says fits = number_read (path_to place key.Width) 0 24 t n says (omega arith) (leb-true n 24 fits)

pub reg_said : (place : TablePlace) (t : Members) (n : ℕ) → register_at place t ≡ Ok n → SaysRegister t (codes "reg") n × (is_register_number n ≡ true)
reg_said place t n is =
    let (r, there, rest) = split (word_at (path_to place key.Reg) register_named t) (λ x. Ok (register_number x)) n is in
    let same = same_ok (register_number r) n rest in
    ((r, sym same, word_is (path_to place key.Reg) register_named t r (register_text r) (λ text e. register_said text r e) there), subst (λ k. is_register_number k ≡ true) same (register_there r))

pub reg_read : (place : TablePlace) (t : Members) (n : ℕ) → SaysRegister t (codes "reg") n → register_at place t ≡ Ok n
reg_read place t n (r, same, says) =
    joined (word_at (path_to place key.Reg) register_named t) (λ x. Ok (register_number x)) r n (word_read (path_to place key.Reg) register_named t r (register_text r) says (register_read r)) (ap Ok (sym same))

pub into_said : (place : TablePlace) (t : Members) (n : ℕ) → into_at place t ≡ Ok n → SaysText t (codes "into") (variable_text n) × (is_variable n ≡ true)
into_said place t n is =
    let (v, there, rest) = split (word_at (path_to place key.Into) variable_of t) (λ (x : Variable). Ok x.number) n is in
    let (text, says, finds) = word_said (path_to place key.Into) variable_of t v there in
    let (written, small) = variable_said text v finds in
    let P : ℕ → Type 0 = λ k. SaysText t (codes "into") (variable_text k) × (is_variable k ≡ true) in
    subst P (same_ok v.number n rest) (says ∙ ap (λ s. Some (string s)) written, small)

pub into_read : (place : TablePlace) (t : Members) (n : ℕ) → SaysText t (codes "into") (variable_text n) → is_variable n ≡ true → into_at place t ≡ Ok n
into_read place t n says small =
    joined (word_at (path_to place key.Into) variable_of t) (λ (x : Variable). Ok x.number) (variable n) n (word_read (path_to place key.Into) variable_of t (variable n) (variable_text n) says (variable_read n small)) refl

pub kind_at_said : (place : TablePlace) (t : Members) (k : HandlerType) → kind_at place t ≡ Ok k → SaysKind t (codes "type") k
kind_at_said place t k is =
    let (text, says, finds) = word_said (path_to place key.Type) kind_of t k is in
    (text, says, kind_said text k finds)

pub kind_at_read : (place : TablePlace) (t : Members) (k : HandlerType) → SaysKind t (codes "type") k → kind_at place t ≡ Ok k
kind_at_read place t k (text, says, is) = word_read (path_to place key.Type) kind_of t k text says (kind_read text k is)

-- a name stands for a place as the walk finds it
abbrev pub IsFound : List Data → List ℕ → ℕ → Type 0
IsFound entries name at = handler_named entries name ≡ Some at

pub handler_at_said : (entries : List Data) (place : TablePlace) (t : Members) (at : ℕ) → handler_at entries place t ≡ Ok at → SaysHandler (IsFound entries) t (codes "handler") at × (nat_lt at (length entries) ≡ true)
handler_at_said entries place t at is =
    let (text, says, finds) = word_said (path_to place key.Handler) (handler_named entries) t at is in
    let within = (position-Some (has_name text) entries at (boolean true) finds).0 in
    ((text, says, finds), lt-ltb at (length entries) within)

pub handler_at_read : (entries : List Data) (place : TablePlace) (t : Members) (at : ℕ) → SaysHandler (IsFound entries) t (codes "handler") at → handler_at entries place t ≡ Ok at
handler_at_read entries place t at (text, says, finds) = word_read (path_to place key.Handler) (handler_named entries) t at text says finds
