-- What may be wrong with a value of a document, and with a member of a table.
use Rattle.std.specs.Prelude.{◌≡◌, ◌⊎◌, ℕ, ℤ, pos, ◌≤◌, Bool, false, IsTrue, List, [], ◌∷◌, ◌++◌, length, MatchOption}
use Rattle.std.specs.List.{list_any}
use Rattle.std.specs.Str.{bytes_eq}
use Rattle.toml.specs.Data.{Data, integer, string, boolean, array, table, Members, no_members, member, get_member}
use Rattle.cpu_table.specs.Ranges.{is_operand}
use Rattle.cpu_table.specs.declared.handlers.Operand.{Operand}
use Rattle.platform_document.specs.declared.path.Path.{Path}
use Rattle.platform_document.specs.declared.path.TablePlace.{TablePlace}
use Rattle.platform_document.specs.declared.fault.WalkFault.{WalkFault}
use Rattle.platform_document.specs.declared.fault.WalkFault.TheVariants.{Missing, WrongType, NoTable, Word, Range, Unknown}
use Rattle.platform_document.specs.Path.{key_text}
use Rattle.platform_document.specs.Reading.{data_list}
use Rattle.platform_laws.specs.Values.{IsOperand}

-- what may be wrong with something, by the fault that it is
abbrev pub FaultOf : Type 0 → Type 1
FaultOf A = A → WalkFault → Type 0

-- nothing
abbrev pub NoFault : {A : Type 0} → A → WalkFault → Type 0
NoFault x f = ⊥

-- a value is of another kind than the wanted one, or it is of that kind and something is wrong with it
abbrev pub KindFault : {A : Type 0} → (A → Data) → WalkFault → FaultOf A → Data → WalkFault → Type 0
KindFault {A = A} kind other IsWrong v f = (((x : A) → v ≡ kind x → ⊥) × (f ≡ other)) ⊎ ((x : A) × (v ≡ kind x) × IsWrong x f)

-- a member that must be there is missing, or something is wrong with its value
abbrev pub KeyFault : Path → FaultOf Data → Members → WalkFault → Type 0
KeyFault path IsWrong t f = MatchOption (get_member (key_text path.key) t) (f ≡ Missing path) (λ v. IsWrong v f)

-- a member that may be missing is there, and something is wrong with its value
abbrev pub OptionFault : Path → FaultOf Data → Members → WalkFault → Type 0
OptionFault path IsWrong t f = MatchOption (get_member (key_text path.key) t) ⊥ (λ v. IsWrong v f)

-- it is no number from the first to the last
abbrev pub IsOutside : ℕ → ℕ → ℤ → Type 0
IsOutside first last z = (n : ℕ) → z ≡ pos n → first ≤ n → n ≤ last → ⊥

-- no integer, or one that is outside its range
abbrev pub NumberFault : Path → ℕ → ℕ → Data → WalkFault → Type 0
NumberFault path first last v f = KindFault (λ z. integer z) (WrongType path) (λ z g. IsOutside first last z × (g ≡ Range path z)) v f

-- no integer, or none of the numbers that there are
abbrev pub ChoiceFault : Path → (ℕ → Bool) → Data → WalkFault → Type 0
ChoiceFault path is_there v f =
    KindFault (λ z. integer z) (WrongType path) (λ z g. ((n : ℕ) → z ≡ pos n → IsTrue (is_there n) → ⊥) × (g ≡ Range path z)) v f

-- no text, or none of the words
abbrev pub WordFault : Path → (List ℕ → Type 0) → Data → WalkFault → Type 0
WordFault path IsWord v f = KindFault (λ text. string text) (WrongType path) (λ text g. (IsWord text → ⊥) × (g ≡ Word path)) v f

-- no text
abbrev pub TextFault : Path → Data → WalkFault → Type 0
TextFault path v f = KindFault (λ text. string text) (WrongType path) NoFault v f

-- neither true nor false
abbrev pub FlagFault : Path → Data → WalkFault → Type 0
FlagFault path v f = KindFault (λ b. boolean b) (WrongType path) NoFault v f

-- a value is an operand that there is
abbrev pub IsSomeOperand : Data → Type 0
IsSomeOperand v = (operand : Operand) × IsOperand operand v × IsTrue (is_operand operand)

-- neither an integer nor a text, an integer that is no operand, or a text that is none
abbrev pub OperandFault : Path → Data → WalkFault → Type 0
OperandFault path v f =
    (((z : ℤ) → v ≡ integer z → ⊥) × ((text : List ℕ) → v ≡ string text → ⊥) × (f ≡ WrongType path))
    ⊎ ((z : ℤ) × (v ≡ integer z) × (IsSomeOperand v → ⊥) × (f ≡ Range path z))
    ⊎ ((text : List ℕ) × (v ≡ string text) × (IsSomeOperand v → ⊥) × (f ≡ Word path))

-- no table, or one in which something is wrong
abbrev pub TableFault : WalkFault → FaultOf Members → Data → WalkFault → Type 0
TableFault other IsWrong v f = KindFault (λ t. table t) other IsWrong v f

-- something is wrong with some value of a list, given those before it
abbrev pub SomeFault : (List Data → Data → WalkFault → Type 0) → List Data → List Data → WalkFault → Type 0
SomeFault IsWrong before [] f = ⊥
SomeFault IsWrong before (v ∷ vs) f = IsWrong before v f ⊎ SomeFault IsWrong (before ++ v ∷ []) vs f

-- it is no length from the first to the last
abbrev pub IsNoLength : ℕ → ℕ → ℕ → Type 0
IsNoLength first last n = first ≤ n → n ≤ last → ⊥

-- no list, one whose length is outside its range, or one with a value that is wrong
abbrev pub ListFault : Path → ℕ → ℕ → (List Data → Data → WalkFault → Type 0) → Data → WalkFault → Type 0
ListFault path first last IsWrong v f =
    KindFault (λ items. array items) (WrongType path)
    (λ items g. (IsNoLength first last (length (data_list items)) × (g ≡ Range path (pos (length (data_list items))))) ⊎ SomeFault IsWrong [] (data_list items) g) v f

-- a list of tables: something is wrong with it, or with a table, given those before it and its place
abbrev pub TablesFault : Path → ℕ → ℕ → (ℕ → TablePlace) → (List Data → ℕ → FaultOf Members) → Data → WalkFault → Type 0
TablesFault path first last place IsWrong v f =
    ListFault path first last (λ before w g. TableFault (NoTable (place (length before))) (IsWrong before (length before)) w g) v f

-- some name of the table is none of these
abbrev pub NameFault : TablePlace → List (List ℕ) → Members → WalkFault → Type 0
NameFault place names no_members f = ⊥
NameFault place names (member name v more) f =
    ((list_any (λ known. bytes_eq known name) names ≡ false) × (f ≡ Unknown place name)) ⊎ NameFault place names more f

-- one of the values is such a one
abbrev pub IsAmong : (Data → Type 0) → List Data → Type 0
IsAmong IsSuch [] = ⊥
IsAmong IsSuch (v ∷ vs) = IsSuch v ⊎ IsAmong IsSuch vs
