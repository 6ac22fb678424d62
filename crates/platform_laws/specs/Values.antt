-- What a table of a document says under a name.
use Rattle.std.specs.Prelude.{◌≡◌, ◌⊎◌, ℕ, pos, ◌<◌, List, [], ◌∷◌, IsTrue, Option, Some, MatchOption}
use Rattle.std.specs.List.{list_any}
use Rattle.std.specs.Str.{bytes_eq}
use Rattle.toml.specs.Data.{Data, integer, string, array, table, Items, no_items, item, Members, no_members, member, get_member}
use Rattle.smm_base.specs.Register.{register_text, register_number}
use Rattle.smm_base.specs.declared.registers.Register.{Register}
use Rattle.smm_base.specs.declared.kinds.HandlerType.{HandlerType}
use Rattle.cpu_table.specs.declared.handlers.Operand.{Operand}
use Rattle.cpu_table.specs.declared.handlers.Operand.TheVariants.{Number, Variable}
use Rattle.platform_laws.specs.Words.{variable_text, IsKind, IsStartList, IsHexadecimal}

-- this number, or this text
abbrev pub SaysNumber : Members → List ℕ → ℕ → Type 0
SaysNumber t name n = get_member name t ≡ Some (integer (pos n))

abbrev pub SaysText : Members → List ℕ → List ℕ → Type 0
SaysText t name text = get_member name t ≡ Some (string text)

-- a value says of each of these what it says, in their order
abbrev pub EachSays : {A : Type 0} → (Data → A → Type 0) → Items → List A → Type 0
EachSays Says no_items [] = Unit {0}
EachSays Says no_items (x ∷ xs) = ⊥
EachSays Says (item v vs) [] = ⊥
EachSays Says (item v vs) (x ∷ xs) = Says v x × EachSays Says vs xs

-- a value is a list whose elements say these
abbrev pub IsListOf : {A : Type 0} → (Data → A → Type 0) → List A → Data → Type 0
IsListOf Says xs v = (items : Items) × (v ≡ array items) × EachSays Says items xs

-- a value is a table that says this
abbrev pub IsTableOf : (Members → Type 0) → Data → Type 0
IsTableOf Says v = (t : Members) × (v ≡ table t) × Says t

-- a list whose elements say these
abbrev pub SaysList : {A : Type 0} → (Data → A → Type 0) → Members → List ℕ → List A → Type 0
SaysList Says t name xs = (v : Data) × (get_member name t ≡ Some v) × IsListOf Says xs v

-- where there is no such name its value is another fact's, as that of a default
abbrev pub SaysOr : Type 0 → (Data → Type 0) → Members → List ℕ → Type 0
SaysOr IsDefault Says t name = MatchOption (get_member name t) IsDefault Says

-- a list of tables that may be missing where it is empty
abbrev pub SaysTables : {A : Type 0} → (Members → A → Type 0) → Members → List ℕ → List A → Type 0
SaysTables Says t name xs = SaysOr (xs ≡ []) (IsListOf (λ v x. IsTableOf (λ entry. Says entry x) v) xs) t name

-- no name but these
abbrev pub HasOnly : List (List ℕ) → Members → Type 0
HasOnly names no_members = Unit {0}
HasOnly names (member name v more) = IsTrue (list_any (λ known. bytes_eq known name) names) × HasOnly names more

-- the register of this number, by its printed name
abbrev pub SaysRegister : Members → List ℕ → ℕ → Type 0
SaysRegister t name number = (r : Register) × (number ≡ register_number r) × SaysText t name (register_text r)

-- the list of handlers, in one of its spellings
abbrev pub SaysKind : Members → List ℕ → HandlerType → Type 0
SaysKind t name kind = (text : List ℕ) × SaysText t name text × IsKind text kind

abbrev pub SaysStartList : Members → List ℕ → Option HandlerType → Type 0
SaysStartList t name kind = (text : List ℕ) × SaysText t name text × IsStartList text kind

-- the handler at this place, by its name
abbrev pub SaysHandler : (List ℕ → ℕ → Type 0) → Members → List ℕ → ℕ → Type 0
SaysHandler IsPlaceOf t name at = (text : List ℕ) × SaysText t name text × IsPlaceOf text at

-- a value is an operand: a number as an integer of 63 bits or in hexadecimal digits, or a variable
abbrev pub IsOperand : Operand → Data → Type 0
IsOperand (Number n) v = ((v ≡ integer (pos n)) × (n < 9223372036854775808)) ⊎ ((text : List ℕ) × (v ≡ string text) × IsHexadecimal text n)
IsOperand (Variable number) v = v ≡ string (variable_text number)

abbrev pub SaysOperand : Members → List ℕ → Operand → Type 0
SaysOperand t name operand = (v : Data) × (get_member name t ≡ Some v) × IsOperand operand v
