-- How each word of a platform file is written.
use Rattle.std.specs.Prelude.{◌≡◌, ◌⊎◌, ℕ, ◌+◌, ◌≤◌, List, [], ◌∷◌, ◌++◌, length, IsTrue, Option, Some, None, codes}
use Rattle.std.specs.Char.{is_digit}
use Rattle.std.specs.List.{list_all}
use Rattle.std.specs.Str.Parse.{digits_value}
use Rattle.std.specs.Int.{w128, from_be_bytes}
use Rattle.uuid.specs.Text.{simple_text, hyphenated_text, braced_text, urn_text, parsed}
use Rattle.smm_base.specs.declared.kinds.MapKind.{MapKind}
use Rattle.smm_base.specs.declared.kinds.MapKind.TheVariants.{Ia32, Intel64}
use Rattle.smm_base.specs.declared.kinds.Policy.{Policy}
use Rattle.smm_base.specs.declared.kinds.Policy.TheVariants.{Elected, Fixed}
use Rattle.smm_base.specs.declared.kinds.HandlerType.{HandlerType}
use Rattle.smm_base.specs.declared.kinds.HandlerType.TheVariants.{Root, Typed}
use Rattle.cpu_table.specs.declared.setup.Mode.{Mode}
use Rattle.cpu_table.specs.declared.setup.Mode.TheVariants.{Traditional, Relaxed}
use Rattle.cpu_table.specs.declared.waves.Arrival.{Arrival}
use Rattle.cpu_table.specs.declared.waves.Arrival.TheVariants.{Prompt, Delayed, Blocked, Absent}
use Rattle.cpu_table.specs.declared.handlers.Act.{Act}
use Rattle.cpu_table.specs.declared.handlers.Act.TheVariants.{Get, Put}
use Rattle.cpu_table.specs.declared.handlers.OpDef.{OpDef}
use Rattle.cpu_table.specs.declared.handlers.OpDef.TheVariants as op
use Rattle.platform_document.specs.declared.word.OperationWord.{OperationWord}
use Rattle.platform_document.specs.declared.word.OperationWord.TheVariants as word

-- the map of the save-state images
abbrev pub map_text : MapKind → List ℕ
map_text Ia32 = codes "ia32"
map_text Intel64 = codes "intel64"

-- how the boot processor of an interrupt is chosen
abbrev pub policy_text : Policy → List ℕ
policy_text Elected = codes "elected"
policy_text (Fixed b) = codes "fixed"

-- the mode of synchronisation
abbrev pub mode_text : Mode → List ℕ
mode_text Traditional = codes "traditional"
mode_text Relaxed = codes "relaxed"

-- how a processor meets an interrupt
abbrev pub arrival_text : Arrival → List ℕ
arrival_text Prompt = codes "prompt"
arrival_text Delayed = codes "delayed"
arrival_text Blocked = codes "blocked"
arrival_text Absent = codes "absent"

-- what a procedure does with its register
abbrev pub act_text : Act → List ℕ
act_text Get = codes "get"
act_text Put = codes "put"

-- how the word of an operation is written
abbrev pub word_text : OperationWord → List ℕ
word_text word.Set = codes "set"
word_text word.Read = codes "read"
word_text word.Write = codes "write"
word_text word.Start = codes "start"
word_text word.Launch = codes "launch"
word_text word.Check = codes "check"
word_text word.Wait = codes "wait"
word_text word.Alloc = codes "alloc"
word_text word.Free = codes "free"
word_text word.Register = codes "register"
word_text word.Unregister = codes "unregister"
word_text word.Manage = codes "manage"

-- the word of an operation
abbrev pub word_of : OpDef → OperationWord
word_of (op.Set into value) = word.Set
word_of (op.Read cpu reg width into) = word.Read
word_of (op.Write cpu reg width value) = word.Write
word_of (op.Start cpu procedure arg into) = word.Start
word_of (op.Launch cpu procedure arg into) = word.Launch
word_of (op.Check token) = word.Check
word_of (op.Wait token into) = word.Wait
word_of (op.Alloc size into) = word.Alloc
word_of (op.Free place) = word.Free
word_of (op.Register handler kind into) = word.Register
word_of (op.Unregister handle) = word.Unregister
word_of (op.Manage kind) = word.Manage

-- how an operation's word is written
abbrev pub operation_text : OpDef → List ℕ
operation_text operation = word_text (word_of operation)

-- a variable is the letter v and one decimal digit
abbrev pub variable_text : ℕ → List ℕ
variable_text number = 118 ∷ (48 + number) ∷ []

-- a text is a GUID in one of the forms of RFC 9562 that the uuid crate reads, the most significant byte first
abbrev pub IsGuid : List ℕ → ℕ → Type 0
IsGuid text guid = (bytes : List ℕ) × (parsed text ≡ Some bytes) × (guid ≡ from_be_bytes w128 bytes)

-- a text is a GUID's bytes as they are printed (RFC 9562): the digits alone, in groups with hyphens, these in braces, or after `urn:uuid:`; the letter tells the case
abbrev pub IsGuidText : ℕ → List ℕ → List ℕ → Type 0
IsGuidText letter bytes text = (text ≡ simple_text letter bytes) ⊎ (text ≡ hyphenated_text letter bytes) ⊎ (text ≡ braced_text letter bytes) ⊎ (text ≡ urn_text letter bytes)

-- a text names a list of handlers: the root list, or that of a GUID
abbrev pub IsKind : List ℕ → HandlerType → Type 0
IsKind text Root = text ≡ codes "root"
IsKind text (Typed guid) = IsGuid text guid

-- a text names the list on which a handler stands at the start, if it stands on one
abbrev pub IsStartList : List ℕ → Option HandlerType → Type 0
IsStartList text None = text ≡ codes "none"
IsStartList text (Some kind) = IsKind text kind

-- a text is `0x` and 1 to 16 hexadecimal digits of this number
pub record IsHexadecimal (text : List ℕ) (number : ℕ) : Type 0 where
  pub digits : List ℕ
  pub written : text ≡ codes "0x" ++ digits
  pub count : (1 ≤ length digits) × (length digits ≤ 16)
  pub hexadecimal : IsTrue (list_all (λ c. is_digit c 16) digits)
  pub value : number ≡ digits_value 16 digits
