-- What may be wrong with a platform file, key by key, given the keys that bound a key.
use Rattle.std.specs.Prelude.{◌≡◌, ◌⊎◌, ℕ, pos, ◌+◌, ◌-◌, ◌<◌, IsTrue, List, [], ◌∷◌, ◌++◌, Option, Some, MatchOption, codes}
use Rattle.toml.specs.Data.{Data, integer, array, Items, Members, get_member}
use Rattle.smm_base.specs.Kinds.{is_io_length, is_io_type}
use Rattle.smm_base.specs.Register.{register_text}
use Rattle.smm_base.specs.Status.{status_text}
use Rattle.smm_base.specs.declared.kinds.HandlerType.{HandlerType}
use Rattle.smm_base.specs.declared.kinds.Policy.{Policy}
use Rattle.smm_base.specs.declared.status.Status.{Status}
use Rattle.cpu_table.specs.Layout.{layout_refusal}
use Rattle.cpu_table.specs.Ranges.{events_at_most, is_answer, is_name, is_variable}
use Rattle.cpu_table.specs.declared.layout.LayoutError.{LayoutError}
use Rattle.cpu_table.specs.declared.setup.Smram.{Smram}
use Rattle.platform_document.specs.Reading.{data_list, greatest, path_to}
use Rattle.platform_document.specs.declared.fault.WalkFault.{WalkFault}
use Rattle.platform_document.specs.declared.fault.WalkFault.TheVariants.{WrongType, Range, TooLarge, Layout}
use Rattle.platform_document.specs.declared.path.Key.{Key}
use Rattle.platform_document.specs.declared.path.Key.TheVariants as key
use Rattle.platform_document.specs.declared.path.Path.{Path}
use Rattle.platform_document.specs.declared.path.TablePlace.{TablePlace}
use Rattle.platform_document.specs.declared.path.TablePlace.TheVariants as place
use Rattle.platform_document.specs.declared.word.OperationWord.{OperationWord}
use Rattle.platform_document.specs.declared.word.OperationWord.TheVariants as word
use Rattle.platform_laws.specs.Words.{map_text, policy_text, mode_text, arrival_text, act_text, variable_text, word_text, IsKind, IsStartList}
use Rattle.platform_laws.specs.Values.{SaysNumber, SaysText, SaysList, IsTableOf}
use Rattle.platform_laws.specs.Says.{SaysArea, part_names, names_by, top_names}
use Rattle.platform_laws.specs.ValueFaults.{KeyFault, OptionFault, NumberFault, ChoiceFault, WordFault, TextFault, FlagFault, OperandFault, TableFault, ListFault, TablesFault, NameFault, IsAmong}

-- a text is one that is printed for some value
abbrev pub IsPrinted : {A : Type 0} → (A → List ℕ) → List ℕ → Type 0
IsPrinted {A = A} print text = (x : A) × (text ≡ print x)

-- a text is a status that a handler may answer with
abbrev pub IsAnswer : List ℕ → Type 0
IsAnswer text = (status : Status) × (text ≡ status_text status) × IsTrue (is_answer status)

-- a text is a variable that there is
abbrev pub IsVariable : List ℕ → Type 0
IsVariable text = (number : ℕ) × (text ≡ variable_text number) × IsTrue (is_variable number)

-- a text names some list of handlers
abbrev pub IsSomeKind : List ℕ → Type 0
IsSomeKind text = (kind : HandlerType) × IsKind text kind

-- a text names the list on which a handler may stand at the start, or none
abbrev pub IsSomeStart : List ℕ → Type 0
IsSomeStart text = (kind : Option HandlerType) × IsStartList text kind

-- a value is a table with this name
abbrev pub IsNamed : List ℕ → Data → Type 0
IsNamed name v = IsTableOf (λ t. SaysText t (codes "name") name) v

-- a text is a name that none of the values before has
abbrev pub IsNewName : List Data → List ℕ → Type 0
IsNewName before text = IsTrue (is_name text) × (IsAmong (IsNamed text) before → ⊥)

-- some entry of the file's list of handlers has this name, whatever else is in it
abbrev pub IsFileName : Members → List ℕ → Type 0
IsFileName t name = MatchOption (get_member (codes "handler") t) ⊥ (λ v. (items : Items) × (v ≡ array items) × IsAmong (IsNamed name) (data_list items))

-- something is wrong given the number of another key
abbrev pub Given : List ℕ → (ℕ → Members → WalkFault → Type 0) → Members → WalkFault → Type 0
Given name IsWrong t f = (n : ℕ) × SaysNumber t name n × IsWrong n t f

-- a key of the top table
abbrev pub at_top : Key → Path
at_top key = path_to place.Top key

-- the policy, and the boot processor of a fixed one, given how many processors there are
abbrev pub PolicyFault : ℕ → Members → WalkFault → Type 0
PolicyFault processors t f =
    KeyFault (at_top key.Policy) (WordFault (at_top key.Policy) (IsPrinted policy_text)) t f
    ⊎ (SaysText t (codes "policy") (codes "fixed") × KeyFault (at_top key.Fixed) (NumberFault (at_top key.Fixed) 0 (processors - 1)) t f)

-- both rounds' numbers of looks
abbrev pub PollsFault : Members → WalkFault → Type 0
PollsFault t f = KeyFault (at_top key.Polls) (ListFault (at_top key.Polls) 2 2 (λ before v g. NumberFault (at_top key.Polls) 1 4096 v g)) t f

-- an id of a processor, given those before it
abbrev pub IdFault : List Data → Data → WalkFault → Type 0
IdFault before v f =
    NumberFault (at_top key.Ids) 0 greatest v f
    ⊎ ((id : ℕ) × (v ≡ integer (pos id)) × IsAmong (λ w. w ≡ integer (pos id)) before × (f ≡ Range (at_top key.Ids) (pos id)))

-- the ids, given how many processors there are
abbrev pub IdsFault : ℕ → Members → WalkFault → Type 0
IdsFault processors t f = OptionFault (at_top key.Ids) (ListFault (at_top key.Ids) processors processors IdFault) t f

-- the numbers and words of the top table
abbrev pub HeadFault : Members → WalkFault → Type 0
HeadFault t f =
    KeyFault (at_top key.Version) (NumberFault (at_top key.Version) 1 1) t f
    ⊎ KeyFault (at_top key.Processors) (NumberFault (at_top key.Processors) 1 64) t f
    ⊎ KeyFault (at_top key.Map) (WordFault (at_top key.Map) (IsPrinted map_text)) t f
    ⊎ Given (codes "processors") PolicyFault t f
    ⊎ KeyFault (at_top key.Mode) (WordFault (at_top key.Mode) (IsPrinted mode_text)) t f
    ⊎ PollsFault t f
    ⊎ KeyFault (at_top key.Visits) (NumberFault (at_top key.Visits) 1 256) t f
    ⊎ KeyFault (at_top key.Ops) (NumberFault (at_top key.Ops) 1 4096) t f
    ⊎ Given (codes "processors") IdsFault t f

-- a name that the top table hasn't under the file's policy
abbrev pub TopNameFault : Members → WalkFault → Type 0
TopNameFault t f = (policy : Policy) × SaysText t (codes "policy") (policy_text policy) × NameFault place.Top (names_by policy ++ top_names) t f

-- the size of the area, given where it begins
abbrev pub SizeFault : Members → WalkFault → Type 0
SizeFault t f =
    KeyFault (path_to place.Smram key.Size) (NumberFault (path_to place.Smram key.Size) 1 8388608) t f
    ⊎ ((base : ℕ) × (size : ℕ) × SaysNumber t (codes "base") base × SaysNumber t (codes "size") size × (4294967296 < base + size)
    × (f ≡ Range (path_to place.Smram key.Size) (pos size)))

-- the areas of the processors
abbrev pub AreaFault : Members → WalkFault → Type 0
AreaFault t f =
    KeyFault (path_to place.Smram key.Base) (NumberFault (path_to place.Smram key.Base) 0 greatest) t f
    ⊎ SizeFault t f
    ⊎ KeyFault (path_to place.Smram key.Tile) (NumberFault (path_to place.Smram key.Tile) 0 greatest) t f
    ⊎ KeyFault (path_to place.Smram key.Code) (NumberFault (path_to place.Smram key.Code) 0 greatest) t f
    ⊎ NameFault place.Smram (codes "base" ∷ codes "size" ∷ codes "tile" ∷ codes "code" ∷ []) t f

-- the table of the areas, which may be missing
abbrev pub SmramFault : Members → WalkFault → Type 0
SmramFault t f = OptionFault (at_top key.Smram) (TableFault (WrongType (at_top key.Smram)) AreaFault) t f

-- a wave, given how many processors there are
abbrev pub WaveFault : ℕ → TablePlace → Members → WalkFault → Type 0
WaveFault processors at t f =
    KeyFault (path_to at key.Status) (ListFault (path_to at key.Status) processors processors (λ before v g. WordFault (path_to at key.Status) (IsPrinted arrival_text) v g)) t f
    ⊎ KeyFault (path_to at key.Manage) (ListFault (path_to at key.Manage) 0 16 (λ before v g. WordFault (path_to at key.Manage) IsSomeKind v g)) t f
    ⊎ NameFault at (codes "status" ∷ codes "manage" ∷ []) t f

-- the waves, given how many processors and visits there are
abbrev pub WavesFault : ℕ → ℕ → Members → WalkFault → Type 0
WavesFault processors visits t f =
    KeyFault (at_top key.Wave) (TablesFault (at_top key.Wave) 1 visits (λ at. place.Wave at) (λ before at. WaveFault processors (place.Wave at))) t f

-- the processor of an operation, also one that the platform hasn't
abbrev pub CpuFault : TablePlace → Members → WalkFault → Type 0
CpuFault at t f = KeyFault (path_to at key.Cpu) (NumberFault (path_to at key.Cpu) 0 65535) t f

-- a register, by its printed name
abbrev pub RegisterFault : TablePlace → Members → WalkFault → Type 0
RegisterFault at t f = KeyFault (path_to at key.Reg) (WordFault (path_to at key.Reg) (IsPrinted register_text)) t f

-- a width in bytes
abbrev pub WidthFault : TablePlace → Members → WalkFault → Type 0
WidthFault at t f = KeyFault (path_to at key.Width) (NumberFault (path_to at key.Width) 0 24) t f

-- the variable that an operation writes
abbrev pub IntoFault : TablePlace → Members → WalkFault → Type 0
IntoFault at t f = KeyFault (path_to at key.Into) (WordFault (path_to at key.Into) IsVariable) t f

-- the list of handlers that an operation works on
abbrev pub TypeFault : TablePlace → Members → WalkFault → Type 0
TypeFault at t f = KeyFault (path_to at key.Type) (WordFault (path_to at key.Type) IsSomeKind) t f

-- an operand
abbrev pub OperandKeyFault : TablePlace → Key → Members → WalkFault → Type 0
OperandKeyFault at k t f = KeyFault (path_to at k) (OperandFault (path_to at k)) t f

-- the procedure of a job may have any name, also one that the file hasn't
abbrev pub JobFault : TablePlace → Members → WalkFault → Type 0
JobFault at t f =
    CpuFault at t f ⊎ KeyFault (path_to at key.Procedure) (TextFault (path_to at key.Procedure)) t f ⊎ OperandKeyFault at key.Arg t f ⊎ IntoFault at t f

-- the handler of an operation, by a name of the file
abbrev pub HandlerKeyFault : (List ℕ → Type 0) → TablePlace → Members → WalkFault → Type 0
HandlerKeyFault IsName at t f = KeyFault (path_to at key.Handler) (WordFault (path_to at key.Handler) IsName) t f

-- the parts of an operation with this word
abbrev pub PartsFault : (List ℕ → Type 0) → TablePlace → OperationWord → Members → WalkFault → Type 0
PartsFault IsName at word.Set t f = IntoFault at t f ⊎ OperandKeyFault at key.Value t f
PartsFault IsName at word.Read t f = CpuFault at t f ⊎ RegisterFault at t f ⊎ WidthFault at t f ⊎ IntoFault at t f
PartsFault IsName at word.Write t f = CpuFault at t f ⊎ RegisterFault at t f ⊎ WidthFault at t f ⊎ OperandKeyFault at key.Value t f
PartsFault IsName at word.Start t f = JobFault at t f
PartsFault IsName at word.Launch t f = JobFault at t f
PartsFault IsName at word.Check t f = OperandKeyFault at key.Token t f
PartsFault IsName at word.Wait t f = OperandKeyFault at key.Token t f ⊎ IntoFault at t f
PartsFault IsName at word.Alloc t f = OperandKeyFault at key.Size t f ⊎ IntoFault at t f
PartsFault IsName at word.Free t f = OperandKeyFault at key.Place t f
PartsFault IsName at word.Register t f = HandlerKeyFault IsName at t f ⊎ TypeFault at t f ⊎ IntoFault at t f
PartsFault IsName at word.Unregister t f = OperandKeyFault at key.Handle t f
PartsFault IsName at word.Manage t f = TypeFault at t f

-- an operation: its word, or its parts and names, given the word
abbrev pub OperationFault : (List ℕ → Type 0) → TablePlace → Members → WalkFault → Type 0
OperationFault IsName at t f =
    KeyFault (path_to at key.Op) (WordFault (path_to at key.Op) (IsPrinted word_text)) t f
    ⊎ ((op : OperationWord) × SaysText t (codes "op") (word_text op) × (PartsFault IsName at op t f ⊎ NameFault at (codes "op" ∷ part_names op) t f))

-- a name, given the entries before it
abbrev pub NewNameFault : List Data → TablePlace → Members → WalkFault → Type 0
NewNameFault before at t f = KeyFault (path_to at key.Name) (WordFault (path_to at key.Name) (IsNewName before)) t f

-- a handler's operations
abbrev pub OperationsFault : (List ℕ → Type 0) → ℕ → Members → WalkFault → Type 0
OperationsFault IsName handler t f =
    KeyFault (path_to (place.Handler handler) key.Ops) (TablesFault (path_to (place.Handler handler) key.Ops) 0 64 (λ at. place.Operation handler at) (λ before at. OperationFault IsName (place.Operation handler at))) t f

-- a handler, given the names of the file and the handlers before it
abbrev pub HandlerFault : (List ℕ → Type 0) → List Data → ℕ → Members → WalkFault → Type 0
HandlerFault IsName before at t f =
    NewNameFault before (place.Handler at) t f
    ⊎ KeyFault (path_to (place.Handler at) key.Type) (WordFault (path_to (place.Handler at) key.Type) IsSomeStart) t f
    ⊎ KeyFault (path_to (place.Handler at) key.Answer) (WordFault (path_to (place.Handler at) key.Answer) IsAnswer) t f
    ⊎ OperationsFault IsName at t f
    ⊎ NameFault (place.Handler at) (codes "name" ∷ codes "type" ∷ codes "answer" ∷ codes "ops" ∷ []) t f

-- a procedure, given those before it
abbrev pub ProcedureFault : List Data → TablePlace → Members → WalkFault → Type 0
ProcedureFault before at t f =
    NewNameFault before at t f
    ⊎ KeyFault (path_to at key.Act) (WordFault (path_to at key.Act) (IsPrinted act_text)) t f
    ⊎ RegisterFault at t f
    ⊎ NameFault at (codes "name" ∷ codes "act" ∷ codes "reg" ∷ []) t f

-- an I/O instruction
abbrev pub IoFault : TablePlace → Members → WalkFault → Type 0
IoFault at t f =
    KeyFault (path_to at key.Port) (NumberFault (path_to at key.Port) 0 65535) t f
    ⊎ KeyFault (path_to at key.Length) (ChoiceFault (path_to at key.Length) is_io_length) t f
    ⊎ KeyFault (path_to at key.Type) (ChoiceFault (path_to at key.Type) is_io_type) t f
    ⊎ NameFault at (codes "port" ∷ codes "length" ∷ codes "type" ∷ []) t f

-- the visit of a cause, given how many there are and the causes before it: one cause for each visit of a processor
abbrev pub VisitFault : ℕ → List Data → Path → Members → WalkFault → Type 0
VisitFault visits before path t f =
    KeyFault path (NumberFault path 1 visits) t f
    ⊎ ((cpu : ℕ) × (visit : ℕ) × SaysNumber t (codes "cpu") cpu × SaysNumber t (codes "visit") visit
    × IsAmong (IsTableOf (λ e. SaysNumber e (codes "cpu") cpu × SaysNumber e (codes "visit") visit)) before × (f ≡ Range path (pos visit)))

-- a cause, given how many processors and visits there are, and the causes before it
abbrev pub CauseFault : ℕ → ℕ → List Data → ℕ → Members → WalkFault → Type 0
CauseFault processors visits before at t f =
    KeyFault (path_to (place.Cause at) key.Cpu) (NumberFault (path_to (place.Cause at) key.Cpu) 0 (processors - 1)) t f
    ⊎ VisitFault visits before (path_to (place.Cause at) key.Visit) t f
    ⊎ OptionFault (path_to (place.Cause at) key.Halt) (FlagFault (path_to (place.Cause at) key.Halt)) t f
    ⊎ OptionFault (path_to (place.Cause at) key.Io) (TableFault (WrongType (path_to (place.Cause at) key.Io)) (IoFault (place.Io at))) t f
    ⊎ NameFault (place.Cause at) (codes "cpu" ∷ codes "visit" ∷ codes "halt" ∷ codes "io" ∷ []) t f

-- the handlers, which may be missing
abbrev pub HandlersFault : Members → WalkFault → Type 0
HandlersFault t f = OptionFault (at_top key.Handler) (TablesFault (at_top key.Handler) 0 64 (λ at. place.Handler at) (HandlerFault (IsFileName t))) t f

-- the procedures, which may be missing
abbrev pub ProceduresFault : Members → WalkFault → Type 0
ProceduresFault t f =
    OptionFault (at_top key.Procedure) (TablesFault (at_top key.Procedure) 0 64 (λ at. place.Procedure at) (λ before at. ProcedureFault before (place.Procedure at))) t f

-- the causes, which may be missing, given how many processors and visits there are
abbrev pub CausesFault : ℕ → ℕ → Members → WalkFault → Type 0
CausesFault processors visits t f =
    OptionFault (at_top key.Cause) (TablesFault (at_top key.Cause) 0 4096 (λ at. place.Cause at) (CauseFault processors visits)) t f

-- schedules could make too many events
pub record EventsFault (t : Members) (f : WalkFault) : Type 0 where
  pub processors : ℕ
  pub first : ℕ
  pub second : ℕ
  pub visits : ℕ
  pub ops : ℕ
  pub processors_is : SaysNumber t (codes "processors") processors
  pub polls_are : SaysList (λ v looks. v ≡ integer (pos looks)) t (codes "polls") (first ∷ second ∷ [])
  pub visits_is : SaysNumber t (codes "visits") visits
  pub ops_is : SaysNumber t (codes "ops") ops
  pub many : 4194304 < events_at_most processors first second visits ops
  pub told : f ≡ TooLarge (events_at_most processors first second visits ops)

-- the area has no room for the processors
pub record LayoutFault (t : Members) (f : WalkFault) : Type 0 where
  pub processors : ℕ
  pub value : Data
  pub area : Smram
  pub refusal : LayoutError
  pub processors_is : SaysNumber t (codes "processors") processors
  pub there : get_member (codes "smram") t ≡ Some value
  pub area_is : IsTableOf (λ e. SaysArea e area) value
  pub refused : layout_refusal area processors ≡ Some refusal
  pub told : f ≡ Layout refusal

-- something is wrong given the numbers of processors and visits
abbrev pub GivenBoth : (ℕ → ℕ → Members → WalkFault → Type 0) → Members → WalkFault → Type 0
GivenBoth IsWrong t f =
    (processors : ℕ) × (visits : ℕ) × SaysNumber t (codes "processors") processors × SaysNumber t (codes "visits") visits × IsWrong processors visits t f

-- the tables behind the top one, and what goes over all of them
abbrev pub RestFault : Members → WalkFault → Type 0
RestFault t f =
    SmramFault t f ⊎ GivenBoth WavesFault t f ⊎ HandlersFault t f ⊎ ProceduresFault t f ⊎ GivenBoth CausesFault t f ⊎ EventsFault t f ⊎ LayoutFault t f

-- this is wrong with the document
abbrev pub IsFault : Members → WalkFault → Type 0
IsFault t f = HeadFault t f ⊎ TopNameFault t f ⊎ RestFault t f
