-- What a document of TOML says of a platform: which member of which table stands for which part of it.
use Rattle.std.specs.Prelude.{◌≡◌, ℕ, pos, false, List, [], ◌∷◌, ◌++◌, Option, Some, None, codes, map, slice_get}
use Rattle.std.specs.List.{range_with_len}
use Rattle.toml.specs.Data.{Data, integer, string, boolean, Members}
use Rattle.smm_base.specs.Status.{status_text}
use Rattle.smm_base.specs.declared.kinds.IoCause.{IoCause}
use Rattle.smm_base.specs.declared.kinds.Policy.{Policy}
use Rattle.smm_base.specs.declared.kinds.Policy.TheVariants.{Elected, Fixed}
use Rattle.cpu_table.specs.Data.{SetupData}
use Rattle.cpu_table.specs.declared.handlers.OpDef.{OpDef}
use Rattle.cpu_table.specs.declared.handlers.OpDef.TheVariants as op
use Rattle.cpu_table.specs.declared.handlers.HandlerDef.{HandlerDef}
use Rattle.cpu_table.specs.declared.handlers.ProcedureDef.{ProcedureDef}
use Rattle.cpu_table.specs.declared.setup.CauseAt.{CauseAt}
use Rattle.cpu_table.specs.declared.setup.Smram.{Smram}
use Rattle.cpu_table.specs.declared.waves.Wave.{Wave}
use Rattle.platform_document.specs.declared.word.OperationWord.{OperationWord}
use Rattle.platform_document.specs.declared.word.OperationWord.TheVariants as word
use Rattle.platform_laws.specs.Words.{map_text, policy_text, mode_text, arrival_text, act_text, operation_text, variable_text, IsKind, word_of}
use Rattle.platform_laws.specs.Values.{SaysNumber, SaysText, SaysList, SaysOr, SaysTables, SaysRegister, SaysKind, SaysStartList, SaysHandler, SaysOperand, IsListOf, IsTableOf, HasOnly}

-- the areas of the processors
pub record SaysArea (t : Members) (area : Smram) : Type 0 where
  pub base_is : SaysNumber t (codes "base") area.base
  pub size_is : SaysNumber t (codes "size") area.size
  pub tile_is : SaysNumber t (codes "tile") area.tile
  pub code_is : SaysNumber t (codes "code") area.code
  pub only : HasOnly (codes "base" ∷ codes "size" ∷ codes "tile" ∷ codes "code" ∷ []) t

-- a wave: a word for each processor, and the walks
pub record SaysWave (t : Members) (wave : Wave) : Type 0 where
  pub status_is : SaysList (λ v arrival. v ≡ string (arrival_text arrival)) t (codes "status") wave.status
  pub manage_is : SaysList (λ v kind. (text : List ℕ) × (v ≡ string text) × IsKind text kind) t (codes "manage") wave.manage
  pub only : HasOnly (codes "status" ∷ codes "manage" ∷ []) t

-- the parts of an operation, where a name of a handler stands for its place
abbrev pub SaysParts : (List ℕ → ℕ → Type 0) → Members → OpDef → Type 0
SaysParts IsPlaceOf t (op.Set into value) = SaysText t (codes "into") (variable_text into) × SaysOperand t (codes "value") value
SaysParts IsPlaceOf t (op.Read cpu reg width into) =
    SaysNumber t (codes "cpu") cpu × SaysRegister t (codes "reg") reg × SaysNumber t (codes "width") width × SaysText t (codes "into") (variable_text into)
SaysParts IsPlaceOf t (op.Write cpu reg width value) =
    SaysNumber t (codes "cpu") cpu × SaysRegister t (codes "reg") reg × SaysNumber t (codes "width") width × SaysOperand t (codes "value") value
SaysParts IsPlaceOf t (op.Start cpu procedure arg into) =
    SaysNumber t (codes "cpu") cpu × SaysText t (codes "procedure") procedure × SaysOperand t (codes "arg") arg × SaysText t (codes "into") (variable_text into)
SaysParts IsPlaceOf t (op.Launch cpu procedure arg into) =
    SaysNumber t (codes "cpu") cpu × SaysText t (codes "procedure") procedure × SaysOperand t (codes "arg") arg × SaysText t (codes "into") (variable_text into)
SaysParts IsPlaceOf t (op.Check token) = SaysOperand t (codes "token") token
SaysParts IsPlaceOf t (op.Wait token into) = SaysOperand t (codes "token") token × SaysText t (codes "into") (variable_text into)
SaysParts IsPlaceOf t (op.Alloc size into) = SaysOperand t (codes "size") size × SaysText t (codes "into") (variable_text into)
SaysParts IsPlaceOf t (op.Free place) = SaysOperand t (codes "place") place
SaysParts IsPlaceOf t (op.Register handler kind into) =
    SaysHandler IsPlaceOf t (codes "handler") handler × SaysKind t (codes "type") kind × SaysText t (codes "into") (variable_text into)
SaysParts IsPlaceOf t (op.Unregister handle) = SaysOperand t (codes "handle") handle
SaysParts IsPlaceOf t (op.Manage kind) = SaysKind t (codes "type") kind

-- the names of the parts of an operation with this word
abbrev pub part_names : OperationWord → List (List ℕ)
part_names word.Set = codes "into" ∷ codes "value" ∷ []
part_names word.Read = codes "cpu" ∷ codes "reg" ∷ codes "width" ∷ codes "into" ∷ []
part_names word.Write = codes "cpu" ∷ codes "reg" ∷ codes "width" ∷ codes "value" ∷ []
part_names word.Start = codes "cpu" ∷ codes "procedure" ∷ codes "arg" ∷ codes "into" ∷ []
part_names word.Launch = codes "cpu" ∷ codes "procedure" ∷ codes "arg" ∷ codes "into" ∷ []
part_names word.Check = codes "token" ∷ []
part_names word.Wait = codes "token" ∷ codes "into" ∷ []
part_names word.Alloc = codes "size" ∷ codes "into" ∷ []
part_names word.Free = codes "place" ∷ []
part_names word.Register = codes "handler" ∷ codes "type" ∷ codes "into" ∷ []
part_names word.Unregister = codes "handle" ∷ []
part_names word.Manage = codes "type" ∷ []

-- the names of an operation's parts
abbrev pub parts_of : OpDef → List (List ℕ)
parts_of operation = part_names (word_of operation)

-- an operation of a handler
pub record SaysOperation (IsPlaceOf : List ℕ → ℕ → Type 0) (t : Members) (operation : OpDef) : Type 0 where
  pub word : SaysText t (codes "op") (operation_text operation)
  pub parts : SaysParts IsPlaceOf t operation
  pub only : HasOnly (codes "op" ∷ parts_of operation) t

-- a handler with its operations
pub record SaysHandlerDef (IsPlaceOf : List ℕ → ℕ → Type 0) (t : Members) (handler : HandlerDef) : Type 0 where
  pub name_is : SaysText t (codes "name") handler.name
  pub type_is : SaysStartList t (codes "type") handler.kind
  pub answer_is : SaysText t (codes "answer") (status_text handler.answer)
  pub ops_are : SaysList (λ v operation. IsTableOf (λ entry. SaysOperation IsPlaceOf entry operation) v) t (codes "ops") handler.ops
  pub only : HasOnly (codes "name" ∷ codes "type" ∷ codes "answer" ∷ codes "ops" ∷ []) t

-- a procedure for other processors
pub record SaysProcedure (t : Members) (procedure : ProcedureDef) : Type 0 where
  pub name_is : SaysText t (codes "name") procedure.name
  pub act_is : SaysText t (codes "act") (act_text procedure.act)
  pub reg_is : SaysRegister t (codes "reg") procedure.reg
  pub only : HasOnly (codes "name" ∷ codes "act" ∷ codes "reg" ∷ []) t

-- the I/O instruction of a cause
pub record SaysIo (t : Members) (io : IoCause) : Type 0 where
  pub port_is : SaysNumber t (codes "port") io.port
  pub length_is : SaysNumber t (codes "length") io.length
  pub type_is : SaysNumber t (codes "type") io.kind
  pub only : HasOnly (codes "port" ∷ codes "length" ∷ codes "type" ∷ []) t

-- a table that says the value, where there is one
abbrev pub SaysOption : {A : Type 0} → (Members → A → Type 0) → Option A → Data → Type 0
SaysOption Says None v = ⊥
SaysOption Says (Some x) v = IsTableOf (λ t. Says t x) v

-- the cause of an interrupt at a processor's visit
pub record SaysCause (t : Members) (cause : CauseAt) : Type 0 where
  pub cpu_is : SaysNumber t (codes "cpu") cause.cpu
  pub visit_is : SaysNumber t (codes "visit") cause.visit
  pub halt_is : SaysOr (cause.cause.halt ≡ false) (λ v. v ≡ boolean cause.cause.halt) t (codes "halt")
  pub io_is : SaysOr (cause.cause.io ≡ None) (SaysOption SaysIo cause.cause.io) t (codes "io")
  pub only : HasOnly (codes "cpu" ∷ codes "visit" ∷ codes "halt" ∷ codes "io" ∷ []) t

-- the boot processor of a fixed policy has a name of its own
abbrev pub SaysFixed : Members → Policy → Type 0
SaysFixed t Elected = Unit {0}
SaysFixed t (Fixed b) = SaysNumber t (codes "fixed") b

abbrev pub names_by : Policy → List (List ℕ)
names_by Elected = []
names_by (Fixed b) = codes "fixed" ∷ []

abbrev pub top_names : List (List ℕ)
top_names =
    codes "version" ∷ codes "processors" ∷ codes "map" ∷ codes "policy" ∷ codes "mode" ∷ codes "polls" ∷ codes "visits" ∷ codes "ops" ∷ codes "ids"
    ∷ codes "smram" ∷ codes "wave" ∷ codes "handler" ∷ codes "procedure" ∷ codes "cause" ∷ []

-- a name of the file stands for the place of the handler that has it
abbrev pub IsNameAt : List HandlerDef → List ℕ → ℕ → Type 0
IsNameAt handlers name at = slice_get (map (λ handler. handler.name) handlers) at ≡ Some name

-- the document says this setup
pub record Says (t : Members) (d : SetupData) : Type 0 where
  pub version_is : SaysNumber t (codes "version") 1
  pub processors_is : SaysNumber t (codes "processors") d.processors
  pub map_is : SaysText t (codes "map") (map_text d.kind)
  pub policy_is : SaysText t (codes "policy") (policy_text d.policy)
  pub fixed_is : SaysFixed t d.policy
  pub mode_is : SaysText t (codes "mode") (mode_text d.mode)
  pub polls_are : SaysList (λ v looks. v ≡ integer (pos looks)) t (codes "polls") (d.t1 ∷ d.t2 ∷ [])
  pub visits_is : SaysNumber t (codes "visits") d.visits
  pub ops_is : SaysNumber t (codes "ops") d.ops
  pub ids_are : SaysOr (d.ids ≡ range_with_len 0 d.processors) (IsListOf (λ v id. v ≡ integer (pos id)) d.ids) t (codes "ids")
  pub smram_is : SaysOr (d.smram ≡ None) (SaysOption SaysArea d.smram) t (codes "smram")
  pub waves_are : SaysList (λ v wave. IsTableOf (λ entry. SaysWave entry wave) v) t (codes "wave") d.waves
  pub handlers_are : SaysTables (SaysHandlerDef (IsNameAt d.handlers)) t (codes "handler") d.handlers
  pub procedures_are : SaysTables SaysProcedure t (codes "procedure") d.procedures
  pub causes_are : SaysTables SaysCause t (codes "cause") d.causes
  pub only : HasOnly (names_by d.policy ++ top_names) t
