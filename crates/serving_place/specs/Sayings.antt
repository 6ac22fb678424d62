-- What is said after a need, and what it wants of the operation that is due.
use Rattle.std.specs.Prelude.{◌≡◌, ◌<◌, ℕ, ◌+◌, Bool, false, Option, Some, None}
use Rattle.smm_base.specs.declared.status.Status.{Status}
use Rattle.smm_base.specs.declared.status.Status.TheVariants.{Success}
use Rattle.cpu_table.specs.declared.handlers.OpDef.{OpDef}
use Rattle.cpu_table.specs.declared.handlers.OpDef.TheVariants as op
use Rattle.handler_registry.specs.Registrations.{is_full}
use Rattle.smram_pool.specs.State.{PoolState, allocated, freed}
use Rattle.sync_words.specs.declared.label.Label.{Label}
use Rattle.sync_words.specs.declared.label.Label.TheVariants as say
pub use Rattle.serving_place.specs.declared.saying.Saying.{Saying}
pub use Rattle.serving_place.specs.declared.saying.Saying.TheVariants.{Known, Allocation, Release}
pub use Rattle.serving_place.specs.declared.saying.Request.{Request}
use Rattle.serving_place.specs.declared.saying.Request.TheVariants as request
use Rattle.serving_place.specs.Serving.{Serving, tokens_out}
use Rattle.serving_place.specs.Operations.{free_status, alloc_label}
use Rattle.serving_place.specs.Due.{Due, Doing}

-- the label; that of a call of the pool is what the pool answers
abbrev pub label_in : PoolState → Saying → Label
label_in pool (Known l) = l
label_in pool (Allocation size) = alloc_label size (allocated size pool).0
label_in pool (Release place) = say.Free place (free_status (freed place pool).0)

-- what is said by a label that is known before, or by what the pool answers
abbrev pub said_as : Request → Label → Saying
said_as request.Nothing l = Known l
said_as (request.Allocation size) l = Allocation size
said_as (request.Release place) l = Release place

-- what is asked of the pool
abbrev pub request_in : Saying → Request
request_in (Known l) = request.Nothing
request_in (Allocation size) = request.Allocation size
request_in (Release place) = request.Release place

-- the operation that is due
abbrev pub operation_due : Due → Option OpDef
operation_due (Doing n o) = Some o
operation_due _ = None

abbrev pub IsAlloc : OpDef → Type 0
IsAlloc (op.Alloc size into) = Unit {0}
IsAlloc _ = ⊥

abbrev pub IsFreeing : OpDef → Type 0
IsFreeing (op.Free place) = Unit {0}
IsFreeing _ = ⊥

-- a launch gives one more token
abbrev pub HasRoom : OpDef → ℕ → Type 0
HasRoom (op.Launch cpu name arg into) tokens = tokens < 64
HasRoom _ tokens = Unit {0}

abbrev pub RegisterFits : Status → Bool → Type 0
RegisterFits Success full = full ≡ false
RegisterFits _ full = Unit {0}

-- A job's number is the next, and a token or a registration has room.
abbrev pub LabelFits : Label → OpDef → ℕ → ℕ → Bool → Type 0
LabelFits (say.Start c j p a) o given tokens full = (j ≡ given + 1) × HasRoom o tokens
LabelFits (say.Register h n S) o given tokens full = RegisterFits S full
LabelFits (say.Alloc n x S) o given tokens full = ⊥
LabelFits (say.Free n S) o given tokens full = ⊥
LabelFits _ o given tokens full = Unit {0}

-- the same of what is said, by how many jobs were given, how many tokens are out, and whether the registry is full
abbrev pub SayingFits : Saying → Option OpDef → ℕ → ℕ → Bool → Type 0
SayingFits (Known l) None given tokens full = Unit {0}
SayingFits (Known l) (Some o) given tokens full = LabelFits l o given tokens full
SayingFits (Allocation n) None given tokens full = ⊥
SayingFits (Allocation n) (Some o) given tokens full = IsAlloc o
SayingFits (Release n) None given tokens full = ⊥
SayingFits (Release n) (Some o) given tokens full = IsFreeing o

abbrev pub Fits : Saying → Option OpDef → Serving → Type 0
Fits y o s = SayingFits y o s.given (tokens_out s) (is_full s.registrations)

-- the label where no call of the pool is said
abbrev pub known_label : Saying → Label
known_label (Known l) = l
known_label _ = say.Silent
