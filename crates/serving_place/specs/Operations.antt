-- The own label of each operation: which one fits, what it changes, and whose job may be collected before it.
use Rattle.std.specs.Prelude.{◌≡◌, ◌<◌, ℕ, ◌+◌, Bool, true, false, List, length, Option, Some, position, unwrap_or, Result, Ok, Err}
use Rattle.smm_base.specs.declared.status.Status.{Status}
use Rattle.smm_base.specs.declared.status.Status.TheVariants.{Success, InvalidParameter, NotReady, NotFound, OutOfResources}
use Rattle.smm_base.specs.declared.kinds.HandlerType.{HandlerType}
use Rattle.smm_base.specs.declared.registers.Register.{Register}
use Rattle.smm_base.specs.declared.registers.Register.TheVariants.{Rax}
use Rattle.smm_base.specs.Register.{register_numbered}
use Rattle.cpu_table.specs.declared.handlers.OpDef.{OpDef}
use Rattle.cpu_table.specs.declared.handlers.OpDef.TheVariants as op
use Rattle.cpu_table.specs.declared.handlers.ProcedureDef.{ProcedureDef}
use Rattle.cpu_table.specs.Ranges.{same_text}
use Rattle.sync_words.specs.declared.label.Label.{Label}
use Rattle.sync_words.specs.declared.label.Label.TheVariants as say
use Rattle.handler_registry.specs.Registrations.{is_live, is_full, registered, unregistered}
use Rattle.smram_pool.specs.declared.error.PoolError.{PoolError}
use Rattle.smram_pool.specs.declared.error.PoolError.TheVariants as pool
use Rattle.smram_pool.specs.State.{allocated, freed}
use Rattle.serving_place.specs.Serving.{Serving, Seat, Free, Open, Done, TokenState, NotOut, Uncollected, Collected, number, put, put_on, seat, given_to, token_of, dropped, IsFree, IsDone, IsOutOn}

-- the register with this number; a platform names no number that is no register's, so that RAX never stands for none
abbrev pub register_of : ℕ → Register
register_of reg = unwrap_or (register_numbered reg) Rax

-- What a read shows of a processor: one whose job is still to be run isn't ready, and a job that was run is collected
-- first. What else it shows is the answer of the save-state service.
abbrev pub ReadShows : Seat → ℕ → Status → Type 0
ReadShows Free x S = Unit {0}
ReadShows (Open j t) x S = (x ≡ 0) × (S ≡ NotReady)
ReadShows (Done j t y T) x S = ⊥

abbrev pub WriteShows : Seat → Status → Type 0
WriteShows Free S = Unit {0}
WriteShows (Open j t) S = S ≡ NotReady
WriteShows (Done j t y T) S = ⊥

-- A check of a token whose job isn't collected wants a collect first where the job was run.
abbrev pub CheckShows : Serving → TokenState → Status → Type 0
CheckShows s NotOut S = S ≡ InvalidParameter
CheckShows s (Uncollected c) S = (IsDone (seat s c) → ⊥) × (S ≡ NotReady)
CheckShows s (Collected t) S = S ≡ Success

-- A wait shows the result and the status of the token's job, which was collected.
abbrev pub WaitShows : TokenState → ℕ → Status → Type 0
WaitShows NotOut x S = (x ≡ 0) × (S ≡ InvalidParameter)
WaitShows (Uncollected c) x S = ⊥
WaitShows (Collected t) x S = (x ≡ t.result) × (S ≡ t.status)

-- why the pool refuses
abbrev pub pool_status : PoolError → Status
pool_status pool.Zero = InvalidParameter
pool_status pool.OutOfResources = OutOfResources
pool_status (pool.NotABlock place) = InvalidParameter

-- the place that a request gets, or 0 with the cause of the refusal
abbrev pub AllocShows : Result ℕ PoolError → ℕ → Status → Type 0
AllocShows (Ok place) x S = (x ≡ place) × (S ≡ Success)
AllocShows (Err e) x S = (x ≡ 0) × (S ≡ pool_status e)

abbrev pub alloc_label : ℕ → Result ℕ PoolError → Label
alloc_label size (Ok place) = say.Alloc size place Success
alloc_label size (Err e) = say.Alloc size 0 (pool_status e)

abbrev pub free_status : Result (Unit {0}) PoolError → Status
free_status (Ok u) = Success
free_status (Err e) = pool_status e

abbrev pub RegisterShows : Bool → Serving → ℕ → Status → Type 0
RegisterShows true s n S = (n ≡ 0) × (S ≡ OutOfResources)
RegisterShows false s n S = (n ≡ s.registrations.last + 1) × (S ≡ Success)

abbrev pub unregister_status : Bool → Status
unregister_status true = Success
unregister_status false = NotFound

-- the place of the procedure with this name
abbrev pub procedure_place : List ProcedureDef → List ℕ → Option ℕ
procedure_place procedures name = position (λ p. same_text p.name name) procedures

-- A start label: the processor is the platform's and has no job, the job's number is the next, and the procedure is one
-- of the file.
pub record Starts (procedures : List ProcedureDef) (s : Serving) (cpu : ℕ) (name : List ℕ) (arg c j p a : ℕ) : Type 0 where
  pub processor : c ≡ cpu
  pub there : cpu < length s.seats
  pub free : IsFree (seat s cpu)
  pub job : j ≡ s.given + 1
  pub procedure : procedure_place procedures name ≡ Some p
  pub argument : a ≡ arg

-- The own label of the operation.
abbrev pub Fits : List ProcedureDef → OpDef → Serving → Label → Type 0
Fits ps (op.Set into value) s (say.Set v x) = (v ≡ into) × (x ≡ number s value)
Fits ps (op.Read cpu reg width into) s (say.Read c r w x S) = (c ≡ cpu) × (r ≡ register_of reg) × (w ≡ width) × ReadShows (seat s cpu) x S
Fits ps (op.Write cpu reg width value) s (say.Write c r w x S) = (c ≡ cpu) × (r ≡ register_of reg) × (w ≡ width) × (x ≡ number s value) × WriteShows (seat s cpu) S
Fits ps (op.Start cpu name arg into) s (say.Refuse c cause) = c ≡ cpu
Fits ps (op.Start cpu name arg into) s (say.Start c j p a) = Starts ps s cpu name (number s arg) c j p a
Fits ps (op.Launch cpu name arg into) s (say.Refuse c cause) = c ≡ cpu
Fits ps (op.Launch cpu name arg into) s (say.Start c j p a) = Starts ps s cpu name (number s arg) c j p a
Fits ps (op.Check token) s (say.Check j S) = (j ≡ number s token) × CheckShows s (token_of s (number s token)) S
Fits ps (op.Wait token into) s (say.Wait j x S) = (j ≡ number s token) × WaitShows (token_of s (number s token)) x S
Fits ps (op.Alloc size into) s (say.Alloc n x S) = (n ≡ number s size) × AllocShows (allocated (number s size) s.pool).0 x S
Fits ps (op.Free place) s (say.Free n S) = (n ≡ number s place) × (S ≡ free_status (freed (number s place) s.pool).0)
Fits ps (op.Register handler kind into) s (say.Register h n S) = (h ≡ handler) × RegisterShows (is_full s.registrations) s n S
Fits ps (op.Unregister handle) s (say.Unregister n S) = (n ≡ number s handle) × (S ≡ unregister_status (is_live (number s handle) s.registrations))
Fits ps _ s _ = ⊥

abbrev pub register_on : Status → HandlerType → ℕ → Serving → Serving
register_on Success kind h s = record s { registrations = registered kind h s.registrations }
register_on _ kind h s = s

abbrev pub drop_on : Status → ℕ → Serving → Serving
drop_on Success n s = dropped n s
drop_on _ n s = s

-- What the operation's own label changes.
abbrev pub after : OpDef → Serving → Label → Serving
after (op.Set into value) s (say.Set v x) = put into x s
after (op.Read cpu reg width into) s (say.Read c r w x S) = put_on S into x s
after (op.Start cpu name arg into) s (say.Start c j p a) = given_to cpu j false s
after (op.Launch cpu name arg into) s (say.Start c j p a) = put into j (given_to cpu j true s)
after (op.Check token) s (say.Check j S) = drop_on S j s
after (op.Wait token into) s (say.Wait j x S) = put_on S into x (dropped j s)
after (op.Alloc size into) s (say.Alloc n x S) = put_on S into x (record s { pool = (allocated n s.pool).1 })
after (op.Free place) s (say.Free n S) = record s { pool = (freed n s.pool).1 }
after (op.Register handler kind into) s (say.Register h n S) = put_on S into n (register_on S kind handler s)
after (op.Unregister handle) s (say.Unregister n S) = record s { registrations = unregistered n s.registrations }
after _ s _ = s

-- Before its own label the operation may collect the job of this processor.
abbrev pub Collects : OpDef → Serving → ℕ → Type 0
Collects (op.Read cpu reg width into) s c = (c ≡ cpu) × IsDone (seat s cpu)
Collects (op.Write cpu reg width value) s c = (c ≡ cpu) × IsDone (seat s cpu)
Collects (op.Start cpu name arg into) s c = (c ≡ cpu) × IsDone (seat s cpu)
Collects (op.Launch cpu name arg into) s c = (c ≡ cpu) × IsDone (seat s cpu)
Collects (op.Check token) s c = IsOutOn (token_of s (number s token)) c × IsDone (seat s c)
Collects (op.Wait token into) s c = IsOutOn (token_of s (number s token)) c × IsDone (seat s c)
Collects _ s c = ⊥
