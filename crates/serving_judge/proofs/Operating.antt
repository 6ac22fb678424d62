-- Each test of an operation's label tells that the label fits.
use Rattle.std.proofs.Common.{◌≡◌, ◌≢◌, ◌<◌, ℕ, zero, suc, ◌+◌, Bool, true, false, List, length, Option, Some, None, Result, Ok, Err, refl, ap}
use Rattle.std.specs.Prelude.{◌==◌, nat_lt, ◌&&◌, not}
use Rattle.smm_base.specs.declared.kinds.HandlerType.{HandlerType}
use Rattle.smm_base.specs.declared.status.Status.{Status}
use Rattle.smm_base.specs.declared.status.Status.TheVariants.{Success, InvalidParameter, NotReady, OutOfResources}
use Rattle.cpu_table.specs.declared.handlers.Operand.{Operand}
use Rattle.cpu_table.specs.declared.handlers.Operand.TheVariants.{Number, Variable}
use Rattle.cpu_table.specs.declared.handlers.OpDef.{OpDef}
use Rattle.cpu_table.specs.declared.handlers.OpDef.TheVariants as op
use Rattle.cpu_table.specs.declared.handlers.ProcedureDef.{ProcedureDef}
use Rattle.sync_words.specs.declared.label.Label.{Label}
use Rattle.sync_words.specs.declared.label.Label.TheVariants as say
use Rattle.handler_registry.specs.Registrations.{is_live, is_full}
use Rattle.smram_pool.specs.declared.error.PoolError.{PoolError}
use Rattle.smram_pool.specs.State.{allocated, freed}
use Rattle.serving_place.specs.Serving.{Serving, number, seat, token_of, HasOpen, IsFree, IsDone, HasEnded, IsOutOn}
use Rattle.serving_place.specs.declared.seat.Seat.{Seat}
use Rattle.serving_place.specs.declared.seat.Seat.TheVariants.{Free, Open, Done}
use Rattle.serving_place.specs.declared.token.TokenState.{TokenState}
use Rattle.serving_place.specs.declared.token.TokenState.TheVariants.{NotOut, Uncollected, Collected}
use Rattle.serving_place.specs.Operations.{register_of, pool_status, free_status, unregister_status, procedure_place, ReadShows, WriteShows, CheckShows, WaitShows, AllocShows, RegisterShows, Starts, Fits, Collects}
use Rattle.serving_place.specs.Places.{MayOpen, MayOperate, MayDo}
use Rattle.serving_judge.specs.Words.{is_status, is_register}
use Rattle.serving_judge.specs.Tests.{is_free, is_done, has_ended, has_open, is_out_on, read_shows, write_shows, check_shows, wait_shows, alloc_shows, register_shows, is_place, starts, fits_write, fits_start, fits_check, fits_wait, fits_alloc, fits_free, fits_unregister, fits, collects, opens, operates, does}
use Rattle.serving_judge.proofs.Telling.{Tells, never, nothing, always, both, four, five, isnt, along, number_tells, below_tells}
use Rattle.serving_judge.proofs.Labels.{status_tells, register_tells, deep_tells, manage_tells}

-- SEATS AND TOKENS

pub free_tells : (q : Seat) → Tells (is_free q) (IsFree q)
free_tells Free = always
free_tells (Open j t) = nothing
free_tells (Done j t x S) = nothing

pub done_tells : (q : Seat) → Tells (is_done q) (IsDone q)
done_tells Free = nothing
done_tells (Open j t) = nothing
done_tells (Done j t x S) = always

pub ended_tells : (q : Seat) → Tells (has_ended q) (HasEnded q)
ended_tells Free = always
ended_tells (Open j t) = nothing
ended_tells (Done j t x S) = always

pub open_tells : (q : Seat) (n : ℕ) → Tells (has_open q n) (HasOpen q n)
open_tells Free n = nothing
open_tells (Open j t) n = number_tells j n
open_tells (Done j t x S) n = nothing

pub out_tells : (q : TokenState) (c : ℕ) → Tells (is_out_on q c) (IsOutOn q c)
out_tells NotOut c = nothing
out_tells (Uncollected who) c = number_tells who c
out_tells (Collected t) c = number_tells t.cpu c

-- WHAT A LABEL SHOWS

read_tells : (q : Seat) (x : ℕ) (S : Status) → Tells (read_shows q x S) (ReadShows q x S)
read_tells Free x S = always
read_tells (Open j t) x S = both (x == 0) (is_status NotReady S) (number_tells x 0) (status_tells NotReady S)
read_tells (Done j t y T) x S = nothing

write_tells : (q : Seat) (S : Status) → Tells (write_shows q S) (WriteShows q S)
write_tells Free S = always
write_tells (Open j t) S = status_tells NotReady S
write_tells (Done j t y T) S = nothing

check_tells : (s : Serving) (q : TokenState) (S : Status) → Tells (check_shows s.seats q S) (CheckShows s q S)
check_tells s NotOut S = status_tells InvalidParameter S
check_tells s (Uncollected c) S =
    both (not (is_done (seat s c))) (is_status NotReady S) (isnt (is_done (seat s c)) (done_tells (seat s c))) (status_tells NotReady S)
check_tells s (Collected t) S = status_tells Success S

wait_tells : (q : TokenState) (x : ℕ) (S : Status) → Tells (wait_shows q x S) (WaitShows q x S)
wait_tells NotOut x S = both (x == 0) (is_status InvalidParameter S) (number_tells x 0) (status_tells InvalidParameter S)
wait_tells (Uncollected c) x S = nothing
wait_tells (Collected t) x S = both (x == t.result) (is_status t.status S) (number_tells x t.result) (status_tells t.status S)

pub alloc_tells : (r : Result ℕ PoolError) (x : ℕ) (S : Status) → Tells (alloc_shows r x S) (AllocShows r x S)
alloc_tells (Ok place) x S = both (x == place) (is_status Success S) (number_tells x place) (status_tells Success S)
alloc_tells (Err e) x S = both (x == 0) (is_status (pool_status e) S) (number_tells x 0) (status_tells (pool_status e) S)

pub register_shown : (b : Bool) (s : Serving) (n : ℕ) (S : Status) → Tells (register_shows b s.registrations.last n S) (RegisterShows b s n S)
register_shown true s n S = both (n == 0) (is_status OutOfResources S) (number_tells n 0) (status_tells OutOfResources S)
register_shown false s n S = both (n == s.registrations.last + 1) (is_status Success S) (number_tells n (s.registrations.last + 1)) (status_tells Success S)

place_tells : (o : Option ℕ) (p : ℕ) → Tells (is_place o p) (o ≡ Some p)
place_tells None p = never (λ e. cc)
place_tells (Some q) p = along (λ (e : q ≡ p). ap Some e) (λ e. cc) (number_tells q p)

pub starts_tell : (ps : List ProcedureDef) (s : Serving) (cpu : ℕ) (name : List ℕ) (arg c j p a : ℕ)
    → Tells (starts s cpu (procedure_place ps name) arg c j p a) (Starts ps s cpu name arg c j p a)
starts_tell ps s cpu name arg c j p a =
    along
    (λ (x : (c ≡ cpu) × ((cpu < length s.seats) × (IsFree (seat s cpu) × ((j ≡ s.given + 1) × ((procedure_place ps name ≡ Some p) × (a ≡ arg)))))).
    record { processor = x.0; there = x.1.0; free = x.1.1.0; job = x.1.1.1.0; procedure = x.1.1.1.1.0; argument = x.1.1.1.1.1 })
    (λ (r : Starts ps s cpu name arg c j p a). (r.processor, (r.there, (r.free, (r.job, (r.procedure, r.argument))))))
    (both (c == cpu) _ (number_tells c cpu)
    (both (nat_lt cpu (length s.seats)) _ (below_tells cpu (length s.seats))
    (both (is_free (seat s cpu)) _ (free_tells (seat s cpu))
    (both (j == s.given + 1) _ (number_tells j (s.given + 1))
    (both (is_place (procedure_place ps name) p) (a == arg) (place_tells (procedure_place ps name) p) (number_tells a arg))))))

-- OPERATIONS

pub fits_tells : (ps : List ProcedureDef) (o : OpDef) (s : Serving) (l : Label) → Tells (fits ps o s l) (Fits ps o s l)
fits_tells ps (op.Set into value) s (say.Set v x) =
    both (v == into) (x == number s value) (number_tells v into) (number_tells x (number s value))
fits_tells ps (op.Set into value) s _ = nothing
fits_tells ps (op.Read cpu reg width into) s (say.Read c r w x S) =
    four (both (c == cpu) _ (number_tells c cpu)
    (both (is_register (register_of reg) r) _ (register_tells (register_of reg) r)
    (both (w == width) (read_shows (seat s cpu) x S) (number_tells w width) (read_tells (seat s cpu) x S))))
fits_tells ps (op.Read cpu reg width into) s _ = nothing
fits_tells ps (op.Write cpu reg width value) s (say.Write c r w x S) =
    five (both (c == cpu) _ (number_tells c cpu)
    (both (is_register (register_of reg) r) _ (register_tells (register_of reg) r)
    (both (w == width) _ (number_tells w width)
    (both (x == number s value) (write_shows (seat s cpu) S) (number_tells x (number s value)) (write_tells (seat s cpu) S)))))
fits_tells ps (op.Write cpu reg width value) s _ = nothing
fits_tells ps (op.Start cpu name arg into) s (say.Refuse c cause) = number_tells c cpu
fits_tells ps (op.Start cpu name arg into) s (say.Start c j p a) = starts_tell ps s cpu name (number s arg) c j p a
fits_tells ps (op.Start cpu name arg into) s _ = nothing
fits_tells ps (op.Launch cpu name arg into) s (say.Refuse c cause) = number_tells c cpu
fits_tells ps (op.Launch cpu name arg into) s (say.Start c j p a) = starts_tell ps s cpu name (number s arg) c j p a
fits_tells ps (op.Launch cpu name arg into) s _ = nothing
fits_tells ps (op.Check token) s (say.Check j S) =
    both (j == number s token) (check_shows s.seats (token_of s (number s token)) S) (number_tells j (number s token)) (check_tells s (token_of s (number s token)) S)
fits_tells ps (op.Check token) s _ = nothing
fits_tells ps (op.Wait token into) s (say.Wait j x S) =
    both (j == number s token) (wait_shows (token_of s (number s token)) x S) (number_tells j (number s token)) (wait_tells (token_of s (number s token)) x S)
fits_tells ps (op.Wait token into) s _ = nothing
fits_tells ps (op.Alloc size into) s (say.Alloc n x S) =
    both (n == number s size) (alloc_shows (allocated (number s size) s.pool).0 x S) (number_tells n (number s size)) (alloc_tells (allocated (number s size) s.pool).0 x S)
fits_tells ps (op.Alloc size into) s _ = nothing
fits_tells ps (op.Free place) s (say.Free n S) =
    both (n == number s place) (is_status (free_status (freed (number s place) s.pool).0) S) (number_tells n (number s place)) (status_tells (free_status (freed (number s place) s.pool).0) S)
fits_tells ps (op.Free place) s _ = nothing
fits_tells ps (op.Register handler kind into) s (say.Register h n S) =
    both (h == handler) (register_shows (is_full s.registrations) s.registrations.last n S) (number_tells h handler) (register_shown (is_full s.registrations) s n S)
fits_tells ps (op.Register handler kind into) s _ = nothing
fits_tells ps (op.Unregister handle) s (say.Unregister n S) =
    both (n == number s handle) (is_status (unregister_status (is_live (number s handle) s.registrations)) S) (number_tells n (number s handle))
    (status_tells (unregister_status (is_live (number s handle) s.registrations)) S)
fits_tells ps (op.Unregister handle) s _ = nothing
fits_tells ps (op.Manage kind) s l = nothing

collects_tells : (o : OpDef) (s : Serving) (c : ℕ) → Tells (collects o s c) (Collects o s c)
collects_tells (op.Read cpu reg width into) s c = both (c == cpu) (is_done (seat s cpu)) (number_tells c cpu) (done_tells (seat s cpu))
collects_tells (op.Write cpu reg width value) s c = both (c == cpu) (is_done (seat s cpu)) (number_tells c cpu) (done_tells (seat s cpu))
collects_tells (op.Start cpu name arg into) s c = both (c == cpu) (is_done (seat s cpu)) (number_tells c cpu) (done_tells (seat s cpu))
collects_tells (op.Launch cpu name arg into) s c = both (c == cpu) (is_done (seat s cpu)) (number_tells c cpu) (done_tells (seat s cpu))
collects_tells (op.Check token) s c =
    both (is_out_on (token_of s (number s token)) c) (is_done (seat s c)) (out_tells (token_of s (number s token)) c) (done_tells (seat s c))
collects_tells (op.Wait token into) s c =
    both (is_out_on (token_of s (number s token)) c) (is_done (seat s c)) (out_tells (token_of s (number s token)) c) (done_tells (seat s c))
collects_tells _ s c = nothing

opens_tells : (n : ℕ) (kind : HandlerType) (l : Label) → Tells (opens n kind l) (MayOpen n kind l)
opens_tells zero kind l = deep_tells kind l
opens_tells (suc n) kind l = manage_tells kind l

operates_tells : (ps : List ProcedureDef) (o : OpDef) (s : Serving) (l : Label) → Tells (operates ps o s l) (MayOperate ps o s l)
operates_tells ps o s (say.Collect c) = collects_tells o s c
operates_tells ps o s l = fits_tells ps o s l

pub does_tells : (ps : List ProcedureDef) (n : ℕ) (o : OpDef) (s : Serving) (l : Label) → Tells (does ps n o s l) (MayDo ps n o s l)
does_tells ps n (op.Manage kind) s l = opens_tells n kind l
does_tells ps n o s l = operates_tells ps o s l

-- A UNIT LESS

number_less : (s : Serving) (m : ℕ) (v : Operand) → number (record s { left = m }) v ≡ number s v
number_less s m (Number n) = refl
number_less s m (Variable v) = refl

fits_less : (ps : List ProcedureDef) (o : OpDef) (s : Serving) (m : ℕ) (l : Label) → fits ps o (record s { left = m }) l ≡ fits ps o s l
fits_less ps (op.Set into value) s m (say.Set v x) = ap (λ y. (v == into) && (x == y)) (number_less s m value)
fits_less ps (op.Write cpu reg width value) s m (say.Write c r w x S) = ap (λ y. fits_write s cpu reg width y (say.Write c r w x S)) (number_less s m value)
fits_less ps (op.Start cpu name arg into) s m (say.Start c j p a) = ap (λ y. fits_start s cpu (procedure_place ps name) y (say.Start c j p a)) (number_less s m arg)
fits_less ps (op.Launch cpu name arg into) s m (say.Start c j p a) = ap (λ y. fits_start s cpu (procedure_place ps name) y (say.Start c j p a)) (number_less s m arg)
fits_less ps (op.Check token) s m (say.Check j S) = ap (λ y. fits_check s y (say.Check j S)) (number_less s m token)
fits_less ps (op.Wait token into) s m (say.Wait j x S) = ap (λ y. fits_wait s y (say.Wait j x S)) (number_less s m token)
fits_less ps (op.Alloc size into) s m (say.Alloc n x S) = ap (λ y. fits_alloc s y (say.Alloc n x S)) (number_less s m size)
fits_less ps (op.Free place) s m (say.Free n S) = ap (λ y. fits_free s y (say.Free n S)) (number_less s m place)
fits_less ps (op.Unregister handle) s m (say.Unregister n S) = ap (λ y. fits_unregister s y (say.Unregister n S)) (number_less s m handle)
fits_less ps _ s m _ = refl

collects_less : (o : OpDef) (s : Serving) (m c : ℕ) → collects o (record s { left = m }) c ≡ collects o s c
collects_less (op.Check token) s m c = ap (λ y. is_out_on (token_of s y) c && is_done (seat s c)) (number_less s m token)
collects_less (op.Wait token into) s m c = ap (λ y. is_out_on (token_of s y) c && is_done (seat s c)) (number_less s m token)
collects_less _ s m c = refl

operates_less : (ps : List ProcedureDef) (o : OpDef) (s : Serving) (m : ℕ) (l : Label) → operates ps o (record s { left = m }) l ≡ operates ps o s l
operates_less ps o s m (say.Collect c) = collects_less o s m c
operates_less ps o s m l = fits_less ps o s m l

pub does_less : (ps : List ProcedureDef) (n : ℕ) (o : OpDef) (s : Serving) (m : ℕ) (l : Label) → does ps n o (record s { left = m }) l ≡ does ps n o s l
does_less ps n (op.Manage kind) s m l = refl
does_less ps n o s m l = operates_less ps o s m l

-- an operation that is no manage
pub does_other : (ps : List ProcedureDef) (n : ℕ) (o : OpDef) (s : Serving) (l : Label) → ((kind : HandlerType) → o ≢ op.Manage kind) → does ps n o s l ≡ operates ps o s l
does_other ps n (op.Manage kind) s l h = absurd (h kind refl)
does_other ps n _ s l h = refl
