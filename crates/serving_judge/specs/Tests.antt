-- Which event a place takes next, as a test: a function for each operation, and one clause for each thing that may be due.
use Rattle.std.specs.Prelude.{ℕ, zero, suc, ◌+◌, ◌==◌, nat_lt, ◌&&◌, not, Bool, true, false, List, length, slice_index_or, Option, Some, None, Result, Ok, Err}
use Rattle.smm_base.specs.declared.kinds.HandlerType.{HandlerType}
use Rattle.smm_base.specs.declared.status.Status.{Status}
use Rattle.smm_base.specs.declared.status.Status.TheVariants.{Success, InvalidParameter, NotReady, OutOfResources}
use Rattle.cpu_table.specs.declared.handlers.OpDef.{OpDef}
use Rattle.cpu_table.specs.declared.handlers.OpDef.TheVariants as op
use Rattle.cpu_table.specs.declared.handlers.ProcedureDef.{ProcedureDef}
use Rattle.sync_words.specs.declared.label.Label.{Label}
use Rattle.sync_words.specs.declared.label.Label.TheVariants as say
use Rattle.handler_registry.specs.Registrations.{is_live, is_full}
use Rattle.smram_pool.specs.declared.error.PoolError.{PoolError}
use Rattle.smram_pool.specs.State.{allocated, freed}
use Rattle.serving_place.specs.Serving.{Serving, number, seat, token_of}
use Rattle.serving_place.specs.declared.seat.Seat.{Seat}
use Rattle.serving_place.specs.declared.seat.Seat.TheVariants.{Free, Open, Done}
use Rattle.serving_place.specs.declared.token.TokenState.{TokenState}
use Rattle.serving_place.specs.declared.token.TokenState.TheVariants.{NotOut, Uncollected, Collected}
use Rattle.serving_place.specs.Operations.{register_of, pool_status, free_status, unregister_status, procedure_place}
use Rattle.serving_place.specs.Forms.{Program}
use Rattle.serving_place.specs.Places.{Place}
use Rattle.serving_place.specs.Due.{Due, Nothing, Saying, Awaiting, Doing, due}
use Rattle.serving_judge.specs.Words.{is_status, is_register, is_manage, is_deep, is_collect, is_label}

-- SEATS AND TOKENS

abbrev pub is_free : Seat → Bool
is_free Free = true
is_free (Open j t) = false
is_free (Done j t x S) = false

abbrev pub is_done : Seat → Bool
is_done Free = false
is_done (Open j t) = false
is_done (Done j t x S) = true

abbrev pub has_ended : Seat → Bool
has_ended Free = true
has_ended (Open j t) = false
has_ended (Done j t x S) = true

-- the job that is still to be run has this number
abbrev pub has_open : Seat → ℕ → Bool
has_open Free n = false
has_open (Open j t) n = j == n
has_open (Done j t x S) n = false

-- the token is out, and this is its job's processor
abbrev pub is_out_on : TokenState → ℕ → Bool
is_out_on NotOut c = false
is_out_on (Uncollected who) c = who == c
is_out_on (Collected t) c = t.cpu == c

-- WHAT A LABEL SHOWS

abbrev pub read_shows : Seat → ℕ → Status → Bool
read_shows Free x S = true
read_shows (Open j t) x S = x == 0 && is_status NotReady S
read_shows (Done j t y T) x S = false

abbrev pub write_shows : Seat → Status → Bool
write_shows Free S = true
write_shows (Open j t) S = is_status NotReady S
write_shows (Done j t y T) S = false

abbrev pub check_shows : List Seat → TokenState → Status → Bool
check_shows seats NotOut S = is_status InvalidParameter S
check_shows seats (Uncollected c) S = not (is_done (slice_index_or seats c Free)) && is_status NotReady S
check_shows seats (Collected t) S = is_status Success S

abbrev pub wait_shows : TokenState → ℕ → Status → Bool
wait_shows NotOut x S = x == 0 && is_status InvalidParameter S
wait_shows (Uncollected c) x S = false
wait_shows (Collected t) x S = x == t.result && is_status t.status S

abbrev pub alloc_shows : Result ℕ PoolError → ℕ → Status → Bool
alloc_shows (Ok place) x S = x == place && is_status Success S
alloc_shows (Err e) x S = x == 0 && is_status (pool_status e) S

abbrev pub register_shows : Bool → ℕ → ℕ → Status → Bool
register_shows true last n S = n == 0 && is_status OutOfResources S
register_shows false last n S = n == last + 1 && is_status Success S

-- the procedure is the one at this place of the file
abbrev pub is_place : Option ℕ → ℕ → Bool
is_place None p = false
is_place (Some q) p = q == p

-- OPERATIONS

abbrev pub fits_set : ℕ → ℕ → Label → Bool
fits_set into value (say.Set v x) = v == into && x == value
fits_set into value _ = false

abbrev pub fits_read : Serving → ℕ → ℕ → ℕ → Label → Bool
fits_read s cpu reg width (say.Read c r w x S) = c == cpu && (is_register (register_of reg) r && (w == width && read_shows (seat s cpu) x S))
fits_read s cpu reg width _ = false

abbrev pub fits_write : Serving → ℕ → ℕ → ℕ → ℕ → Label → Bool
fits_write s cpu reg width value (say.Write c r w x S) =
    c == cpu && (is_register (register_of reg) r && (w == width && (x == value && write_shows (seat s cpu) S)))
fits_write s cpu reg width value _ = false

-- a job for this processor: the processor is the platform's and has none, and the job's number is the next
abbrev pub starts : Serving → ℕ → Option ℕ → ℕ → ℕ → ℕ → ℕ → ℕ → Bool
starts s cpu place arg c j p a =
    c == cpu && (nat_lt cpu (length s.seats) && (is_free (seat s cpu) && (j == s.given + 1 && (is_place place p && a == arg))))

abbrev pub fits_start : Serving → ℕ → Option ℕ → ℕ → Label → Bool
fits_start s cpu place arg (say.Refuse c cause) = c == cpu
fits_start s cpu place arg (say.Start c j p a) = starts s cpu place arg c j p a
fits_start s cpu place arg _ = false

abbrev pub fits_check : Serving → ℕ → Label → Bool
fits_check s token (say.Check j S) = j == token && check_shows s.seats (token_of s token) S
fits_check s token _ = false

abbrev pub fits_wait : Serving → ℕ → Label → Bool
fits_wait s token (say.Wait j x S) = j == token && wait_shows (token_of s token) x S
fits_wait s token _ = false

abbrev pub fits_alloc : Serving → ℕ → Label → Bool
fits_alloc s size (say.Alloc n x S) = n == size && alloc_shows (allocated size s.pool).0 x S
fits_alloc s size _ = false

abbrev pub fits_free : Serving → ℕ → Label → Bool
fits_free s place (say.Free n S) = n == place && is_status (free_status (freed place s.pool).0) S
fits_free s place _ = false

abbrev pub fits_register : Serving → ℕ → Label → Bool
fits_register s handler (say.Register h n S) = h == handler && register_shows (is_full s.registrations) s.registrations.last n S
fits_register s handler _ = false

abbrev pub fits_unregister : Serving → ℕ → Label → Bool
fits_unregister s handle (say.Unregister n S) = n == handle && is_status (unregister_status (is_live handle s.registrations)) S
fits_unregister s handle _ = false

-- the own label of an operation; a manage has none here
abbrev pub fits : List ProcedureDef → OpDef → Serving → Label → Bool
fits ps (op.Set into value) s l = fits_set into (number s value) l
fits ps (op.Read cpu reg width into) s l = fits_read s cpu reg width l
fits ps (op.Write cpu reg width value) s l = fits_write s cpu reg width (number s value) l
fits ps (op.Start cpu name arg into) s l = fits_start s cpu (procedure_place ps name) (number s arg) l
fits ps (op.Launch cpu name arg into) s l = fits_start s cpu (procedure_place ps name) (number s arg) l
fits ps (op.Check token) s l = fits_check s (number s token) l
fits ps (op.Wait token into) s l = fits_wait s (number s token) l
fits ps (op.Alloc size into) s l = fits_alloc s (number s size) l
fits ps (op.Free place) s l = fits_free s (number s place) l
fits ps (op.Register handler kind into) s l = fits_register s handler l
fits ps (op.Unregister handle) s l = fits_unregister s (number s handle) l
fits ps (op.Manage kind) s l = false

-- before its own label the operation may collect the job of this processor
abbrev pub collects : OpDef → Serving → ℕ → Bool
collects (op.Read cpu reg width into) s c = c == cpu && is_done (seat s cpu)
collects (op.Write cpu reg width value) s c = c == cpu && is_done (seat s cpu)
collects (op.Start cpu name arg into) s c = c == cpu && is_done (seat s cpu)
collects (op.Launch cpu name arg into) s c = c == cpu && is_done (seat s cpu)
collects (op.Check token) s c = is_out_on (token_of s (number s token)) c && is_done (seat s c)
collects (op.Wait token into) s c = is_out_on (token_of s (number s token)) c && is_done (seat s c)
collects _ s c = false

abbrev pub opens : ℕ → HandlerType → Label → Bool
opens zero kind l = is_deep kind l
opens (suc n) kind l = is_manage kind l

abbrev pub operates : List ProcedureDef → OpDef → Serving → Label → Bool
operates ps o s (say.Collect c) = collects o s c
operates ps o s l = fits ps o s l

-- an operation whose unit has begun, where so many levels are left
abbrev pub does : List ProcedureDef → ℕ → OpDef → Serving → Label → Bool
does ps n (op.Manage kind) s l = opens n kind l
does ps n o s l = operates ps o s l

-- PLACES

-- the boot processor says this label where this is due
abbrev pub takes : List ProcedureDef → Serving → Label → Due → Bool
takes ps s l Nothing = false
takes ps s l (Saying m) = is_label m l
takes ps s l (Awaiting c) = is_collect c l && has_ended (seat s c)
takes ps s l (Doing n o) = does ps n o s l

abbrev pub accepts_own : Program → Place → Label → Bool
accepts_own program p l = takes program.procedures p.state l (due program p)

-- nothing is left to say
abbrev pub is_nothing : Due → Bool
is_nothing Nothing = true
is_nothing _ = false

-- another processor ran its job, which has this number
abbrev pub accepts_run : Program → Place → ℕ → ℕ → Bool
accepts_run program p c j = not (is_nothing (due program p)) && has_open (seat p.state c) j
