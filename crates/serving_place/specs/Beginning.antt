-- How the serving of a session begins, and what is registered and free before the first.
use Rattle.std.specs.Prelude.{ℕ, zero, suc, ◌+◌, List, [], ◌∷◌, length, Option, Some, None, slice_get, replicate}
use Rattle.smm_base.specs.declared.kinds.HandlerType.{HandlerType}
use Rattle.cpu_table.specs.declared.handlers.HandlerDef.{HandlerDef}
use Rattle.cpu_table.specs.declared.waves.Wave.{Wave}
use Rattle.cpu_table.specs.Data.{SetupData}
use Rattle.handler_registry.specs.Registrations.{Registrations, no_registrations}
use Rattle.handler_registry.specs.Changes.{Register, changed}
use Rattle.smbase_reloc.specs.declared.pool.PoolRange.{PoolRange}
use Rattle.smbase_reloc.specs.Pools.{pool_of}
use Rattle.smram_pool.specs.State.{PoolState, fresh}
use Rattle.serving_place.specs.Serving.{Serving, Free}
use Rattle.serving_place.specs.Forms.{Program}

abbrev pub manage_in : Option Wave → List HandlerType
manage_in None = []
manage_in (Some wave) = wave.manage

-- the walks of a wave; none where there is no such wave, and 0 is none
abbrev pub walks_of : List Wave → ℕ → List HandlerType
walks_of waves zero = []
walks_of waves (suc n) = manage_in (slice_get waves n)

abbrev pub program_of : SetupData → Program
program_of d = record { handlers = d.handlers; procedures = d.procedures }

-- The variables are 0, there are no jobs and no tokens, and no unit was begun.
abbrev pub at_begin : SetupData → Registrations → PoolState → Serving
at_begin d registrations pool =
    record {
      variables = replicate 8 0;
      registrations = registrations;
      pool = pool;
      seats = replicate d.processors Free;
      given = 0;
      tokens = [];
      left = d.ops;
    }

-- a handler of the file is registered where it stands on a list
abbrev pub registered_if : Option HandlerType → ℕ → Registrations → Registrations
registered_if None h g = g
registered_if (Some kind) h g = changed (Register kind h) g

-- the handlers from this place of the file on
abbrev pub registered_from : ℕ → List HandlerDef → Registrations → Registrations
registered_from h [] g = g
registered_from h (d ∷ ds) g = registered_from (h + 1) ds (registered_if d.kind h g)

-- the handlers of the file, in its order
abbrev pub registrations_of : List HandlerDef → Registrations
registrations_of handlers = registered_from 0 handlers no_registrations

abbrev pub pool_in : PoolRange → PoolState
pool_in range = fresh range.start range.pages

-- the pool of the platform's layout, all of it free
abbrev pub pool_at_first : SetupData → PoolState
pool_at_first d = pool_in (pool_of d.processors d.smram)

-- the same of what serving knows
abbrev pub cleared : ℕ → Serving → Serving
cleared units s =
    record s {
      variables = replicate 8 0;
      seats = replicate (length s.seats) Free;
      given = 0;
      tokens = [];
      left = units;
    }
