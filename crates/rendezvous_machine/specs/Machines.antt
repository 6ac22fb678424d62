-- The state of the rendezvous machine: phases, sets, one job for each processor, and one session. It has no words, semaphores,
-- desks or positions.
use Rattle.std.specs.Prelude.{◌≡◌, ◌≢◌, ◌<◌, ◌⊎◌, ℕ, Bool, true, false, List, [], length, map, zip, slice_index_or, Option, None, IsSome, IsSomeAnd}
use Rattle.std.specs.List.{count_by}
use Rattle.smm_base.specs.declared.kinds.MapKind.TheVariants.{Intel64}
use Rattle.save_state_map.specs.Images.{ImageContents}
use Rattle.cpu_regs.specs.Registers.{Registers, loaded}
use Rattle.cpu_table.specs.Data.{SetupData}
use Rattle.handler_registry.specs.Registrations.{Registrations}
use Rattle.smram_pool.specs.State.{PoolState}
use Rattle.handler_ops.specs.declared.desk.Job.{Job}
use Rattle.serving_place.specs.Forms.{Event}
use Rattle.serving_place.specs.Beginning.{registrations_of, pool_at_first}
pub use Rattle.rendezvous_machine.specs.declared.phase.Phase.{Phase}
pub use Rattle.rendezvous_machine.specs.declared.phase.Phase.TheVariants.{Out, In, Counted, Here, Gone, Off}

-- A processor: its phase, how many visits it has begun, its registers, its image, the image that it last resumed from (its
-- first one before that), its uncollected job, and whether it is in the sets of the session.
pub record Member : Type 0 where
  pub phase : Phase
  pub visits : ℕ
  pub registers : Registers
  pub image : ImageContents
  pub last : ImageContents
  pub job : Option Job
  pub in_closed_set : Bool
  pub is_released : Bool
  pub has_departed : Bool

pub record Session : Type 0 where
  pub bsp : ℕ
  pub served : Option ℕ  -- the wave that it serves, 0 where none was raised
  pub gathered : Option ℕ  -- how many processors it takes as blocked
  pub is_ready : Bool
  pub expired : ℕ  -- how often its waiting expired, 0 to 2
  pub is_closed : Bool
  pub serving : Option (List Event)  -- the serving list, once it has begun
  pub is_done : Bool

-- What is registered, and the pool, are those with which the session began that there is, or with which the next one will begin: the
-- serving list tells what they are now.
pub record Machine : Type 0 where
  pub members : List Member
  pub waves : ℕ  -- how many were announced
  pub excepted : ℕ  -- how many announcements of blocked processors there were
  pub last_excepted : ℕ  -- the number that the last of them named
  pub source : ℕ  -- the wave that raised the interrupt, or 0
  pub registrations : Registrations
  pub pool : PoolState
  pub session : Option Session

-- PROCESSORS

abbrev pub no_image : ImageContents
no_image = record { kind = Intel64; bytes = [] }

abbrev pub nobody : Member
nobody =
    record { phase = Off; visits = 0; registers = loaded no_image; image = no_image; last = no_image; job = None; in_closed_set = false; is_released = false; has_departed = false }

abbrev pub member : Machine → ℕ → Member
member m i = slice_index_or m.members i nobody

abbrev pub IsPhase : Machine → ℕ → Phase → Type 0
IsPhase m i phase = (member m i).phase ≡ phase

abbrev pub is_here : Phase → Bool
is_here Here = true
is_here _ = false

-- the members of the session are the processors that are counted in or have reported
abbrev pub is_counted_phase : Phase → Bool
is_counted_phase Counted = true
is_counted_phase Here = true
is_counted_phase _ = false

abbrev pub is_counted : Member → Bool
is_counted x = is_counted_phase x.phase

abbrev pub count_of : Machine → ℕ
count_of m = count_by is_counted m.members

-- each processor but this one that has the property has the other one
abbrev pub EachOther : Machine → ℕ → (Member → Bool) → (Member → Type 0) → Type 0
EachOther m but has P = (j : ℕ) → j < length m.members → j ≢ but → has (member m j) ≡ true → P (member m j)

-- every member but the boot processor has reported
abbrev pub AllReported : Machine → ℕ → Type 0
AllReported m bsp = EachOther m bsp is_counted (λ x. x.phase ≡ Here)

-- every processor of the closed set but the boot processor is released, and has departed
abbrev pub AllReleased : Machine → ℕ → Type 0
AllReleased m bsp = EachOther m bsp (λ x. x.in_closed_set) (λ x. x.is_released ≡ true)

abbrev pub AllDeparted : Machine → ℕ → Type 0
AllDeparted m bsp = EachOther m bsp (λ x. x.in_closed_set) (λ x. x.has_departed ≡ true)

-- no job is uncollected
abbrev pub AllCollected : Machine → Type 0
AllCollected m = (j : ℕ) → j < length m.members → (member m j).job ≡ None

-- THE SESSION

-- there is a session, the actor is its boot processor, and the session has the property
abbrev pub IsBsp : Machine → ℕ → (Session → Type 0) → Type 0
IsBsp m i P = IsSomeAnd m.session (λ s. (s.bsp ≡ i) × P s)

abbrev pub IsLed : Machine → ℕ → Type 0
IsLed m i = IsSomeAnd m.session (λ s. s.bsp ≡ i)

abbrev pub IsClosed : Machine → Type 0
IsClosed m = IsSomeAnd m.session (λ s. s.is_closed ≡ true)

-- a session has served and isn't done
abbrev pub IsAtWork : Machine → Type 0
IsAtWork m = IsSomeAnd m.session (λ s. IsSome s.served × (s.is_done ≡ false))

-- waiting for others has ended: all are there, or it expired twice
abbrev pub HasWaited : Session → Type 0
HasWaited s = (s.is_ready ≡ true) ⊎ (s.expired ≡ 2)

-- THE START

abbrev pub first_member : Registers → ImageContents → Member
first_member registers image = record nobody { phase = Out; registers = registers; image = image; last = image }

-- at the start every processor is out, the handlers of the file are registered, and there is no session
abbrev pub beginning : SetupData → List Registers → List ImageContents → Machine
beginning d registers images =
    record {
      members = map (λ x. first_member x.0 x.1) (zip registers images);
      waves = 0;
      excepted = 0;
      last_excepted = 0;
      source = 0;
      registrations = registrations_of d.handlers;
      pool = pool_at_first d;
      session = None;
    }
