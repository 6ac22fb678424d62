-- How the loading and the reading of input files stop.
use Rattle.std.specs.Prelude.{ℕ, ◌≡◌, ◌⊎◌, List, Option, Err}
use Rattle.smm_base.specs.Store.{FileMap}
use Rattle.smm_base.specs.declared.store.LoadError.{LoadError}
use Rattle.smm_base.specs.declared.store.LoadError.TheVariants as load
use Rattle.smm_player.specs.declared.fault.Fault.{Fault}
use Rattle.smm_player.specs.declared.fault.Fault.TheVariants.{Refused, Write, Save, Memory}
use Rattle.smm_player.specs.declared.refusal.Refusal.{Refusal}
use Rattle.smm_player.specs.declared.refusal.Refusal.TheVariants.{Read, TooLong, Platform, Images, Schedule, Trace}
use Rattle.smm_player.specs.Due.{Finding, RefusalCause}

-- the refusal, or want of memory
abbrev pub IsRefusedFor : Refusal → Fault → Type 0
IsRefusedFor refusal fault = (fault ≡ Refused refusal) ⊎ (fault ≡ Memory)

-- the fault by the error of a load
abbrev pub IsLoadFault : ℕ → List ℕ → LoadError → Fault → Type 0
IsLoadFault limit name load.Failed fault = IsRefusedFor (Read name) fault
IsLoadFault limit name load.Missing fault = IsRefusedFor (Read name) fault
IsLoadFault limit name load.TooLong fault = IsRefusedFor (TooLong name limit) fault
IsLoadFault limit name load.NoMemory fault = fault ≡ Memory

-- when a fault may come while the input files are loaded and read
abbrev pub LoadCause : {A : Type 0} → (FileMap → Finding A) → Option FileMap → Type 0 → Fault → Type 0
LoadCause judge files failed (Refused refusal) = RefusalCause judge files failed refusal
LoadCause judge files failed Write = ⊥
LoadCause judge files failed Save = ⊥
LoadCause judge files failed Memory = Unit {0}

-- a refusal for what a file holds is the one that is found there
abbrev pub RefusedReading : {A : Type 0} → Finding A → Refusal → Type 0
RefusedReading found (Read name) = ⊥
RefusedReading found (TooLong name limit) = ⊥
RefusedReading found (Platform error) = found ≡ Err (Platform error)
RefusedReading found (Images error) = found ≡ Err (Images error)
RefusedReading found (Schedule error) = found ≡ Err (Schedule error)
RefusedReading found (Trace error) = found ≡ Err (Trace error)

-- a fault at which the reading of a file stops: there is no memory, or what the file holds is refused
abbrev pub StopsReading : {A : Type 0} → Finding A → Fault → Type 0
StopsReading found (Refused refusal) = RefusedReading found refusal
StopsReading found Write = ⊥
StopsReading found Save = ⊥
StopsReading found Memory = Unit {0}
