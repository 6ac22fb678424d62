-- What is due for a command and the held files: what it works on, or the first refusal in the order of work.
use Rattle.std.specs.Prelude.{ℕ, ◌≡◌, ◌⊎◌, ◌==◌, Bool, true, false, not, List, [], ◌∷◌, length, nat_lt, Option, None, Some, Result, Ok, Err, MatchOption, IfSome, if◌then◌else◌}
use Rattle.std.specs.Str.{bytes_eq}
use Rattle.smm_base.specs.Store.{FileMap}
use Rattle.smm_base.specs.declared.kinds.MapKind.{MapKind}
use Rattle.smm_base.specs.declared.kinds.MapKind.TheVariants.{Ia32, Intel64}
use Rattle.save_state_map.specs.Images.{ImageContents}
use Rattle.image_file.specs.declared.error.ImagesError.{ImagesError}
use Rattle.image_file.specs.Refusals.{refusal_of}
use Rattle.image_file.specs.Contents.{images_in}
use Rattle.cpu_table.specs.Data.{SetupData}
use Rattle.platform_document.specs.Reading.{read_then}
use Rattle.platform_file.specs.Walk.{setup_read}
use Rattle.schedule_file.specs.Schedule.{schedule_of}
use Rattle.smbase_reloc.specs.declared.error.RelocError.{RelocError}
use Rattle.rendezvous_core.specs.Starts.{start_refusal, first_registers}
use Rattle.trace_check.specs.Judged.{first_judged}
use Rattle.trace_judge.specs.declared.fault.TraceFault.{TraceFault}
use Rattle.trace_judge.specs.Verdicts.{verdict}
use Rattle.smm_command.specs.declared.command.Step.{Step}
use Rattle.smm_command.specs.declared.command.Check.{Check}
use Rattle.smm_player.specs.declared.images.ImagesFault.TheVariants as fault
use Rattle.smm_player.specs.declared.refusal.Refusal.{Refusal}
use Rattle.smm_player.specs.declared.refusal.Refusal.TheVariants.{Read, TooLong, Platform, Images, Schedule, Trace}
use Rattle.replay_report.specs.Plan.{Plan, plan}
use Rattle.smm_player.specs.Traces.{TracePlan, trace_plan}

-- what is found, or the refusal at which the work stops
abbrev pub Finding : Type 0 → Type 0
Finding A = Result A Refusal

-- what a reader answers, with its errors as refusals
abbrev pub or_refusal : {A E : Type 0} → (E → Refusal) → Result A E → Finding A
or_refusal refusal (Ok found) = Ok found
or_refusal refusal (Err error) = Err (refusal error)

-- how many bytes each input file has at most; the limits are the project's own
abbrev pub platform_limit : ℕ
platform_limit = 1048576

abbrev pub images_limit : ℕ
images_limit = 65548

abbrev pub schedule_limit : ℕ
schedule_limit = 4194304

abbrev pub trace_limit : ℕ
trace_limit = 536870912

-- the bytes of an input file: refused where the name isn't held, or where the file is longer than its limit
abbrev pub loaded : ℕ → List ℕ → Option (List ℕ) → Finding (List ℕ)
loaded limit name None = Err (Read name)
loaded limit name (Some bytes) = if nat_lt limit (length bytes) then Err (TooLong name limit) else Ok bytes

-- what a reader finds in an input file
abbrev pub file_due : {A : Type 0} → ℕ → List ℕ → (List ℕ → Finding A) → FileMap → Finding A
file_due limit name read held = read_then (loaded limit name (held name)) read

-- the setup of a platform file
abbrev pub platform_found : List ℕ → Finding SetupData
platform_found bytes = or_refusal Platform (setup_read bytes)

-- two images are of one map
abbrev pub kinds_agree : MapKind → MapKind → Bool
kinds_agree Ia32 Ia32 = true
kinds_agree Ia32 Intel64 = false
kinds_agree Intel64 Ia32 = false
kinds_agree Intel64 Intel64 = true

-- as many images as there are processors
abbrev pub counted : ℕ → List ImageContents → Finding (List ImageContents)
counted processors images = if length images == processors then Ok images else Err (Images (fault.CountDiffers processors (length images)))

-- the images of a file, which are all of one kind, are of another kind than this
abbrev pub differs : MapKind → List ImageContents → Bool
differs kind [] = false
differs kind (first ∷ others) = not (kinds_agree first.kind kind)

-- images that serve a platform of the kind: the kind is judged before the count
abbrev pub serving : MapKind → ℕ → List ImageContents → Finding (List ImageContents)
serving kind processors images = if differs kind images then Err (Images fault.KindDiffers) else counted processors images

-- images that a file has no refusal for
abbrev pub judged : MapKind → ℕ → Option ImagesError → List ImageContents → Finding (List ImageContents)
judged kind processors (Some error) images = Err (Images (fault.File error))
judged kind processors None images = serving kind processors images

-- the images of an image file, on a platform of the kind and of so many processors
abbrev pub images_found : MapKind → ℕ → List ℕ → Finding (List ImageContents)
images_found kind processors bytes = judged kind processors (refusal_of bytes) (images_in bytes)

-- the actors of a schedule, on a platform of so many processors
abbrev pub schedule_found : ℕ → List ℕ → Finding (List ℕ)
schedule_found processors bytes = or_refusal Schedule (schedule_of processors bytes)

-- what is found in each input file, by its name
abbrev pub platform_due : List ℕ → FileMap → Finding SetupData
platform_due name = file_due platform_limit name platform_found

abbrev pub images_due : List ℕ → SetupData → FileMap → Finding (List ImageContents)
images_due name setup = file_due images_limit name (images_found setup.kind setup.processors)

abbrev pub schedule_due : List ℕ → SetupData → FileMap → Finding (List ℕ)
schedule_due name setup = file_due schedule_limit name (schedule_found setup.processors)

-- a plan whose processors can begin with their images
abbrev pub relocated_or : Option RelocError → Plan → Finding Plan
relocated_or None p = Ok p
relocated_or (Some error) p = Err (Images (fault.NotRelocated error))

abbrev pub started : Plan → Finding Plan
started p = relocated_or (start_refusal p.setup p.images) p

-- what a step works on once the platform and the images are there: the schedule comes last, and then the room is taken
abbrev pub plan_with : Step → SetupData → List ImageContents → FileMap → Finding Plan
plan_with names setup images held = read_then (schedule_due names.schedule setup held) (λ actors. started (plan setup images actors))

-- what a step works on once the platform is there: the images come before the schedule
abbrev pub plan_on : Step → SetupData → FileMap → Finding Plan
plan_on names setup held = read_then (images_due names.images setup held) (λ images. plan_with names setup images held)

-- what a step works on: the platform comes first
abbrev pub plan_due : Step → FileMap → Finding Plan
plan_due names held = read_then (platform_due names.platform held) (λ setup. plan_on names setup held)

-- the bytes of a trace
abbrev pub trace_due : List ℕ → FileMap → Finding (List ℕ)
trace_due name held = loaded trace_limit name (held name)

-- what a check works on: the platform, the images, and then the trace
abbrev pub trace_with : Check → SetupData → List ImageContents → FileMap → Finding TracePlan
trace_with names setup images held = read_then (trace_due names.trace held) (λ bytes. Ok (trace_plan setup images bytes))

abbrev pub trace_on : Check → SetupData → FileMap → Finding TracePlan
trace_on names setup held = read_then (images_due names.images setup held) (λ images. trace_with names setup images held)

abbrev pub trace_plan_due : Check → FileMap → Finding TracePlan
trace_plan_due names held = read_then (platform_due names.platform held) (λ setup. trace_on names setup held)

-- a trace is judged where the processors can begin with their images
abbrev pub judged_or : Option RelocError → Result (Unit {0}) TraceFault → Finding (Unit {0})
judged_or None verdict = or_refusal Trace verdict
judged_or (Some error) verdict = Err (Images (fault.NotRelocated error))

unfoldable pub trace_judged : TracePlan → Finding (Unit {0})
trace_judged p =
    judged_or (start_refusal p.setup p.images) (verdict p.setup.processors (first_judged p.setup (first_registers p.setup p.images) p.images) p.bytes)

-- the held files but for one name
abbrev pub without : List ℕ → FileMap → FileMap
without name held other = if bytes_eq other name then None else held other

-- what was found is what is due, where the store tells its files
abbrev pub IsDue : {A : Type 0} → (FileMap → Finding A) → Option FileMap → A → Type 0
IsDue judge files found = IfSome files (λ held. judge held ≡ Ok found)

-- The load of this name may fail: the file is reached in the order of work, so that the work would stop there were the
-- name not held.
abbrev pub StopsWithout : {A : Type 0} → (FileMap → Finding A) → FileMap → List ℕ → Type 0
StopsWithout judge held name = judge (without name held) ≡ Err (Read name)

-- When a refusal may come, by what is due for the held files (where the store tells them) and by whether a load failed:
-- `Read` where it is due, or where a load failed and the file was reached; the others where they are due. A store that
-- doesn't tell its files gives `Read` and `TooLong` only where a load failed.
abbrev pub RefusalCause : {A : Type 0} → (FileMap → Finding A) → Option FileMap → Type 0 → Refusal → Type 0
RefusalCause judge files failed (Read name) = MatchOption files failed (λ held. (judge held ≡ Err (Read name)) ⊎ (failed × StopsWithout judge held name))
RefusalCause judge files failed (TooLong name limit) = MatchOption files failed (λ held. judge held ≡ Err (TooLong name limit))
RefusalCause judge files failed (Platform error) = IfSome files (λ held. judge held ≡ Err (Platform error))
RefusalCause judge files failed (Images error) = IfSome files (λ held. judge held ≡ Err (Images error))
RefusalCause judge files failed (Schedule error) = IfSome files (λ held. judge held ≡ Err (Schedule error))
RefusalCause judge files failed (Trace error) = IfSome files (λ held. judge held ≡ Err (Trace error))
