-- What is found in the input files, and when a fault may come while they are loaded.
use Rattle.std.proofs.Common.{◌≡◌, ◌≢◌, ℕ, ◌⊎◌, inl, inr, Bool, true, false, List, length, Option, None, Some, Result, Ok, Err, IfOk, IfErr, if◌then◌else◌, refl, ap, sym, subst, ◌∙◌}
use Rattle.std.specs.Str.{bytes_eq}
use Rattle.std.proofs.lemmas.Slice.Eq.{bytes_eq-Decides}
use Rattle.smm_base.specs.Store.{FileMap}
use Rattle.smm_base.specs.declared.kinds.MapKind.{MapKind}
use Rattle.save_state_map.specs.Images.{ImageContents}
use Rattle.image_file.specs.declared.error.ImagesError.{ImagesError}
use Rattle.image_file.specs.declared.error.ImagesError.TheVariants as images
use Rattle.image_file.specs.Refusals.{refusal_of}
use Rattle.image_file.specs.Contents.{images_in}
use Rattle.cpu_table.specs.Data.{SetupData}
use Rattle.platform_file.specs.declared.error.PlatformError.{PlatformError}
use Rattle.platform_file.specs.declared.error.PlatformError.TheVariants as platform
use Rattle.schedule_file.specs.declared.error.ScheduleError.{ScheduleError}
use Rattle.schedule_file.specs.declared.error.ScheduleError.TheVariants as schedule
use Rattle.platform_file.specs.Walk.{setup_read}
use Rattle.schedule_file.specs.Schedule.{schedule_of}
use Rattle.platform_document.specs.Reading.{read_then}
use Rattle.smm_player.specs.declared.images.ImagesFault.TheVariants as fault
use Rattle.smm_player.specs.declared.refusal.Refusal.{Refusal}
use Rattle.smm_player.specs.declared.refusal.Refusal.TheVariants.{Read, TooLong, Platform, Images, Schedule, Trace}
use Rattle.smm_player.specs.declared.fault.Fault.{Fault}
use Rattle.smm_player.specs.declared.fault.Fault.TheVariants.{Refused, Write, Save, Memory}
use Rattle.smm_player.specs.Fault.{platform_fault, images_fault, schedule_fault}
use Rattle.smm_player.specs.Due.{Finding, or_refusal, loaded, file_due, platform_found, serving, judged, images_found, schedule_found, without, schedule_due, relocated_or, started, plan_with, IsDue, RefusalCause}
use Rattle.rendezvous_core.specs.Starts.{start_refusal}
use Rattle.smbase_reloc.specs.declared.error.RelocError.{RelocError}
use Rattle.smm_command.specs.declared.command.Step.{Step}
use Rattle.replay_report.specs.Plan.{Plan, plan}
use Rattle.smm_player.specs.Loading.{LoadCause, RefusedReading, StopsReading}

-- the platform file

-- what is read is found
pub platform_is_found : (bytes : List ℕ) (setup : SetupData) → setup_read bytes ≡ Ok setup → platform_found bytes ≡ Ok setup
platform_is_found bytes setup read = ap (or_refusal Platform) read

read_stops : (bytes : List ℕ) (error : PlatformError) → setup_read bytes ≡ Err error → platform_found bytes ≡ Err (Platform error)
read_stops bytes error read = ap (or_refusal Platform) read

-- an error of the platform file stops the reading
pub platform_stops : (bytes : List ℕ) (error : PlatformError) → (error ≡ platform.NoMemory) ⊎ (setup_read bytes ≡ Err error) → StopsReading (platform_found bytes) (platform_fault error)
platform_stops bytes platform.NotToml why = elim why [ inl is ↦ absurd cc | inr read ↦ read_stops bytes platform.NotToml read ]
platform_stops bytes (platform.Missing key) why = elim why [ inl is ↦ absurd cc | inr read ↦ read_stops bytes (platform.Missing key) read ]
platform_stops bytes (platform.WrongType key) why = elim why [ inl is ↦ absurd cc | inr read ↦ read_stops bytes (platform.WrongType key) read ]
platform_stops bytes (platform.Word key) why = elim why [ inl is ↦ absurd cc | inr read ↦ read_stops bytes (platform.Word key) read ]
platform_stops bytes (platform.Range key number) why = elim why [ inl is ↦ absurd cc | inr read ↦ read_stops bytes (platform.Range key number) read ]
platform_stops bytes (platform.Unknown key) why = elim why [ inl is ↦ absurd cc | inr read ↦ read_stops bytes (platform.Unknown key) read ]
platform_stops bytes (platform.TooLarge events) why = elim why [ inl is ↦ absurd cc | inr read ↦ read_stops bytes (platform.TooLarge events) read ]
platform_stops bytes (platform.Layout error) why = elim why [ inl is ↦ absurd cc | inr read ↦ read_stops bytes (platform.Layout error) read ]
platform_stops bytes platform.NoMemory why = tt

-- what is found by another name
pub as_found : {A V : Type 0} (view : V → A) (found other : Finding A) (r : Result V Fault) → found ≡ other → IfOk r (λ value. other ≡ Ok (view value)) → IfOk r (λ value. found ≡ Ok (view value))
as_found view found other (Ok value) same is = same ∙ is
as_found view found other (Err stopped) same is = tt

pub as_stops : {A V : Type 0} (found other : Finding A) (r : Result V Fault) → found ≡ other → IfErr r (StopsReading other) → IfErr r (StopsReading found)
as_stops found other (Ok value) same stops = tt
as_stops {A} found other (Err stopped) same stops = let P : Finding A → Type 0 = λ x. StopsReading x stopped in subst P (sym same) stops

-- the image file

-- images of a file without a refusal are found by their kind and count
pub found_serving : (kind : MapKind) (processors : ℕ) (bytes : List ℕ) (held : List ImageContents) → refusal_of bytes ≡ None → held ≡ images_in bytes → images_found kind processors bytes ≡ serving kind processors held
found_serving kind processors bytes held none is = ap (λ o. judged kind processors o (images_in bytes)) none ∙ ap (serving kind processors) (sym is)

refused_stops : (kind : MapKind) (processors : ℕ) (bytes : List ℕ) (error : ImagesError) → refusal_of bytes ≡ Some error → images_found kind processors bytes ≡ Err (Images (fault.File error))
refused_stops kind processors bytes error refused = ap (λ o. judged kind processors o (images_in bytes)) refused

-- a refusal of the image file stops the reading
pub images_stop : (kind : MapKind) (processors : ℕ) (bytes : List ℕ) (error : ImagesError) → (error ≢ images.NoMemory → refusal_of bytes ≡ Some error) → StopsReading (images_found kind processors bytes) (images_fault error)
images_stop kind processors bytes (images.Short length) has = refused_stops kind processors bytes (images.Short length) (has (λ is. cc))
images_stop kind processors bytes images.Magic has = refused_stops kind processors bytes images.Magic (has (λ is. cc))
images_stop kind processors bytes (images.Version version) has = refused_stops kind processors bytes (images.Version version) (has (λ is. cc))
images_stop kind processors bytes (images.Kind number) has = refused_stops kind processors bytes (images.Kind number) (has (λ is. cc))
images_stop kind processors bytes (images.Count count) has = refused_stops kind processors bytes (images.Count count) (has (λ is. cc))
images_stop kind processors bytes (images.Long length) has = refused_stops kind processors bytes (images.Long length) (has (λ is. cc))
images_stop kind processors bytes images.NoMemory has = tt

-- the schedule

pub schedule_is_found : (processors : ℕ) (bytes actors : List ℕ) → schedule_of processors bytes ≡ Ok actors → schedule_found processors bytes ≡ Ok actors
schedule_is_found processors bytes actors read = ap (or_refusal Schedule) read

actors_stop : (processors : ℕ) (bytes : List ℕ) (error : ScheduleError) → schedule_of processors bytes ≡ Err error → schedule_found processors bytes ≡ Err (Schedule error)
actors_stop processors bytes error read = ap (or_refusal Schedule) read

-- an error of the schedule stops the reading
pub schedule_stops : (processors : ℕ) (bytes : List ℕ) (error : ScheduleError) → (error ≡ schedule.NoMemory) ⊎ (schedule_of processors bytes ≡ Err error) → StopsReading (schedule_found processors bytes) (schedule_fault error)
schedule_stops processors bytes (schedule.Token at) why = elim why [ inl is ↦ absurd cc | inr read ↦ actors_stop processors bytes (schedule.Token at) read ]
schedule_stops processors bytes (schedule.Actor at actor) why = elim why [ inl is ↦ absurd cc | inr read ↦ actors_stop processors bytes (schedule.Actor at actor) read ]
schedule_stops processors bytes schedule.TooLong why = elim why [ inl is ↦ absurd cc | inr read ↦ actors_stop processors bytes schedule.TooLong read ]
schedule_stops processors bytes schedule.NoMemory why = tt

-- one step after another

-- the second step works on what is due by the first
pub IsDue-then : {A B : Type 0} (first : FileMap → Finding A) (next : A → FileMap → Finding B) (files : Option FileMap) (a : A) (b : B) → IsDue first files a → IsDue (next a) files b → IsDue (λ held. read_then (first held) (λ x. next x held)) files b
IsDue-then first next None a b due second = tt
IsDue-then first next (Some held) a b due second = ap (λ r. read_then r (λ x. next x held)) due ∙ second

-- a refusal of the first step is one of both
refused_first : {A B : Type 0} (first : FileMap → Finding A) (next : A → FileMap → Finding B) (held : FileMap) (refusal : Refusal) → first held ≡ Err refusal → read_then (first held) (λ x. next x held) ≡ Err refusal
refused_first first next held refusal is = ap (λ r. read_then r (λ x. next x held)) is

pub cause_first : {A B : Type 0} (first : FileMap → Finding A) (next : A → FileMap → Finding B) (files : Option FileMap) (failed : Type 0) (refusal : Refusal) → RefusalCause first files failed refusal → RefusalCause (λ held. read_then (first held) (λ x. next x held)) files failed refusal
cause_first first next None failed (Read name) cause = cause
cause_first first next (Some held) failed (Read name) cause = elim cause [ inl is ↦ inl (refused_first first next held (Read name) is) | inr x ↦ inr (x.0, refused_first first next (without name held) (Read name) x.1) ]
cause_first first next None failed (TooLong name limit) cause = cause
cause_first first next (Some held) failed (TooLong name limit) cause = refused_first first next held (TooLong name limit) cause
cause_first first next None failed (Platform error) cause = tt
cause_first first next (Some held) failed (Platform error) cause = refused_first first next held (Platform error) cause
cause_first first next None failed (Images error) cause = tt
cause_first first next (Some held) failed (Images error) cause = refused_first first next held (Images error) cause
cause_first first next None failed (Schedule error) cause = tt
cause_first first next None failed (Trace error) cause = tt
cause_first first next (Some held) failed (Schedule error) cause = refused_first first next held (Schedule error) cause
cause_first first next (Some held) failed (Trace error) cause = refused_first first next held (Trace error) cause

pub stop_first : {A B : Type 0} (first : FileMap → Finding A) (next : A → FileMap → Finding B) (files : Option FileMap) (failed : Type 0) (fault : Fault) → LoadCause first files failed fault → LoadCause (λ held. read_then (first held) (λ x. next x held)) files failed fault
stop_first first next files failed (Refused refusal) cause = cause_first first next files failed refusal cause
stop_first first next files failed Write cause = cause
stop_first first next files failed Save cause = cause
stop_first first next files failed Memory cause = tt

-- Without a name, a step finds what it found, or it stops there.
abbrev pub IsSteady : {A : Type 0} → (FileMap → Finding A) → Type 0
IsSteady first = (held : FileMap) (name : List ℕ) → (first (without name held) ≡ first held) ⊎ (first (without name held) ≡ Err (Read name))

-- a refusal of the second step, where the first found what is due
refused_second : {A B : Type 0} (first : FileMap → Finding A) (next : A → FileMap → Finding B) (held : FileMap) (a : A) (refusal : Refusal) → first held ≡ Ok a → next a held ≡ Err refusal → read_then (first held) (λ x. next x held) ≡ Err refusal
refused_second first next held a refusal due is = ap (λ r. read_then r (λ x. next x held)) due ∙ is

unread_second : {A B : Type 0} (first : FileMap → Finding A) (next : A → FileMap → Finding B) → IsSteady first → (held : FileMap) (a : A) (name : List ℕ) → first held ≡ Ok a → next a (without name held) ≡ Err (Read name) →
    read_then (first (without name held)) (λ x. next x (without name held)) ≡ Err (Read name)
unread_second first next steady held a name due is =
    elim (steady held name) [
      | inl same ↦ refused_second first next (without name held) a (Read name) (same ∙ due) is
      | inr stops ↦ refused_first first next (without name held) (Read name) stops
    ]

cause_second : {A B : Type 0} (first : FileMap → Finding A) (next : A → FileMap → Finding B) → IsSteady first → (files : Option FileMap) (failed : Type 0) (a : A) (refusal : Refusal) → IsDue first files a → RefusalCause (next a) files failed refusal →
    RefusalCause (λ held. read_then (first held) (λ x. next x held)) files failed refusal
cause_second first next steady None failed a (Read name) due cause = cause
cause_second first next steady (Some held) failed a (Read name) due cause = elim cause [ inl is ↦ inl (refused_second first next held a (Read name) due is) | inr x ↦ inr (x.0, unread_second first next steady held a name due x.1) ]
cause_second first next steady None failed a (TooLong name limit) due cause = cause
cause_second first next steady (Some held) failed a (TooLong name limit) due cause = refused_second first next held a (TooLong name limit) due cause
cause_second first next steady None failed a (Platform error) due cause = tt
cause_second first next steady (Some held) failed a (Platform error) due cause = refused_second first next held a (Platform error) due cause
cause_second first next steady None failed a (Images error) due cause = tt
cause_second first next steady (Some held) failed a (Images error) due cause = refused_second first next held a (Images error) due cause
cause_second first next steady None failed a (Schedule error) due cause = tt
cause_second first next steady None failed a (Trace error) due cause = tt
cause_second first next steady (Some held) failed a (Schedule error) due cause = refused_second first next held a (Schedule error) due cause
cause_second first next steady (Some held) failed a (Trace error) due cause = refused_second first next held a (Trace error) due cause

pub stop_second : {A B : Type 0} (first : FileMap → Finding A) (next : A → FileMap → Finding B) → IsSteady first → (files : Option FileMap) (failed : Type 0) (a : A) (fault : Fault) → IsDue first files a → LoadCause (next a) files failed fault →
    LoadCause (λ held. read_then (first held) (λ x. next x held)) files failed fault
stop_second first next steady files failed a (Refused refusal) due cause = cause_second first next steady files failed a refusal due cause
stop_second first next steady files failed a Write due cause = cause
stop_second first next steady files failed a Save due cause = cause
stop_second first next steady files failed a Memory due cause = tt

-- the load of one file is steady: it looks at one name alone
loaded_without : (b : Bool) (limit : ℕ) (name other : List ℕ) (held : Option (List ℕ)) → (b ≡ true → name ≡ other) → (loaded limit name (if b then None else held) ≡ loaded limit name held) ⊎ (loaded limit name (if b then None else held) ≡ Err (Read other))
loaded_without true limit name other held is = let f : List ℕ → Finding (List ℕ) = λ n. Err (Read n) in inr (ap f (is refl))
loaded_without false limit name other held is = inl refl

pub load_steady : (limit : ℕ) (name : List ℕ) → IsSteady (λ held. loaded limit name (held name))
load_steady limit name held other = loaded_without (bytes_eq name other) limit name other (held name) (λ e. (bytes_eq-Decides name other).0 e)

pub file_steady : {A : Type 0} (limit : ℕ) (name : List ℕ) (read : List ℕ → Finding A) → IsSteady (file_due limit name read)
file_steady limit name read held other =
    elim (load_steady limit name held other) [ inl same ↦ inl (ap (λ r. read_then r read) same) | inr stops ↦ inr (ap (λ r. read_then r read) stops) ]

-- what stops the reading of a file that was loaded is the cause of a step that finds the same in any files
read_cause : {A : Type 0} (found : Finding A) (files : Option FileMap) (failed : Type 0) (refusal : Refusal) → RefusedReading found refusal → RefusalCause (λ _. found) files failed refusal
read_cause found files failed (Read name) stops = absurd stops
read_cause found files failed (TooLong name limit) stops = absurd stops
read_cause found None failed (Platform error) stops = tt
read_cause found (Some held) failed (Platform error) stops = stops
read_cause found None failed (Images error) stops = tt
read_cause found (Some held) failed (Images error) stops = stops
read_cause found None failed (Schedule error) stops = tt
read_cause found None failed (Trace error) stops = tt
read_cause found (Some held) failed (Schedule error) stops = stops
read_cause found (Some held) failed (Trace error) stops = stops

pub stop_cause : {A : Type 0} (found : Finding A) (files : Option FileMap) (failed : Type 0) (fault : Fault) → StopsReading found fault → LoadCause (λ _. found) files failed fault
stop_cause found files failed (Refused refusal) stops = read_cause found files failed refusal stops
stop_cause found files failed Write stops = stops
stop_cause found files failed Save stops = stops
stop_cause found files failed Memory stops = tt

found_due : {A : Type 0} (found : Finding A) (files : Option FileMap) (a : A) → found ≡ Ok a → IsDue (λ _. found) files a
found_due found None a is = tt
found_due found (Some held) a is = is

-- a file that was loaded and read: what is found is due, and what stops there is the cause
pub file_found : {A V : Type 0} (view : V → A) (limit : ℕ) (name : List ℕ) (read : List ℕ → Finding A) (files : Option FileMap) (bytes : List ℕ) (r : Result V Fault) →
    IsDue (λ held. loaded limit name (held name)) files bytes → IfOk r (λ value. read bytes ≡ Ok (view value)) → IfOk r (λ value. IsDue (file_due limit name read) files (view value))
file_found view limit name read files bytes (Ok value) due found = IsDue-then (λ held. loaded limit name (held name)) (λ bs _. read bs) files bytes (view value) due (found_due (read bytes) files (view value) found)
file_found view limit name read files bytes (Err stopped) due found = tt

pub file_stops : {A V : Type 0} (limit : ℕ) (name : List ℕ) (read : List ℕ → Finding A) (files : Option FileMap) (failed : Type 0) (bytes : List ℕ) (r : Result V Fault) →
    IsDue (λ held. loaded limit name (held name)) files bytes → IfErr r (StopsReading (read bytes)) → IfErr r (LoadCause (file_due limit name read) files failed)
file_stops limit name read files failed bytes (Ok value) due stops = tt
file_stops limit name read files failed bytes (Err stopped) due stops =
    stop_second (λ held. loaded limit name (held name)) (λ bs _. read bs) (load_steady limit name) files failed bytes stopped due (stop_cause (read bytes) files failed stopped stops)

-- a load that failed earlier or later failed in the whole call
wider_cause : {A : Type 0} (judge : FileMap → Finding A) (files : Option FileMap) (f g : Type 0) (refusal : Refusal) → (f → g) → RefusalCause judge files f refusal → RefusalCause judge files g refusal
wider_cause judge None f g (Read name) wider cause = wider cause
wider_cause judge (Some held) f g (Read name) wider cause = elim cause [ inl is ↦ inl is | inr x ↦ inr (wider x.0, x.1) ]
wider_cause judge None f g (TooLong name limit) wider cause = wider cause
wider_cause judge (Some held) f g (TooLong name limit) wider cause = cause
wider_cause judge files f g (Platform error) wider cause = cause
wider_cause judge files f g (Images error) wider cause = cause
wider_cause judge files f g (Schedule error) wider cause = cause
wider_cause judge files f g (Trace error) wider cause = cause

pub wider_stop : {A : Type 0} (judge : FileMap → Finding A) (files : Option FileMap) (f g : Type 0) (fault : Fault) → (f → g) → LoadCause judge files f fault → LoadCause judge files g fault
wider_stop judge files f g (Refused refusal) wider cause = wider_cause judge files f g refusal wider cause
wider_stop judge files f g Write wider cause = cause
wider_stop judge files f g Save wider cause = cause
wider_stop judge files f g Memory wider cause = tt

-- the second step, in a later part of the call: what it finds is due, and what stops it is the cause
pub then_found : {A B V : Type 0} (view : V → B) (first : FileMap → Finding A) (next : A → FileMap → Finding B) (files files' : Option FileMap) (a : A) (r : Result V Fault) → files' ≡ files → IsDue first files a →
    IfOk r (λ value. IsDue (next a) files' (view value)) → IfOk r (λ value. IsDue (λ held. read_then (first held) (λ x. next x held)) files (view value))
then_found view first next files files' a (Ok value) stay due found =
    let P : Option FileMap → Type 0 = λ fs. IsDue (next a) fs (view value) in IsDue-then first next files a (view value) due (subst P stay found)
then_found view first next files files' a (Err stopped) stay due found = tt

pub then_stops : {A B V : Type 0} (first : FileMap → Finding A) (next : A → FileMap → Finding B) → IsSteady first → (files files' : Option FileMap) (f g : Type 0) (a : A) (r : Result V Fault) → files' ≡ files → (f → g) → IsDue first files a →
    IfErr r (LoadCause (next a) files' f) → IfErr r (LoadCause (λ held. read_then (first held) (λ x. next x held)) files g)
then_stops first next steady files files' f g a (Ok value) stay wider due stops = tt
then_stops first next steady files files' f g a (Err stopped) stay wider due stops =
    let P : Option FileMap → Type 0 = λ fs. LoadCause (next a) fs f stopped in
    stop_second first next steady files g a stopped due (wider_stop (next a) files f g stopped wider (subst P stay stops))

-- the plan once the schedule is there

started_is : (p : Plan) → start_refusal p.setup p.images ≡ None → started p ≡ Ok p
started_is p none = ap (λ o. relocated_or o p) none

started_not : (p : Plan) (error : RelocError) → start_refusal p.setup p.images ≡ Some error → started p ≡ Err (Images (fault.NotRelocated error))
started_not p error some = ap (λ o. relocated_or o p) some

pub plan_due_with : (names : Step) (setup : SetupData) (images : List ImageContents) (files : Option FileMap) (actors : List ℕ) → start_refusal setup images ≡ None → IsDue (schedule_due names.schedule setup) files actors → IsDue (plan_with names setup images) files (plan setup images actors)
plan_due_with names setup images None actors none is = tt
plan_due_with names setup images (Some held) actors none is = ap (λ r. read_then r (λ xs. started (plan setup images xs))) is ∙ started_is (plan setup images actors) none

-- and the refusal of a relocation
pub not_relocated : (names : Step) (setup : SetupData) (images : List ImageContents) (files : Option FileMap) (failed : Type 0) (actors : List ℕ) (error : RelocError) → start_refusal setup images ≡ Some error → IsDue (schedule_due names.schedule setup) files actors →
    LoadCause (plan_with names setup images) files failed (Refused (Images (fault.NotRelocated error)))
not_relocated names setup images None failed actors error some is = tt
not_relocated names setup images (Some held) failed actors error some is = ap (λ r. read_then r (λ xs. started (plan setup images xs))) is ∙ started_not (plan setup images actors) error some
