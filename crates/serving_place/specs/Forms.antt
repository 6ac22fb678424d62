-- The form of a whole serving list.
--
-- A part of the list is told by what may follow it: `P k s es` says that from the state s the list es begins with P, and
-- from the state after P goes on as k says. A walk inside a walk is a part of a part; there is no stack.
use Rattle.std.specs.Prelude.{◌≡◌, ℕ, zero, suc, ◌+◌, Bool, true, false, ◌&&◌, List, [], ◌∷◌, ◌++◌, Option, Some, None, slice_get}
use Rattle.std.specs.List.{find}
use Rattle.smm_base.specs.declared.kinds.HandlerType.{HandlerType}
use Rattle.smm_base.specs.declared.status.Status.{Status}
use Rattle.smm_base.specs.declared.status.Status.TheVariants.{Success}
use Rattle.cpu_table.specs.declared.handlers.OpDef.{OpDef}
use Rattle.cpu_table.specs.declared.handlers.OpDef.TheVariants as op
use Rattle.cpu_table.specs.declared.handlers.HandlerDef.{HandlerDef}
use Rattle.cpu_table.specs.declared.handlers.ProcedureDef.{ProcedureDef}
use Rattle.sync_words.specs.declared.label.Label.{Label}
use Rattle.sync_words.specs.declared.label.Label.TheVariants as say
use Rattle.handler_registry.specs.declared.registration.Registration.{Registration}
use Rattle.handler_registry.specs.Registrations.{Registrations, is_same_list, has_serial}
use Rattle.smi_manage.specs.Answers.{stops, answer_of}
use Rattle.serving_place.specs.Serving.{Serving, seat, ran, collected, returned, HasOpen, HasEnded}
use Rattle.serving_place.specs.Operations.{Fits, after, Collects}

-- An entry of the list: a label of the boot processor, or that another processor ran its job, with the job's number,
-- result and status.
pub data Event : Type 0 where
  Own : Label → Event
  Ran : ℕ → ℕ → ℕ → Status → Event

-- what the file says of handlers and procedures
pub record Program : Type 0 where
  pub handlers : List HandlerDef
  pub procedures : List ProcedureDef

-- the operations and the answer of a handler by its place in the file
abbrev pub operations_in : Option HandlerDef → List OpDef
operations_in None = []
operations_in (Some handler) = handler.ops

abbrev pub operations_of : Program → ℕ → List OpDef
operations_of program h = operations_in (slice_get program.handlers h)

abbrev pub status_in : Option HandlerDef → Status
status_in None = Success
status_in (Some handler) = handler.answer

abbrev pub status_of : Program → ℕ → Status
status_of program h = status_in (slice_get program.handlers h)

-- what may stand in the rest of the list, from a state
abbrev pub Rest : Type 1
Rest = Serving → List Event → Type 0

abbrev pub Part : Type 1
Part = Rest → Rest

-- nothing follows: the list is whole
abbrev pub Ends : Rest
Ends s es = es ≡ []

-- One label of the boot processor. Before it other processors may run their jobs.
abbrev pub Says : (Serving → Label → Type 0) → (Serving → Label → Serving) → Part
Says fits next k s [] = ⊥
Says fits next k s (Own l ∷ es) = fits s l × k (next s l) es
Says fits next k s (Ran c j x S ∷ es) = HasOpen (seat s c) j × Says fits next k (ran c x S s) es

-- this very label, which changes nothing
abbrev pub Exactly : Label → Part
Exactly l = Says (λ s m. m ≡ l) (λ s m. s)

-- the job that a start began is collected, and the variable takes its result
abbrev pub Returning : ℕ → ℕ → Part
Returning cpu into = Says (λ s l. (l ≡ say.Collect cpu) × HasEnded (seat s cpu)) (λ s l. returned cpu into s)

abbrev pub by_start : Label → Rest → Rest → Rest
by_start (say.Start c j p a) started refused = started
by_start _ started refused = refused

-- what stands between the own label of an operation and the next: after a start that wasn't refused, its collect
abbrev pub AfterLabel : OpDef → Label → Part
AfterLabel (op.Start cpu name arg into) l k = by_start l (Returning cpu into k) k
AfterLabel _ l k = k

abbrev pub by_collect : Label → (ℕ → Type 0) → Type 0 → Type 0
by_collect (say.Collect c) some none = some c
by_collect _ some none = none

-- The labels of an operation: its own, and before it the collect of a job that may be collected. No second collect
-- fits, since the first leaves the processor without a job.
abbrev pub Operating : List ProcedureDef → OpDef → Part
Operating ps o k s [] = ⊥
Operating ps o k s (Own l ∷ es) =
    by_collect l (λ c. Collects o s c × Operating ps o k (collected c s) es) (Fits ps o s l × AfterLabel o l k (after o s l) es)
Operating ps o k s (Ran c j x S ∷ es) = HasOpen (seat s c) j × Operating ps o k (ran c x S s) es

-- A unit, one of those that are left, begins. Where none is left `spent` stands in its place, and the list is whole.
abbrev pub by_left : ℕ → Type 0 → (ℕ → Type 0) → Type 0
by_left zero none some = none
by_left (suc n) none some = some n

abbrev pub InUnit : Part → Part
InUnit part k s es = by_left s.left (Exactly say.Spent Ends s es) (λ n. part k (record s { left = n }) es)

-- an operation; a manage is a walk one level deeper
abbrev pub by_manage : OpDef → (HandlerType → Rest) → Rest → Rest
by_manage (op.Manage kind) walk other = walk kind
by_manage _ walk other = other

abbrev pub Operation : List ProcedureDef → (HandlerType → Part) → OpDef → Part
Operation ps deeper o k = by_manage o (λ kind. deeper kind k) (Operating ps o k)

abbrev pub Operations : List ProcedureDef → (HandlerType → Part) → List OpDef → Part
Operations ps deeper [] k = k
Operations ps deeper (o ∷ os) k = InUnit (Operation ps deeper o) (Operations ps deeper os k)

-- the call of a handler, its operations and its return
abbrev pub Calling : Program → (HandlerType → Part) → ℕ → Part
Calling program deeper h k =
    Exactly (say.Call h) (Operations program.procedures deeper (operations_of program h) (Exactly (say.Return h (status_of program h)) k))

-- the registration with this number, if it is live and on this list
abbrev pub is_turn : HandlerType → ℕ → Registration → Bool
is_turn kind n r = has_serial n r && is_same_list r.kind kind

abbrev pub turn_of : HandlerType → Registrations → ℕ → Option Registration
turn_of kind registrations n = find (is_turn kind n) registrations.live

abbrev pub by_turn : Option Registration → Type 0 → (ℕ → Type 0) → Type 0
by_turn None none some = none
by_turn (Some r) none some = some r.handler

abbrev pub by_test : Bool → Rest → Rest → Rest
by_test true p q = p
by_test false p q = q

-- The calls of a walk, and their statuses: for each number of the list the registration that is live and of the walk's
-- list at its turn, up to and with the one whose status stops the walk.
abbrev pub Calls : Program → (HandlerType → Part) → HandlerType → List ℕ → (List Status → Rest) → Rest
Calls program deeper kind [] k = k []
Calls program deeper kind (n ∷ turns) k = λ s es.
    by_turn (turn_of kind s.registrations n)
    (Calls program deeper kind turns k s es)
    (λ h. let S = status_of program h in
    InUnit (Calling program deeper h)
    (by_test (stops kind S) (k (S ∷ [])) (Calls program deeper kind turns (λ xs. k (S ∷ xs)))) s es)

-- the answer of a walk with these statuses
abbrev pub Answering : HandlerType → Rest → List Status → Rest
Answering kind k xs = Exactly (say.Answer (answer_of kind xs)) k

-- the numbers above this one, so many of them
abbrev pub count_up : ℕ → ℕ → List ℕ
count_up n zero = []
count_up n (suc count) = (n + 1) ∷ count_up (n + 1) count

-- A walk with so many levels left. Its turns are those of the serial numbers given by its first label. A number is given
-- once, so what is live at its turn was live at that label.
abbrev pub Walk : Program → ℕ → HandlerType → Part
Walk program zero kind k = Exactly (say.Deep kind) k
Walk program (suc n) kind k =
    Exactly (say.Manage kind) (λ s. Calls program (Walk program n) kind (count_up 0 s.registrations.last) (Answering kind k) s)

-- one walk for each entry; after the last the list is whole
abbrev pub Entries : Program → List HandlerType → Rest
Entries program [] = Ends
Entries program (kind ∷ kinds) = InUnit (Walk program 4 kind) (Entries program kinds)

-- a whole list, of a session that serves this wave with these walks
abbrev pub IsWhole : Program → ℕ → List HandlerType → Rest
IsWhole program w kinds = Exactly (say.Begin w) (Entries program kinds)

-- a list that can be made whole
abbrev pub IsPrefix : Program → ℕ → List HandlerType → Serving → List Event → Type 0
IsPrefix program w kinds s es = (more : List Event) × IsWhole program w kinds s (es ++ more)
