-- How an event is spelled. The spelling is the project's own.
use Rattle.std.specs.Prelude.{ℕ, ◌==◌, List, [], ◌∷◌, ◌++◌, Option, if◌then◌else◌, codes, decimal, find}
use Rattle.std.specs.List.{flat_map}
use Rattle.std.specs.Str.{bytes_eq}
use Rattle.smm_base.specs.Status.{status_text}
use Rattle.smm_base.specs.Register.{register_text}
use Rattle.smm_base.specs.Kinds.{type_text, after_text}
use Rattle.sync_words.specs.declared.access.Access.{Access}
use Rattle.sync_words.specs.declared.access.Access.TheVariants.{Look, Put, Up, Down, Lower, Lock, Claim, Await, Seek, Signal, TakeSmi, ClearSmi, Raise}
use Rattle.sync_words.specs.declared.event.Event.{Event}
use Rattle.sync_words.specs.declared.label.Label.{Label}
use Rattle.sync_words.specs.declared.label.Label.TheVariants.{Silent, Excepted, Wave, Enter, Turn, Arrive, Late, Elect, Served, Gather, Ready, Expire, Quit, Report, Close, Begin, Manage, Deep, Call, Return, Answer, Set, Read, Write, Check, Wait, Alloc, Free, Register, Unregister, Refuse, Start, Run, Collect, Spent, Done, Release, Depart, End, Resume, Off}
use Rattle.sync_words.specs.declared.label.TheConstants.{CAUSES}
use Rattle.sync_words.specs.declared.label.StartRefusal.{StartRefusal}
use Rattle.sync_words.specs.declared.label.StartRefusal.TheVariants.{OutOfRange, BootProcessor, UnknownProcedure, Tokens, Busy, Absent}
use Rattle.sync_words.specs.declared.word.WordId.{WordId}
use Rattle.sync_words.specs.declared.word.WordId.TheVariants.{Counter, Bsp, Inside, Insync, Source, Except, Pend, Present, Run as RunWord, Busy as BusyWord}

-- the code of a space
abbrev pub space : ℕ
space = 32

-- the code of a colon
abbrev pub colon : ℕ
colon = 58

-- the code of a line end
abbrev pub line_end : ℕ
line_end = 10

-- a text, and further texts with a separator before each
abbrev pub joined : ℕ → List ℕ → List (List ℕ) → List ℕ
joined separator first rest = first ++ flat_map (λ text. separator ∷ text) rest

-- a word and its arguments, with colons between
abbrev pub with_arguments : List ℕ → List (List ℕ) → List ℕ
with_arguments word arguments = joined colon word arguments

-- who acted: a processor by its number, the chipset as the actor whose number is that of the processors
abbrev pub actor_text : ℕ → ℕ → List ℕ
actor_text processors actor = if actor == processors then codes "chip" else codes "p" ++ decimal actor

-- which word: its name, with the processor's number behind where there is one for each
abbrev pub word_text : WordId → List ℕ
word_text Counter = codes "counter"
word_text Bsp = codes "bsp"
word_text Inside = codes "inside"
word_text Insync = codes "insync"
word_text Source = codes "source"
word_text Except = codes "except"
word_text (Pend cpu) = codes "pend" ++ decimal cpu
word_text (Present cpu) = codes "present" ++ decimal cpu
word_text (RunWord cpu) = codes "run" ++ decimal cpu
word_text (BusyWord cpu) = codes "busy" ++ decimal cpu

-- what was done to the word, with its numbers
abbrev pub access_text : Access → List ℕ
access_text Look = with_arguments (codes "look") []
access_text (Put new) = with_arguments (codes "put") (decimal new ∷ [])
access_text Up = with_arguments (codes "up") []
access_text Down = with_arguments (codes "down") []
access_text Lower = with_arguments (codes "lower") []
access_text Lock = with_arguments (codes "lock") []
access_text (Claim from new) = with_arguments (codes "claim") (decimal from ∷ decimal new ∷ [])
access_text (Await from new) = with_arguments (codes "await") (decimal from ∷ decimal new ∷ [])
access_text (Seek below) = with_arguments (codes "seek") (decimal below ∷ [])
access_text Signal = with_arguments (codes "signal") []
access_text TakeSmi = with_arguments (codes "take") []
access_text ClearSmi = with_arguments (codes "clear") []
access_text (Raise signal) = with_arguments (codes "raise") (decimal signal ∷ [])

-- why a procedure wasn't started
abbrev pub cause_text : StartRefusal → List ℕ
cause_text OutOfRange = codes "range"
cause_text BootProcessor = codes "self"
cause_text UnknownProcedure = codes "unknown"
cause_text Tokens = codes "tokens"
cause_text Busy = codes "busy"
cause_text Absent = codes "absent"

-- the cause with this word, where there is one
abbrev pub cause_named : List ℕ → Option StartRefusal
cause_named text = find (λ cause. bytes_eq (cause_text cause) text) CAUSES

-- what the event says: a word with its numbers and names, and `-` for nothing
abbrev pub label_text : Label → List ℕ
label_text Silent = with_arguments (codes "-") []
label_text (Excepted count) = with_arguments (codes "excepted") (decimal count ∷ [])
label_text (Wave wave) = with_arguments (codes "wave") (decimal wave ∷ [])
label_text Enter = with_arguments (codes "enter") []
label_text Turn = with_arguments (codes "turn") []
label_text Arrive = with_arguments (codes "arrive") []
label_text Late = with_arguments (codes "late") []
label_text Elect = with_arguments (codes "elect") []
label_text (Served wave) = with_arguments (codes "served") (decimal wave ∷ [])
label_text (Gather count) = with_arguments (codes "gather") (decimal count ∷ [])
label_text (Ready count) = with_arguments (codes "ready") (decimal count ∷ [])
label_text (Expire round) = with_arguments (codes "expire") (decimal round ∷ [])
label_text Quit = with_arguments (codes "quit") []
label_text Report = with_arguments (codes "report") []
label_text (Close count) = with_arguments (codes "close") (decimal count ∷ [])
label_text (Begin wave) = with_arguments (codes "begin") (decimal wave ∷ [])
label_text (Manage kind) = with_arguments (codes "manage") (type_text kind ∷ [])
label_text (Deep kind) = with_arguments (codes "deep") (type_text kind ∷ [])
label_text (Call handler) = with_arguments (codes "call") (decimal handler ∷ [])
label_text (Return handler status) = with_arguments (codes "return") (decimal handler ∷ status_text status ∷ [])
label_text (Answer status) = with_arguments (codes "answer") (status_text status ∷ [])
label_text (Set variable value) = with_arguments (codes "set") (decimal variable ∷ decimal value ∷ [])
label_text (Read cpu register width value status) = with_arguments (codes "read") (decimal cpu ∷ register_text register ∷ decimal width ∷ decimal value ∷ status_text status ∷ [])
label_text (Write cpu register width value status) = with_arguments (codes "write") (decimal cpu ∷ register_text register ∷ decimal width ∷ decimal value ∷ status_text status ∷ [])
label_text (Check job status) = with_arguments (codes "check") (decimal job ∷ status_text status ∷ [])
label_text (Wait job value status) = with_arguments (codes "wait") (decimal job ∷ decimal value ∷ status_text status ∷ [])
label_text (Alloc size place status) = with_arguments (codes "alloc") (decimal size ∷ decimal place ∷ status_text status ∷ [])
label_text (Free place status) = with_arguments (codes "free") (decimal place ∷ status_text status ∷ [])
label_text (Register handler serial status) = with_arguments (codes "register") (decimal handler ∷ decimal serial ∷ status_text status ∷ [])
label_text (Unregister handle status) = with_arguments (codes "unregister") (decimal handle ∷ status_text status ∷ [])
label_text (Refuse cpu cause) = with_arguments (codes "refuse") (decimal cpu ∷ cause_text cause ∷ [])
label_text (Start cpu job procedure arg) = with_arguments (codes "start") (decimal cpu ∷ decimal job ∷ decimal procedure ∷ decimal arg ∷ [])
label_text (Run job value status) = with_arguments (codes "run") (decimal job ∷ decimal value ∷ status_text status ∷ [])
label_text (Collect cpu) = with_arguments (codes "collect") (decimal cpu ∷ [])
label_text Spent = with_arguments (codes "spent") []
label_text Done = with_arguments (codes "done") []
label_text (Release cpu) = with_arguments (codes "release") (decimal cpu ∷ [])
label_text Depart = with_arguments (codes "depart") []
label_text End = with_arguments (codes "end") []
label_text (Resume after) = with_arguments (codes "resume") (after_text after ∷ [])
label_text Off = with_arguments (codes "off") []

-- an event, where there are so many processors: actor, word, access, the number found and the label, with spaces between
abbrev pub event_text : ℕ → Event → List ℕ
event_text processors event =
    joined space (actor_text processors event.actor) (word_text event.word ∷ access_text event.access ∷ decimal event.found ∷ label_text event.label ∷ [])

-- its line
abbrev pub event_line : ℕ → Event → List ℕ
event_line processors event = event_text processors event ++ line_end ∷ []
