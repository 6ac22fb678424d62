-- How a line is read: at its spaces it parts into actor, word, access, number and label, and those at colons.
use Rattle.std.specs.Prelude.{ℕ, ◌+◌, ◌^◌, ◌==◌, nat_lt, nat_le, Bool, true, false, not, ◌&&◌, List, [], ◌∷◌, length, take, drop, eqb, codes, Option, None, Some, if◌then◌else◌}
use Rattle.std.specs.Char.{is_ascii_digit}
use Rattle.std.specs.Int.{w128, from_be_bytes}
use Rattle.std.specs.List.{list_all, starts_with}
use Rattle.std.specs.Option.{option_map, option_and_then, option_or}
use Rattle.std.specs.Str.{bytes_eq}
use Rattle.std.specs.Str.Parse.{digits_value}
use Rattle.uuid.specs.Text.{parsed}
use Rattle.smm_base.specs.Kinds.{guid_text, after_named}
use Rattle.smm_base.specs.Register.{register_named}
use Rattle.smm_base.specs.Status.{status_named}
use Rattle.smm_base.specs.declared.kinds.HandlerType.{HandlerType}
use Rattle.smm_base.specs.declared.kinds.HandlerType.TheVariants.{Root, Typed}
use Rattle.sync_words.specs.declared.access.Access.{Access}
use Rattle.sync_words.specs.declared.access.Access.TheVariants.{Look, Put, Up, Down, Lower, Lock, Claim, Await, Seek, Signal, TakeSmi, ClearSmi, Raise}
use Rattle.sync_words.specs.declared.access.TheConstants.{LOCKED}
use Rattle.sync_words.specs.declared.event.Event.{Event}
use Rattle.sync_words.specs.declared.label.Label.{Label}
use Rattle.sync_words.specs.declared.label.Label.TheVariants.{Silent, Excepted, Wave, Enter, Turn, Arrive, Late, Elect, Served, Gather, Ready, Expire, Quit, Report, Close, Begin, Manage, Deep, Call, Return, Answer, Set, Read, Write, Check, Wait, Alloc, Free, Register, Unregister, Refuse, Start, Run, Collect, Spent, Done, Release, Depart, End, Resume, Off}
use Rattle.sync_words.specs.declared.word.WordId.{WordId}
use Rattle.sync_words.specs.declared.word.WordId.TheVariants.{Counter, Bsp, Inside, Insync, Source, Except, Pend, Present, Run as RunWord, Busy as BusyWord}
use Rattle.sync_words.specs.Texts.{colon, space, line_end, cause_named}

-- what is read, where it passes a test
abbrev pub tested : {A : Type 0} → (A → Bool) → Option A → Option A
tested test None = None
tested test (Some a) = if test a then Some a else None

-- what stands before and behind the first such byte, where there is one
abbrev pub split_first : ℕ → List ℕ → Option (List ℕ × List ℕ)
split_first separator [] = None
split_first separator (byte ∷ bytes) =
    if byte == separator then Some ([], bytes)
    else option_map (λ parts. (byte ∷ parts.0, parts.1)) (split_first separator bytes)

-- two parts with the separator between
abbrev pub pair_in : {A B : Type 0} → (List ℕ → Option A) → (List ℕ → Option B) → Option (List ℕ × List ℕ) → Option (A × B)
pair_in first second parts = option_and_then (λ texts. option_and_then (λ a. option_map (λ b. (a, b)) (second texts.1)) (first texts.0)) parts

abbrev pub pair_at : {A B : Type 0} → ℕ → (List ℕ → Option A) → (List ℕ → Option B) → List ℕ → Option (A × B)
pair_at separator first second text = pair_in first second (split_first separator text)

-- a first digit 0 with more after it
abbrev pub has_leading_zero : List ℕ → Bool
has_leading_zero [] = false
has_leading_zero (first ∷ more) = (first == 48) && nat_lt 0 (length more)

-- decimal digits without a leading zero
abbrev pub is_numeral : List ℕ → Bool
is_numeral text = nat_lt 0 (length text) && list_all is_ascii_digit text && not (has_leading_zero text)

-- a number of 64 bits
unfoldable pub number_of : List ℕ → Option ℕ
number_of text = if is_numeral text && nat_lt (digits_value 10 text) (2 ^ 64) then Some (digits_value 10 text) else None

-- a smaller one
abbrev pub number_below : ℕ → List ℕ → Option ℕ
number_below limit text = tested (λ number. nat_lt number limit) (number_of text)

-- a text is that of a GUID of 128 bits
abbrev pub spells_guid : List ℕ → ℕ → Bool
spells_guid text guid = nat_lt guid (2 ^ 128) && bytes_eq (guid_text guid) text

-- a GUID as it is printed
unfoldable pub guid_of : List ℕ → Option ℕ
guid_of text = tested (spells_guid text) (option_map (from_be_bytes w128) (parsed text))

-- the root list, or the list of a GUID
abbrev pub kind_of : List ℕ → Option HandlerType
kind_of text = if bytes_eq text (codes "root") then Some Root else option_map Typed (guid_of text)

-- a number behind a name
abbrev pub number_after : List ℕ → List ℕ → Option ℕ
number_after name text = if starts_with eqb text name then number_below (2 ^ 16) (drop (length name) text) else None

-- who acted
abbrev pub actor_of : ℕ → List ℕ → Option ℕ
actor_of n text =
    if bytes_eq text (codes "chip") then Some n
    else tested (λ number. nat_lt number n) (number_after (codes "p") text)

-- a word of a processor
abbrev pub processor_word : List ℕ → Option WordId
processor_word text =
    option_or (option_map Pend (number_after (codes "pend") text))
    (option_or (option_map Present (number_after (codes "present") text))
    (option_or (option_map RunWord (number_after (codes "run") text))
    (option_map BusyWord (number_after (codes "busy") text))))

-- a word
abbrev pub word_of : List ℕ → Option WordId
word_of text =
    if bytes_eq text (codes "counter") then Some Counter
    else if bytes_eq text (codes "bsp") then Some Bsp
    else if bytes_eq text (codes "inside") then Some Inside
    else if bytes_eq text (codes "insync") then Some Insync
    else if bytes_eq text (codes "source") then Some Source
    else if bytes_eq text (codes "except") then Some Except
    else processor_word text

-- an access without numbers
abbrev pub bare_access : List ℕ → Option Access
bare_access text =
    if bytes_eq text (codes "look") then Some Look
    else if bytes_eq text (codes "up") then Some Up
    else if bytes_eq text (codes "down") then Some Down
    else if bytes_eq text (codes "lower") then Some Lower
    else if bytes_eq text (codes "lock") then Some Lock
    else if bytes_eq text (codes "signal") then Some Signal
    else if bytes_eq text (codes "take") then Some TakeSmi
    else if bytes_eq text (codes "clear") then Some ClearSmi
    else None

-- a number of 16, and of 32 bits
abbrev pub small : List ℕ → Option ℕ
small = number_below (2 ^ 16)

abbrev pub middle : List ℕ → Option ℕ
middle = number_below (2 ^ 32)

abbrev pub wide : List ℕ → Option ℕ
wide = number_of

-- an access with numbers
abbrev pub numbered_access : List ℕ → List ℕ → Option Access
numbered_access word numbers =
    if bytes_eq word (codes "put") then option_map Put (middle numbers)
    else if bytes_eq word (codes "claim") then option_map (λ pair. Claim pair.0 pair.1) (pair_at colon middle middle numbers)
    else if bytes_eq word (codes "await") then option_map (λ pair. Await pair.0 pair.1) (pair_at colon middle middle numbers)
    else if bytes_eq word (codes "seek") then option_map Seek (middle numbers)
    else if bytes_eq word (codes "raise") then option_map Raise (middle numbers)
    else None

abbrev pub access_by : List ℕ → Option (List ℕ × List ℕ) → Option Access
access_by text None = bare_access text
access_by text (Some parts) = numbered_access parts.0 parts.1

-- an access
abbrev pub access_of : List ℕ → Option Access
access_of text = access_by text (split_first colon text)

-- a label without fields
abbrev pub bare_label : List ℕ → Option Label
bare_label text =
    if bytes_eq text (codes "-") then Some Silent
    else if bytes_eq text (codes "enter") then Some Enter
    else if bytes_eq text (codes "turn") then Some Turn
    else if bytes_eq text (codes "arrive") then Some Arrive
    else if bytes_eq text (codes "late") then Some Late
    else if bytes_eq text (codes "elect") then Some Elect
    else if bytes_eq text (codes "quit") then Some Quit
    else if bytes_eq text (codes "report") then Some Report
    else if bytes_eq text (codes "spent") then Some Spent
    else if bytes_eq text (codes "done") then Some Done
    else if bytes_eq text (codes "depart") then Some Depart
    else if bytes_eq text (codes "end") then Some End
    else if bytes_eq text (codes "off") then Some Off
    else None

-- a round of waiting
abbrev pub round_of : List ℕ → Option ℕ
round_of text = tested (λ round. nat_le 1 round && nat_le round 2) (middle text)

-- the number of a variable
abbrev pub variable_of : List ℕ → Option ℕ
variable_of text = tested (λ variable. nat_le variable 7) (number_below (2 ^ 8) text)

-- a variable that is set
abbrev pub set_of : List ℕ → Option Label
set_of fields = option_map (λ fields. Set fields.0 fields.1) (pair_at colon variable_of wide fields)

-- a register that is read
abbrev pub read_of : List ℕ → Option Label
read_of fields = option_map (λ fields. Read fields.0 fields.1.0 fields.1.1.0 fields.1.1.1.0 fields.1.1.1.1) (pair_at colon small (pair_at colon register_named (pair_at colon middle (pair_at colon wide status_named))) fields)

-- a register that is written
abbrev pub write_of : List ℕ → Option Label
write_of fields = option_map (λ fields. Write fields.0 fields.1.0 fields.1.1.0 fields.1.1.1.0 fields.1.1.1.1) (pair_at colon small (pair_at colon register_named (pair_at colon middle (pair_at colon wide status_named))) fields)

-- a block that is asked for
abbrev pub alloc_of : List ℕ → Option Label
alloc_of fields = option_map (λ fields. Alloc fields.0 fields.1.0 fields.1.1) (pair_at colon wide (pair_at colon wide status_named) fields)

-- a block that is given back
abbrev pub free_of : List ℕ → Option Label
free_of fields = option_map (λ fields. Free fields.0 fields.1) (pair_at colon wide status_named fields)

-- a handler that is registered
abbrev pub register_of : List ℕ → Option Label
register_of fields = option_map (λ fields. Register fields.0 fields.1.0 fields.1.1) (pair_at colon small (pair_at colon middle status_named) fields)

-- a registration that is ended
abbrev pub unregister_of : List ℕ → Option Label
unregister_of fields = option_map (λ fields. Unregister fields.0 fields.1) (pair_at colon wide status_named fields)

-- a job that is asked for
abbrev pub check_of : List ℕ → Option Label
check_of fields = option_map (λ fields. Check fields.0 fields.1) (pair_at colon wide status_named fields)

-- a job that is waited for
abbrev pub wait_of : List ℕ → Option Label
wait_of fields = option_map (λ fields. Wait fields.0 fields.1.0 fields.1.1) (pair_at colon wide (pair_at colon wide status_named) fields)

-- a start that is refused
abbrev pub refuse_of : List ℕ → Option Label
refuse_of fields = option_map (λ fields. Refuse fields.0 fields.1) (pair_at colon small cause_named fields)

-- a job that is given to a processor
abbrev pub start_of : List ℕ → Option Label
start_of fields = option_map (λ fields. Start fields.0 fields.1.0 fields.1.1.0 fields.1.1.1) (pair_at colon small (pair_at colon middle (pair_at colon small wide)) fields)

-- a job that is run
abbrev pub run_of : List ℕ → Option Label
run_of fields = option_map (λ fields. Run fields.0 fields.1.0 fields.1.1) (pair_at colon middle (pair_at colon wide status_named) fields)

-- a handler's answer
abbrev pub return_of : List ℕ → Option Label
return_of fields = option_map (λ fields. Return fields.0 fields.1) (pair_at colon small status_named fields)

-- a label of a service that a handler calls
abbrev pub service_label : List ℕ → List ℕ → Option Label
service_label word fields =
    if bytes_eq word (codes "set") then set_of fields
    else if bytes_eq word (codes "read") then read_of fields
    else if bytes_eq word (codes "write") then write_of fields
    else if bytes_eq word (codes "alloc") then alloc_of fields
    else if bytes_eq word (codes "free") then free_of fields
    else if bytes_eq word (codes "register") then register_of fields
    else if bytes_eq word (codes "unregister") then unregister_of fields
    else None

-- a label of a procedure, or of a service
abbrev pub procedure_label : List ℕ → List ℕ → Option Label
procedure_label word fields =
    if bytes_eq word (codes "check") then check_of fields
    else if bytes_eq word (codes "wait") then wait_of fields
    else if bytes_eq word (codes "refuse") then refuse_of fields
    else if bytes_eq word (codes "start") then start_of fields
    else if bytes_eq word (codes "run") then run_of fields
    else if bytes_eq word (codes "collect") then option_map Collect (small fields)
    else service_label word fields

-- a label of a walk over handlers, or one that serving has beside
abbrev pub walk_label : List ℕ → List ℕ → Option Label
walk_label word fields =
    if bytes_eq word (codes "begin") then option_map Begin (middle fields)
    else if bytes_eq word (codes "manage") then option_map Manage (kind_of fields)
    else if bytes_eq word (codes "deep") then option_map Deep (kind_of fields)
    else if bytes_eq word (codes "call") then option_map Call (small fields)
    else if bytes_eq word (codes "return") then return_of fields
    else if bytes_eq word (codes "answer") then option_map Answer (status_named fields)
    else procedure_label word fields

-- a label of a session, or of its serving
abbrev pub session_label : List ℕ → List ℕ → Option Label
session_label word fields =
    if bytes_eq word (codes "excepted") then option_map Excepted (middle fields)
    else if bytes_eq word (codes "wave") then option_map Wave (middle fields)
    else if bytes_eq word (codes "served") then option_map Served (middle fields)
    else if bytes_eq word (codes "gather") then option_map Gather (middle fields)
    else if bytes_eq word (codes "ready") then option_map Ready (middle fields)
    else if bytes_eq word (codes "expire") then option_map Expire (round_of fields)
    else if bytes_eq word (codes "close") then option_map Close (middle fields)
    else if bytes_eq word (codes "release") then option_map Release (small fields)
    else if bytes_eq word (codes "resume") then option_map Resume (after_named fields)
    else walk_label word fields

abbrev pub label_by : List ℕ → Option (List ℕ × List ℕ) → Option Label
label_by text None = bare_label text
label_by text (Some parts) = session_label parts.0 parts.1

-- a label
abbrev pub label_of : List ℕ → Option Label
label_of text = label_by text (split_first colon text)

-- what follows the actor, and what follows the word
abbrev pub after_access : List ℕ → Option (ℕ × Label)
after_access = pair_at space middle label_of

abbrev pub after_word : List ℕ → Option (Access × (ℕ × Label))
after_word = pair_at space access_of after_access

abbrev pub after_actor : List ℕ → Option (WordId × (Access × (ℕ × Label)))
after_actor = pair_at space word_of after_word

-- there is such a word where there are n processors
abbrev pub is_word : ℕ → WordId → Bool
is_word n (Pend cpu) = nat_lt cpu n
is_word n (Present cpu) = nat_lt cpu n
is_word n (RunWord cpu) = nat_lt cpu n
is_word n (BusyWord cpu) = nat_lt cpu n
is_word n _ = true

-- the numbers of the access are at most this one
abbrev pub has_up_to : ℕ → Access → Bool
has_up_to most (Put new) = nat_le new most
has_up_to most (Claim from new) = nat_le from most && nat_le new most
has_up_to most (Await from new) = nat_le from most && nat_le new most
has_up_to most (Seek below) = nat_le below most
has_up_to most (Raise signal) = nat_le signal most
has_up_to most _ = true

-- the event of its parts
abbrev pub event_with : ℕ × (WordId × (Access × (ℕ × Label))) → Event
event_with parts = record { actor = parts.0; word = parts.1.0; access = parts.1.1.0; found = parts.1.1.1.0; label = parts.1.1.1.1 }

-- where there are n processors, the event's word is there, and the numbers are those of a word
abbrev pub is_within : ℕ → Event → Bool
is_within n event = is_word n event.word && has_up_to LOCKED event.access && nat_le event.found LOCKED

-- an event, where there are n processors
abbrev pub event_of : ℕ → List ℕ → Option Event
event_of n text = tested (is_within n) (option_map event_with (pair_at space (actor_of n) after_actor text))

-- the line that starts at a place, without its line end, which stands behind fewer than `room` bytes
abbrev pub line_at : ℕ → List ℕ → ℕ → Option (List ℕ)
line_at room bytes at = option_map (λ parts. parts.0) (split_first line_end (take room (drop at bytes)))

-- the event whose line starts at a place, and the place behind its line end
abbrev pub reading : ℕ → List ℕ → ℕ → Option (Event × ℕ)
reading n bytes at = option_and_then (λ line. option_map (λ event. (event, at + length line + 1)) (event_of n line)) (line_at 128 bytes at)
