-- The causes of visits.
use Rattle.std.specs.Prelude.{ℕ, pos, ◌-◌, ◌==◌, ◌&&◌, Bool, true, false, IsTrue, refl, if◌then◌else◌, List, [], ◌∷◌, length, Option, Some, None, Ok, Err}
use Rattle.std.specs.List.{list_any}
use Rattle.toml.specs.Data.{Data, Members}
use Rattle.smm_base.specs.Kinds.{is_io_length, is_io_type}
use Rattle.smm_base.specs.declared.kinds.IoCause.{IoCause}
use Rattle.cpu_table.specs.declared.setup.CauseAt.{CauseAt}
use Rattle.platform_document.specs.declared.path.TablePlace.{TablePlace}
use Rattle.platform_document.specs.declared.path.TablePlace.TheVariants as place
use Rattle.platform_document.specs.declared.path.Key.{Key}
use Rattle.platform_document.specs.declared.path.Key.TheVariants as key
use Rattle.platform_document.specs.declared.path.Path.{Path}
use Rattle.platform_document.specs.declared.fault.WalkFault.TheVariants.{Range}
use Rattle.platform_document.specs.Reading.{Reading, read_then, path_to, found_at, table_of, entry_of, flag_of, number_at, each, and_no_other}
use Rattle.platform_file.specs.Head.{cause_entries}

-- a number that is one of those that there are
abbrev pub one_of : Path → (ℕ → Bool) → ℕ → Reading ℕ
one_of path is_there n = if is_there n then Ok n else Err (Range path (pos n))

-- the operand's size in bytes, and the type of the instruction
abbrev pub length_at : Path → Members → Reading ℕ
length_at path table = read_then (number_at path 0 255 table) (one_of path is_io_length)

abbrev pub type_at : Path → Members → Reading ℕ
type_at path table = read_then (number_at path 0 255 table) (one_of path is_io_type)

-- the instruction of these numbers, of which the tests are passed
abbrev pub on_true : {A : Type 0} → (b : Bool) → (IsTrue b → Option A) → Option A
on_true true pass = pass refl
on_true false pass = None

abbrev pub instruction : ℕ → ℕ → ℕ → Option IoCause
instruction port length kind =
    on_true (is_io_length length) (λ length_is_valid.
    on_true (is_io_type kind) (λ kind_is_valid. Some (record { port = port; length = length; kind = kind; length_is_valid = length_is_valid; kind_is_valid = kind_is_valid })))

abbrev pub io_keys : List Key
io_keys = key.Port ∷ key.Length ∷ key.Type ∷ []

abbrev pub instruction_in : TablePlace → Members → Reading (Option IoCause)
instruction_in place table =
    read_then (number_at (path_to place key.Port) 0 65535 table) (λ port.
    read_then (length_at (path_to place key.Length) table) (λ length.
    read_then (type_at (path_to place key.Type) table) (λ kind.
    and_no_other place io_keys table (instruction port length kind))))

-- the I/O instruction of the cause at this place, which is read where its key stands
abbrev pub io_of : ℕ → Data → Reading (Option IoCause)
io_of at value = read_then (table_of (path_to (place.Cause at) key.Io) value) (instruction_in (place.Io at))

abbrev pub io_by : ℕ → Option Data → Reading (Option IoCause)
io_by at None = Ok None
io_by at (Some value) = io_of at value

abbrev pub io_at : ℕ → Members → Reading (Option IoCause)
io_at at table = io_by at (found_at (path_to (place.Cause at) key.Io) table)

-- halted, where the key says so
abbrev pub halt_by : ℕ → Option Data → Reading Bool
halt_by at None = Ok false
halt_by at (Some value) = flag_of (path_to (place.Cause at) key.Halt) value

abbrev pub halt_at : ℕ → Members → Reading Bool
halt_at at table = halt_by at (found_at (path_to (place.Cause at) key.Halt) table)

-- a visit of the processor that no cause before has
abbrev pub is_of : ℕ → ℕ → CauseAt → Bool
is_of cpu visit x = x.cpu == cpu && x.visit == visit

abbrev pub visit_after : List CauseAt → Path → ℕ → ℕ → Reading ℕ
visit_after done path cpu visit = if list_any (is_of cpu visit) done then Err (Range path (pos visit)) else Ok visit

abbrev pub visit_at : List CauseAt → ℕ → Path → ℕ → Members → Reading ℕ
visit_at done visits path cpu table = read_then (number_at path 1 visits table) (visit_after done path cpu)

abbrev pub cause_keys : List Key
cause_keys = key.Cpu ∷ key.Visit ∷ key.Halt ∷ key.Io ∷ []

abbrev pub cause_in : ℕ → ℕ → List CauseAt → ℕ → Members → Reading CauseAt
cause_in processors visits done at table =
    read_then (number_at (path_to (place.Cause at) key.Cpu) 0 (processors - 1) table) (λ cpu.
    read_then (visit_at done visits (path_to (place.Cause at) key.Visit) cpu table) (λ visit.
    read_then (halt_at at table) (λ halt.
    read_then (io_at at table) (λ io.
    and_no_other (place.Cause at) cause_keys table (record { cpu = cpu; visit = visit; cause = record { halt = halt; io = io } })))))

abbrev pub cause_next : ℕ → ℕ → List CauseAt → ℕ → Data → Reading CauseAt
cause_next processors visits done at value = read_then (entry_of (place.Cause at) value) (cause_in processors visits done at)

abbrev pub cause_after : ℕ → ℕ → List CauseAt → Data → Reading CauseAt
cause_after processors visits done value = cause_next processors visits done (length done) value

abbrev pub causes_at : ℕ → ℕ → Members → Reading (List CauseAt)
causes_at processors visits table = read_then (cause_entries table) (each (cause_after processors visits) [])
