-- The whole walk over a document, and the platform that a file stands for.
use Rattle.std.specs.Prelude.{ℕ, List, nat_le, if◌then◌else◌, Option, Some, None, Result, Ok, Err}
use Rattle.std.specs.Str.{is_utf8}
use Rattle.toml.specs.Data.{Members}
use Rattle.toml.specs.Parse.{parse_document}
use Rattle.cpu_table.specs.Ranges.{events_at_most}
use Rattle.cpu_table.specs.declared.setup.Smram.{Smram}
use Rattle.cpu_table.specs.Data.{SetupData}
use Rattle.platform_document.specs.declared.fault.WalkFault.{WalkFault}
use Rattle.platform_document.specs.declared.fault.WalkFault.TheVariants as fault
use Rattle.platform_file.specs.declared.error.PlatformError.{PlatformError}
use Rattle.platform_file.specs.declared.error.PlatformError.TheVariants as error
use Rattle.platform_file.specs.declared.head.Head.{Head}
use Rattle.platform_document.specs.Path.{path_text, place_text, name_under}
use Rattle.platform_document.specs.Reading.{Reading, read_then}
use Rattle.platform_file.specs.Head.{head_at}
use Rattle.platform_file.specs.Area.{area_at, layout_judged}
use Rattle.platform_file.specs.Waves.{waves_at}
use Rattle.platform_file.specs.Handlers.{handlers_at, procedures_at}
use Rattle.platform_file.specs.Causes.{causes_at}

-- the most events that a schedule makes on the platform
abbrev pub most_events : Head → ℕ
most_events head = events_at_most head.processors head.polls.t1 head.polls.t2 head.visits head.ops

-- at most 4,194,304 events
abbrev pub within_limit : ℕ → Reading (Unit {0})
within_limit events = if nat_le events 4194304 then Ok tt else Err (fault.TooLarge events)

-- after all tables the limit on events, and last the layout of the processors' areas, where the file has SMRAM
abbrev pub limits_judged : Head → Option Smram → Reading (Unit {0})
limits_judged head smram = read_then (within_limit (most_events head)) (λ _. layout_judged head.processors smram)

-- the tables after the top one: the areas, the waves, the handlers, the procedures, the causes
abbrev pub tables_at : Members → Head → Reading SetupData
tables_at table head =
    read_then (area_at table) (λ smram.
    read_then (waves_at head.processors head.visits table) (λ waves.
    read_then (handlers_at table) (λ handlers.
    read_then (procedures_at table) (λ procedures.
    read_then (causes_at head.processors head.visits table) (λ causes.
    read_then (limits_judged head smram) (λ _. Ok (record {
      processors = head.processors;
      kind = head.kind;
      policy = head.policy;
      mode = head.mode;
      t1 = head.polls.t1;
      t2 = head.polls.t2;
      visits = head.visits;
      ops = head.ops;
      ids = head.ids;
      smram = smram;
      waves = waves;
      handlers = handlers;
      procedures = procedures;
      causes = causes;
    })))))))

-- the whole walk: the top table is finished first
abbrev pub setup_at : Members → Reading SetupData
setup_at table = read_then (head_at table) (tables_at table)

-- the fault as it is answered, with its key as a path
abbrev pub error_of : WalkFault → PlatformError
error_of (fault.Missing path) = error.Missing (path_text path)
error_of (fault.WrongType path) = error.WrongType (path_text path)
error_of (fault.NoTable place) = error.WrongType (place_text place)
error_of (fault.Word path) = error.Word (path_text path)
error_of (fault.Range path number) = error.Range (path_text path) number
error_of (fault.Unknown place name) = error.Unknown (name_under place name)
error_of (fault.TooLarge events) = error.TooLarge events
error_of (fault.Layout refusal) = error.Layout refusal
error_of fault.NoMemory = error.NoMemory

abbrev pub told : {A : Type 0} → Reading A → Result A PlatformError
told (Ok found) = Ok found
told (Err fault) = Err (error_of fault)

-- the document of a file: bytes that are no UTF-8 have none
abbrev pub document_of : List ℕ → Option Members
document_of bytes = if is_utf8 bytes then parse_document bytes else None

abbrev pub platform_in : Option Members → Result SetupData PlatformError
platform_in None = Err error.NotToml
platform_in (Some table) = told (setup_at table)

-- the platform that a file stands for, or why it stands for none
unfoldable pub setup_read : List ℕ → Result SetupData PlatformError
setup_read bytes = platform_in (document_of bytes)
