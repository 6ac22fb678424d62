-- The words of a platform file.
use Rattle.std.specs.Prelude.{ℕ, Bool, ◌&&◌, nat_le, List, length, drop, eqb, Option, Some, None, codes, if◌then◌else◌}
use Rattle.std.specs.Option.{option_map}
use Rattle.std.specs.List.{list_all, starts_with}
use Rattle.std.specs.Str.{bytes_eq}
use Rattle.std.specs.Char.{is_digit}
use Rattle.std.specs.Str.Parse.{digits_value}
use Rattle.std.specs.Int.{w128, from_be_bytes}
use Rattle.uuid.specs.Text.{parsed}
use Rattle.smm_base.specs.declared.kinds.MapKind.{MapKind}
use Rattle.smm_base.specs.declared.kinds.MapKind.TheVariants.{Ia32, Intel64}
use Rattle.smm_base.specs.declared.kinds.HandlerType.{HandlerType}
use Rattle.smm_base.specs.declared.kinds.HandlerType.TheVariants.{Root, Typed}
use Rattle.smm_base.specs.declared.status.Status.{Status}
use Rattle.smm_base.specs.declared.status.Status.TheVariants.{Success, InterruptPending, SourcePending, SourceQuiesced}
use Rattle.cpu_table.specs.declared.setup.Mode.{Mode}
use Rattle.cpu_table.specs.declared.setup.Mode.TheVariants.{Traditional, Relaxed}
use Rattle.cpu_table.specs.declared.waves.Arrival.{Arrival}
use Rattle.cpu_table.specs.declared.waves.Arrival.TheVariants.{Prompt, Delayed, Blocked, Absent}
use Rattle.cpu_table.specs.declared.handlers.Act.{Act}
use Rattle.cpu_table.specs.declared.handlers.Act.TheVariants.{Get, Put}
use Rattle.cpu_table.specs.declared.handlers.Operand.{Operand}
use Rattle.cpu_table.specs.declared.handlers.Operand.TheVariants as operand
use Rattle.platform_document.specs.declared.operand.Variable.{Variable}
use Rattle.platform_document.specs.declared.word.PolicyWord.{PolicyWord}
use Rattle.platform_document.specs.declared.word.PolicyWord.TheVariants as policy
use Rattle.platform_document.specs.declared.word.OperationWord.{OperationWord}
use Rattle.platform_document.specs.declared.word.OperationWord.TheVariants as op

abbrev pub map_of : List ℕ → Option MapKind
map_of word =
    if bytes_eq word (codes "ia32") then Some Ia32
    else if bytes_eq word (codes "intel64") then Some Intel64
    else None

abbrev pub policy_of : List ℕ → Option PolicyWord
policy_of word =
    if bytes_eq word (codes "elected") then Some policy.Elected
    else if bytes_eq word (codes "fixed") then Some policy.Fixed
    else None

abbrev pub mode_of : List ℕ → Option Mode
mode_of word =
    if bytes_eq word (codes "traditional") then Some Traditional
    else if bytes_eq word (codes "relaxed") then Some Relaxed
    else None

abbrev pub arrival_of : List ℕ → Option Arrival
arrival_of word =
    if bytes_eq word (codes "prompt") then Some Prompt
    else if bytes_eq word (codes "delayed") then Some Delayed
    else if bytes_eq word (codes "blocked") then Some Blocked
    else if bytes_eq word (codes "absent") then Some Absent
    else None

-- the statuses that a handler may answer with
abbrev pub answer_of : List ℕ → Option Status
answer_of word =
    if bytes_eq word (codes "SUCCESS") then Some Success
    else if bytes_eq word (codes "INTERRUPT_PENDING") then Some InterruptPending
    else if bytes_eq word (codes "SOURCE_PENDING") then Some SourcePending
    else if bytes_eq word (codes "SOURCE_QUIESCED") then Some SourceQuiesced
    else None

-- the list of a GUID, in one of the forms that the uuid crate reads
abbrev pub guid_of : List ℕ → Option HandlerType
guid_of word = option_map (λ bytes. Typed (from_be_bytes w128 bytes)) (parsed word)

-- the root list, or the list of a GUID
abbrev pub kind_of : List ℕ → Option HandlerType
kind_of word = if bytes_eq word (codes "root") then Some Root else guid_of word

-- the list that a handler is registered on at the start; `none` for no list
abbrev pub start_list_of : List ℕ → Option (Option HandlerType)
start_list_of word = if bytes_eq word (codes "none") then Some None else option_map Some (kind_of word)

abbrev pub act_of : List ℕ → Option Act
act_of word =
    if bytes_eq word (codes "get") then Some Get
    else if bytes_eq word (codes "put") then Some Put
    else None

abbrev pub operation_word : List ℕ → Option OperationWord
operation_word word =
    if bytes_eq word (codes "set") then Some op.Set
    else if bytes_eq word (codes "read") then Some op.Read
    else if bytes_eq word (codes "write") then Some op.Write
    else if bytes_eq word (codes "start") then Some op.Start
    else if bytes_eq word (codes "launch") then Some op.Launch
    else if bytes_eq word (codes "check") then Some op.Check
    else if bytes_eq word (codes "wait") then Some op.Wait
    else if bytes_eq word (codes "alloc") then Some op.Alloc
    else if bytes_eq word (codes "free") then Some op.Free
    else if bytes_eq word (codes "register") then Some op.Register
    else if bytes_eq word (codes "unregister") then Some op.Unregister
    else if bytes_eq word (codes "manage") then Some op.Manage
    else None

abbrev pub variable : ℕ → Variable
variable n = record { number = n }

-- one of the variables `v0` to `v7`
abbrev pub variable_of : List ℕ → Option Variable
variable_of word =
    if bytes_eq word (codes "v0") then Some (variable 0)
    else if bytes_eq word (codes "v1") then Some (variable 1)
    else if bytes_eq word (codes "v2") then Some (variable 2)
    else if bytes_eq word (codes "v3") then Some (variable 3)
    else if bytes_eq word (codes "v4") then Some (variable 4)
    else if bytes_eq word (codes "v5") then Some (variable 5)
    else if bytes_eq word (codes "v6") then Some (variable 6)
    else if bytes_eq word (codes "v7") then Some (variable 7)
    else None

-- 1 to 16 hexadecimal digits of either case
abbrev pub are_digits : List ℕ → Bool
are_digits digits = nat_le 1 (length digits) && nat_le (length digits) 16 && list_all (λ c. is_digit c 16) digits

abbrev pub number_of_digits : List ℕ → Option ℕ
number_of_digits digits = if are_digits digits then Some (digits_value 16 digits) else None

-- the number of `0x` and such digits
abbrev pub hexadecimal_of : List ℕ → Option ℕ
hexadecimal_of word = if starts_with eqb word (codes "0x") then number_of_digits (drop 2 word) else None

-- an operand as a text: a variable, or a hexadecimal number
abbrev pub operand_by : Option Variable → Option ℕ → Option Operand
operand_by (Some v) number = Some (operand.Variable v.number)
operand_by None number = option_map operand.Number number

abbrev pub operand_of : List ℕ → Option Operand
operand_of word = operand_by (variable_of word) (hexadecimal_of word)
