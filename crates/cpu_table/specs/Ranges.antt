-- The range of each part of a platform.
use Rattle.std.specs.Prelude.{ℕ, ◌+◌, ◌*◌, Bool, true, false, ◌&&◌, ◌||◌, ◌==◌, nat_lt, nat_le, List, length, Option, Some, None}
use Rattle.std.specs.List.{list_all}
use Rattle.std.specs.Str.{bytes_eq}
use Rattle.smm_base.specs.Register.{is_register_number}
use Rattle.smm_base.specs.declared.kinds.Policy.{Policy}
use Rattle.smm_base.specs.declared.kinds.Policy.TheVariants.{Elected, Fixed}
use Rattle.smm_base.specs.declared.status.Status.{Status}
use Rattle.smm_base.specs.declared.status.Status.TheVariants as status
use Rattle.cpu_table.specs.Distinct.{are_distinct}
use Rattle.cpu_table.specs.declared.handlers.Operand.{Operand}
use Rattle.cpu_table.specs.declared.handlers.Operand.TheVariants.{Number, Variable}
use Rattle.cpu_table.specs.declared.handlers.OpDef.{OpDef}
use Rattle.cpu_table.specs.declared.handlers.OpDef.TheVariants as op
use Rattle.cpu_table.specs.declared.handlers.HandlerDef.{HandlerDef}
use Rattle.cpu_table.specs.declared.handlers.ProcedureDef.{ProcedureDef}
use Rattle.cpu_table.specs.declared.setup.CauseAt.{CauseAt}
use Rattle.cpu_table.specs.declared.setup.Smram.{Smram}
use Rattle.cpu_table.specs.declared.waves.Wave.{Wave}

-- the number is from the first to the last
abbrev pub is_between : ℕ → ℕ → ℕ → Bool
is_between first last n = nat_le first n && nat_le n last

-- the most events that any schedule makes: each actor's visits, each with its looks, its turns and its units of serving
abbrev pub events_at_most : ℕ → ℕ → ℕ → ℕ → ℕ → ℕ
events_at_most processors t1 t2 visits ops = visits * (40 + t1 + t2 + 10 * processors + 5 * ops) * (processors + 1)

-- a fixed boot processor is one of the platform's
abbrev pub policy_fits : ℕ → Policy → Bool
policy_fits processors Elected = true
policy_fits processors (Fixed b) = nat_lt b processors

-- the area is not empty, not above 8 MiB, and ends by 4 GiB; the distance and the code's size are numbers of a file
abbrev pub area_fits : Smram → Bool
area_fits area = is_between 1 8388608 area.size && nat_le (area.base + area.size) 4294967296 && nat_lt area.tile 9223372036854775808 && nat_lt area.code 9223372036854775808

-- where there is an area it has its range
abbrev pub smram_fits : Option Smram → Bool
smram_fits None = true
smram_fits (Some area) = area_fits area

-- a wave has a status for each processor, and at most 16 walks
abbrev pub wave_fits : ℕ → Wave → Bool
wave_fits processors wave = length wave.status == processors && nat_le (length wave.manage) 16

-- there is a wave, and none that no visit can answer
abbrev pub waves_fit : ℕ → ℕ → List Wave → Bool
waves_fit processors visits waves = is_between 1 visits (length waves) && list_all (wave_fits processors) waves

-- a name has 1 to 32 bytes
abbrev pub is_name : List ℕ → Bool
is_name name = is_between 1 32 (length name)

-- two texts have the same bytes
abbrev pub same_text : List ℕ → List ℕ → Bool
same_text a b = bytes_eq a b

-- there are eight variables
abbrev pub is_variable : ℕ → Bool
is_variable v = nat_lt v 8

-- an operand is any number, or a variable that there is
abbrev pub is_operand : Operand → Bool
is_operand (Number n) = true
is_operand (Variable v) = is_variable v

-- an operation's register, width, variables and handler are ones that there are, in a file with this many handlers
abbrev pub op_fits : ℕ → OpDef → Bool
op_fits handlers (op.Set into value) = is_variable into && is_operand value
op_fits handlers (op.Read cpu reg width into) = is_register_number reg && nat_le width 24 && is_variable into
op_fits handlers (op.Write cpu reg width value) = is_register_number reg && nat_le width 24 && is_operand value
op_fits handlers (op.Start cpu procedure arg into) = is_operand arg && is_variable into
op_fits handlers (op.Launch cpu procedure arg into) = is_operand arg && is_variable into
op_fits handlers (op.Check token) = is_operand token
op_fits handlers (op.Wait token into) = is_operand token && is_variable into
op_fits handlers (op.Alloc size into) = is_operand size && is_variable into
op_fits handlers (op.Free place) = is_operand place
op_fits handlers (op.Register handler kind into) = nat_lt handler handlers && is_variable into
op_fits handlers (op.Unregister handle) = is_operand handle
op_fits handlers (op.Manage kind) = true

-- a handler answers with one of these four
abbrev pub is_answer : Status → Bool
is_answer status.Success = true
is_answer status.InterruptPending = true
is_answer status.SourcePending = true
is_answer status.SourceQuiesced = true
is_answer _ = false

-- a handler's name, answer and operations have their ranges, in a file with this many handlers
abbrev pub handler_fits : ℕ → HandlerDef → Bool
handler_fits handlers handler = is_name handler.name && is_answer handler.answer && nat_le (length handler.ops) 64 && list_all (op_fits handlers) handler.ops

-- at most 64 handlers, each in range, no two of one name
abbrev pub handlers_fit : List HandlerDef → Bool
handlers_fit handlers = nat_le (length handlers) 64 && list_all (handler_fits (length handlers)) handlers && are_distinct (λ a b. same_text a.name b.name) handlers

-- a procedure's name and register have their ranges
abbrev pub procedure_fits : ProcedureDef → Bool
procedure_fits procedure = is_name procedure.name && is_register_number procedure.reg

-- at most 64 procedures, each in range, no two of one name
abbrev pub procedures_fit : List ProcedureDef → Bool
procedures_fit procedures = nat_le (length procedures) 64 && list_all procedure_fits procedures && are_distinct (λ a b. same_text a.name b.name) procedures

-- a cause is that of a processor and a visit that there are
abbrev pub cause_fits : ℕ → ℕ → CauseAt → Bool
cause_fits processors visits cause = nat_lt cause.cpu processors && is_between 1 visits cause.visit

-- two causes are of one processor's one visit
abbrev pub same_visit : CauseAt → CauseAt → Bool
same_visit a b = a.cpu == b.cpu && a.visit == b.visit

-- at most 4,096 causes, each in range, no two of one visit
abbrev pub causes_fit : ℕ → ℕ → List CauseAt → Bool
causes_fit processors visits causes = nat_le (length causes) 4096 && list_all (cause_fits processors visits) causes && are_distinct same_visit causes
