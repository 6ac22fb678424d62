-- The handlers and the procedures.
use Rattle.std.specs.Prelude.{ℕ, Bool, ◌&&◌, not, if◌then◌else◌, List, [], ◌∷◌, length, Ok, Err}
use Rattle.std.specs.List.{list_any}
use Rattle.toml.specs.Data.{Data, Members}
use Rattle.cpu_table.specs.Ranges.{is_name, same_text}
use Rattle.cpu_table.specs.declared.handlers.OpDef.{OpDef}
use Rattle.cpu_table.specs.declared.handlers.HandlerDef.{HandlerDef}
use Rattle.cpu_table.specs.declared.handlers.ProcedureDef.{ProcedureDef}
use Rattle.platform_document.specs.declared.path.TablePlace.{TablePlace}
use Rattle.platform_document.specs.declared.path.TablePlace.TheVariants as place
use Rattle.platform_document.specs.declared.path.Key.{Key}
use Rattle.platform_document.specs.declared.path.Key.TheVariants as key
use Rattle.platform_document.specs.declared.path.Path.{Path}
use Rattle.platform_document.specs.declared.fault.WalkFault.TheVariants.{Word}
use Rattle.platform_document.specs.Reading.{Reading, read_then, path_to, entry_of, list_at, text_at, word_at, each, and_no_other}
use Rattle.platform_document.specs.CommonKeys.{register_at}
use Rattle.platform_document.specs.Words.{start_list_of, answer_of, act_of}
use Rattle.platform_file.specs.Operations.{operation_after}
use Rattle.platform_file.specs.Head.{handler_entries, procedure_entries}

-- a name of 1 to 32 bytes that none before has
abbrev pub name_unless : Bool → Path → List ℕ → Reading (List ℕ)
name_unless is_taken path name = if is_name name && not is_taken then Ok name else Err (Word path)

abbrev pub name_at : (List ℕ → Bool) → Path → Members → Reading (List ℕ)
name_at is_taken path table = read_then (text_at path table) (λ name. name_unless (is_taken name) path name)

-- has a handler, or a procedure, before this name?
abbrev pub has_handler : List HandlerDef → List ℕ → Bool
has_handler done name = list_any (λ x. same_text x.name name) done

abbrev pub has_procedure : List ProcedureDef → List ℕ → Bool
has_procedure done name = list_any (λ x. same_text x.name name) done

-- at most 64 operations, each read where it stands
abbrev pub operations_at : List Data → ℕ → Members → Reading (List OpDef)
operations_at handlers handler table =
    read_then (list_at (path_to (place.Handler handler) key.Ops) 0 64 table) (each (operation_after handlers handler) [])

abbrev pub handler_keys : List Key
handler_keys = key.Name ∷ key.Type ∷ key.Answer ∷ key.Ops ∷ []

-- the handler at this place; the list of all entries tells the names that an operation may use
abbrev pub handler_in : List Data → List HandlerDef → ℕ → Members → Reading HandlerDef
handler_in handlers done at table =
    read_then (name_at (has_handler done) (path_to (place.Handler at) key.Name) table) (λ name.
    read_then (word_at (path_to (place.Handler at) key.Type) start_list_of table) (λ kind.
    read_then (word_at (path_to (place.Handler at) key.Answer) answer_of table) (λ answer.
    read_then (operations_at handlers at table) (λ ops.
    and_no_other (place.Handler at) handler_keys table (record { name = name; kind = kind; answer = answer; ops = ops })))))

abbrev pub handler_after : List Data → List HandlerDef → Data → Reading HandlerDef
handler_after handlers done value =
    read_then (entry_of (place.Handler (length done)) value) (handler_in handlers done (length done))

abbrev pub handlers_in : List Data → Reading (List HandlerDef)
handlers_in handlers = each (handler_after handlers) [] handlers

abbrev pub handlers_at : Members → Reading (List HandlerDef)
handlers_at table = read_then (handler_entries table) handlers_in

abbrev pub procedure_keys : List Key
procedure_keys = key.Name ∷ key.Act ∷ key.Reg ∷ []

abbrev pub procedure_in : List ProcedureDef → TablePlace → Members → Reading ProcedureDef
procedure_in done place table =
    read_then (name_at (has_procedure done) (path_to place key.Name) table) (λ name.
    read_then (word_at (path_to place key.Act) act_of table) (λ act.
    read_then (register_at place table) (λ reg.
    and_no_other place procedure_keys table (record { name = name; act = act; reg = reg }))))

abbrev pub procedure_after : List ProcedureDef → Data → Reading ProcedureDef
procedure_after done value = read_then (entry_of (place.Procedure (length done)) value) (procedure_in done (place.Procedure (length done)))

abbrev pub procedures_at : Members → Reading (List ProcedureDef)
procedures_at table = read_then (procedure_entries table) (each procedure_after [])
