-- A handler's operations.
use Rattle.std.specs.Prelude.{ℕ, Bool, false, List, [], ◌∷◌, length, Option, Some, None, Ok}
use Rattle.std.specs.List.{position}
use Rattle.std.specs.Option.{option_and_then}
use Rattle.std.specs.Str.{bytes_eq}
use Rattle.toml.specs.Data.{Data, Members, get, as_str}
use Rattle.cpu_table.specs.declared.handlers.OpDef.{OpDef}
use Rattle.cpu_table.specs.declared.handlers.OpDef.TheVariants as op
use Rattle.cpu_table.specs.declared.handlers.Operand.{Operand}
use Rattle.platform_document.specs.declared.path.TablePlace.{TablePlace}
use Rattle.platform_document.specs.declared.path.TablePlace.TheVariants as place
use Rattle.platform_document.specs.declared.path.Key.{Key}
use Rattle.platform_document.specs.declared.path.Key.TheVariants as key
use Rattle.platform_document.specs.declared.word.OperationWord.{OperationWord}
use Rattle.platform_document.specs.declared.word.OperationWord.TheVariants as word
use Rattle.platform_file.specs.declared.operations.Run.{Run}
use Rattle.platform_file.specs.declared.operations.Run.TheVariants as run
use Rattle.platform_document.specs.Path.{key_text}
use Rattle.platform_document.specs.Reading.{Reading, read_then, path_to, entry_of, text_at, word_at, and_no_other}
use Rattle.platform_document.specs.Words.{operation_word}
use Rattle.platform_document.specs.CommonKeys.{cpu_at, register_at, width_at, into_at, kind_at}
use Rattle.platform_document.specs.Operands.{operand_at}

-- has the entry of the list of handlers this name? Its other keys are of no matter
abbrev pub text_is : List ℕ → Option (List ℕ) → Bool
text_is name None = false
text_is name (Some text) = bytes_eq text name

abbrev pub has_name : List ℕ → Data → Bool
has_name name entry = text_is name (option_and_then as_str (get (key_text key.Name) entry))

-- the place of the first handler of this name
abbrev pub handler_named : List Data → List ℕ → Option ℕ
handler_named handlers name = position (has_name name) handlers

abbrev pub handler_at : List Data → TablePlace → Members → Reading ℕ
handler_at handlers place table = word_at (path_to place key.Handler) (handler_named handlers) table

-- the keys of each operation, in their order
abbrev pub set_in : TablePlace → Members → Reading OpDef
set_in place table =
    read_then (into_at place table) (λ into.
    read_then (operand_at (path_to place key.Value) table) (λ value. Ok (op.Set into value)))

abbrev pub read_in : TablePlace → Members → Reading OpDef
read_in place table =
    read_then (cpu_at place table) (λ cpu.
    read_then (register_at place table) (λ reg.
    read_then (width_at place table) (λ width.
    read_then (into_at place table) (λ into. Ok (op.Read cpu reg width into)))))

abbrev pub write_in : TablePlace → Members → Reading OpDef
write_in place table =
    read_then (cpu_at place table) (λ cpu.
    read_then (register_at place table) (λ reg.
    read_then (width_at place table) (λ width.
    read_then (operand_at (path_to place key.Value) table) (λ value. Ok (op.Write cpu reg width value)))))

-- what `start` and `launch` make of the same keys
abbrev pub run_made : Run → ℕ → List ℕ → Operand → ℕ → OpDef
run_made run.Start cpu procedure arg into = op.Start cpu procedure arg into
run_made run.Launch cpu procedure arg into = op.Launch cpu procedure arg into

abbrev pub run_in : Run → TablePlace → Members → Reading OpDef
run_in which place table =
    read_then (cpu_at place table) (λ cpu.
    read_then (text_at (path_to place key.Procedure) table) (λ procedure.
    read_then (operand_at (path_to place key.Arg) table) (λ arg.
    read_then (into_at place table) (λ into. Ok (run_made which cpu procedure arg into)))))

abbrev pub start_in : TablePlace → Members → Reading OpDef
start_in place table = run_in run.Start place table

abbrev pub launch_in : TablePlace → Members → Reading OpDef
launch_in place table = run_in run.Launch place table

abbrev pub check_in : TablePlace → Members → Reading OpDef
check_in place table = read_then (operand_at (path_to place key.Token) table) (λ token. Ok (op.Check token))

abbrev pub wait_in : TablePlace → Members → Reading OpDef
wait_in place table =
    read_then (operand_at (path_to place key.Token) table) (λ token.
    read_then (into_at place table) (λ into. Ok (op.Wait token into)))

abbrev pub alloc_in : TablePlace → Members → Reading OpDef
alloc_in place table =
    read_then (operand_at (path_to place key.Size) table) (λ size.
    read_then (into_at place table) (λ into. Ok (op.Alloc size into)))

abbrev pub free_in : TablePlace → Members → Reading OpDef
free_in place table = read_then (operand_at (path_to place key.Place) table) (λ at. Ok (op.Free at))

abbrev pub register_in : List Data → TablePlace → Members → Reading OpDef
register_in handlers place table =
    read_then (handler_at handlers place table) (λ handler.
    read_then (kind_at place table) (λ kind.
    read_then (into_at place table) (λ into. Ok (op.Register handler kind into))))

abbrev pub unregister_in : TablePlace → Members → Reading OpDef
unregister_in place table = read_then (operand_at (path_to place key.Handle) table) (λ handle. Ok (op.Unregister handle))

abbrev pub manage_in : TablePlace → Members → Reading OpDef
manage_in place table = read_then (kind_at place table) (λ kind. Ok (op.Manage kind))

abbrev pub operation_by : List Data → TablePlace → Members → OperationWord → Reading OpDef
operation_by handlers place table word.Set = set_in place table
operation_by handlers place table word.Read = read_in place table
operation_by handlers place table word.Write = write_in place table
operation_by handlers place table word.Start = start_in place table
operation_by handlers place table word.Launch = launch_in place table
operation_by handlers place table word.Check = check_in place table
operation_by handlers place table word.Wait = wait_in place table
operation_by handlers place table word.Alloc = alloc_in place table
operation_by handlers place table word.Free = free_in place table
operation_by handlers place table word.Register = register_in handlers place table
operation_by handlers place table word.Unregister = unregister_in place table
operation_by handlers place table word.Manage = manage_in place table

abbrev pub operation_keys : OperationWord → List Key
operation_keys word.Set = key.Op ∷ key.Into ∷ key.Value ∷ []
operation_keys word.Read = key.Op ∷ key.Cpu ∷ key.Reg ∷ key.Width ∷ key.Into ∷ []
operation_keys word.Write = key.Op ∷ key.Cpu ∷ key.Reg ∷ key.Width ∷ key.Value ∷ []
operation_keys word.Start = key.Op ∷ key.Cpu ∷ key.Procedure ∷ key.Arg ∷ key.Into ∷ []
operation_keys word.Launch = key.Op ∷ key.Cpu ∷ key.Procedure ∷ key.Arg ∷ key.Into ∷ []
operation_keys word.Check = key.Op ∷ key.Token ∷ []
operation_keys word.Wait = key.Op ∷ key.Token ∷ key.Into ∷ []
operation_keys word.Alloc = key.Op ∷ key.Size ∷ key.Into ∷ []
operation_keys word.Free = key.Op ∷ key.Place ∷ []
operation_keys word.Register = key.Op ∷ key.Handler ∷ key.Type ∷ key.Into ∷ []
operation_keys word.Unregister = key.Op ∷ key.Handle ∷ []
operation_keys word.Manage = key.Op ∷ key.Type ∷ []

-- an operation, whose `op` says which keys it has
abbrev pub operation_as : List Data → TablePlace → Members → OperationWord → Reading OpDef
operation_as handlers place table word =
    read_then (operation_by handlers place table word) (λ operation. and_no_other place (operation_keys word) table operation)

abbrev pub operation_in : List Data → TablePlace → Members → Reading OpDef
operation_in handlers place table = read_then (word_at (path_to place key.Op) operation_word table) (operation_as handlers place table)

-- the operation of a handler after the others
abbrev pub operation_after : List Data → ℕ → List OpDef → Data → Reading OpDef
operation_after handlers handler done value =
    read_then (entry_of (place.Operation handler (length done)) value) (operation_in handlers (place.Operation handler (length done)))
