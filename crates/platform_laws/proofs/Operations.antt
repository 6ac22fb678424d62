-- The operations of handlers.
use Rattle.std.proofs.Common.{◌≡◌, ℕ, true, ◌&&◌, nat_lt, nat_le, List, ◌∷◌, length, Some, Ok, refl, ap, sym, subst, ◌∙◌, codes}
use Rattle.std.specs.List.{list_any}
use Rattle.std.specs.Str.{bytes_eq}
use Rattle.std.proofs.lemmas.Bool.{and_parts, and_from}
use Rattle.toml.specs.Data.{Data, string, Members}
use Rattle.smm_base.specs.Register.{is_register_number}
use Rattle.smm_base.specs.declared.kinds.HandlerType.{HandlerType}
use Rattle.cpu_table.specs.Ranges.{is_operand, is_variable, op_fits}
use Rattle.cpu_table.specs.declared.handlers.Operand.{Operand}
use Rattle.cpu_table.specs.declared.handlers.OpDef.{OpDef}
use Rattle.cpu_table.specs.declared.handlers.OpDef.TheVariants as op
use Rattle.platform_document.specs.declared.path.TablePlace.{TablePlace}
use Rattle.platform_document.specs.declared.path.TablePlace.TheVariants as place
use Rattle.platform_document.specs.declared.path.Key.TheVariants as key
use Rattle.platform_document.specs.declared.word.OperationWord.{OperationWord}
use Rattle.platform_document.specs.declared.word.OperationWord.TheVariants as word
use Rattle.platform_document.specs.Words.{operation_word}
use Rattle.platform_document.specs.Reading.{read_then, path_to, text_at, word_at, entry_of, is_known, and_no_other}
use Rattle.platform_document.specs.CommonKeys.{cpu_at, register_at, width_at, into_at, kind_at}
use Rattle.platform_file.specs.Operations.{handler_at, set_in, read_in, write_in, start_in, launch_in, check_in, wait_in, alloc_in, free_in, register_in, unregister_in, manage_in, operation_by, operation_keys, operation_as, operation_in, operation_after}
use Rattle.platform_document.specs.Operands.{operand_at}
use Rattle.platform_laws.specs.Words.{operation_text, word_of, word_text}
use Rattle.platform_laws.specs.Values.{IsTableOf}
use Rattle.platform_laws.specs.Says.{SaysParts, parts_of, SaysOperation}
use Rattle.platform_laws.specs.Fits.{names_word}
use Rattle.platform_laws.proofs.Readings.{split, joined, same_ok, text_said, text_read, word_read, entry_said, entry_read, others_said, others_read}
use Rattle.platform_laws.proofs.Words.{operation_word_said, operation_word_read}
use Rattle.platform_laws.proofs.Operands.{operand_said, operand_read}
use Rattle.platform_laws.proofs.Parts.{cpu_said, cpu_read, width_said, width_read, reg_said, reg_read, into_said, into_read, kind_at_said, kind_at_read, IsFound, handler_at_said, handler_at_read, word_is}

-- what was read under a word
record IsRead (entries : List Data) (t : Members) (w : OperationWord) (o : OpDef) : Type 0 where
  written : word_text w ≡ operation_text o
  names : (name : List ℕ) → is_known (operation_keys w) name ≡ list_any (λ known. bytes_eq known name) (codes "op" ∷ parts_of o)
  parts : SaysParts (IsFound entries) t o
  fits : op_fits (length entries) o ≡ true
  small : names_word o ≡ true

set_said : (entries : List Data) (place : TablePlace) (t : Members) (o : OpDef) → set_in place t ≡ Ok o → IsRead entries t word.Set o
set_said entries place t o is =
    let (into, into_is, rest0) = split (into_at place t) (λ into. read_then (operand_at (path_to place key.Value) t) (λ value. Ok (op.Set into value))) o is in
    let (value, value_is, rest1) = split (operand_at (path_to place key.Value) t) (λ value. Ok (op.Set into value)) o rest0 in
    let (into_said, into_fits) = into_said place t into into_is in
    let (value_said, value_fits) = operand_said (path_to place key.Value) t value value_is in
    subst (IsRead entries t word.Set) (same_ok (op.Set into value) o rest1)
    (record { written = refl; names = (λ name. refl); parts = (into_said, value_said); fits = and_from (is_variable into) (is_operand value) (into_fits) value_fits; small = refl })

set_read : (entries : List Data) (place : TablePlace) (t : Members) (into : ℕ) (value : Operand) → SaysParts (IsFound entries) t (op.Set into value) → op_fits (length entries) (op.Set into value) ≡ true → names_word (op.Set into value) ≡ true → set_in place t ≡ Ok (op.Set into value)
set_read entries place t into value says fits small =
    let (into_fits, value_fits) = and_parts (is_variable into) (is_operand value) fits in
    joined (into_at place t) (λ into. read_then (operand_at (path_to place key.Value) t) (λ value. Ok (op.Set into value))) into (op.Set into value) (into_read place t into says.0 into_fits) (joined (operand_at (path_to place key.Value) t) (λ value. Ok (op.Set into value)) value (op.Set into value) (operand_read (path_to place key.Value) t value says.1 value_fits) refl)

read_said : (entries : List Data) (place : TablePlace) (t : Members) (o : OpDef) → read_in place t ≡ Ok o → IsRead entries t word.Read o
read_said entries place t o is =
    let (cpu, cpu_is, rest0) = split (cpu_at place t) (λ cpu. read_then (register_at place t) (λ reg. read_then (width_at place t) (λ width. read_then (into_at place t) (λ into. Ok (op.Read cpu reg width into))))) o is in
    let (reg, reg_is, rest1) = split (register_at place t) (λ reg. read_then (width_at place t) (λ width. read_then (into_at place t) (λ into. Ok (op.Read cpu reg width into)))) o rest0 in
    let (width, width_is, rest2) = split (width_at place t) (λ width. read_then (into_at place t) (λ into. Ok (op.Read cpu reg width into))) o rest1 in
    let (into, into_is, rest3) = split (into_at place t) (λ into. Ok (op.Read cpu reg width into)) o rest2 in
    let (cpu_said, cpu_fits) = cpu_said place t cpu cpu_is in
    let (reg_said, reg_fits) = reg_said place t reg reg_is in
    let (width_said, width_fits) = width_said place t width width_is in
    let (into_said, into_fits) = into_said place t into into_is in
    subst (IsRead entries t word.Read) (same_ok (op.Read cpu reg width into) o rest3)
    (record { written = refl; names = (λ name. refl); parts = (cpu_said, reg_said, width_said, into_said); fits = and_from (is_register_number reg && nat_le width 24) (is_variable into) (and_from (is_register_number reg) (nat_le width 24) (reg_fits) width_fits) into_fits; small = cpu_fits })

read_read : (entries : List Data) (place : TablePlace) (t : Members) (cpu : ℕ) (reg : ℕ) (width : ℕ) (into : ℕ) → SaysParts (IsFound entries) t (op.Read cpu reg width into) → op_fits (length entries) (op.Read cpu reg width into) ≡ true → names_word (op.Read cpu reg width into) ≡ true → read_in place t ≡ Ok (op.Read cpu reg width into)
read_read entries place t cpu reg width into says fits small =
    let (first0, into_fits) = and_parts (is_register_number reg && nat_le width 24) (is_variable into) fits in
    let (reg_fits, width_fits) = and_parts (is_register_number reg) (nat_le width 24) first0 in
    joined (cpu_at place t) (λ cpu. read_then (register_at place t) (λ reg. read_then (width_at place t) (λ width. read_then (into_at place t) (λ into. Ok (op.Read cpu reg width into))))) cpu (op.Read cpu reg width into) (cpu_read place t cpu says.0 small) (joined (register_at place t) (λ reg. read_then (width_at place t) (λ width. read_then (into_at place t) (λ into. Ok (op.Read cpu reg width into)))) reg (op.Read cpu reg width into) (reg_read place t reg says.1) (joined (width_at place t) (λ width. read_then (into_at place t) (λ into. Ok (op.Read cpu reg width into))) width (op.Read cpu reg width into) (width_read place t width says.2 width_fits) (joined (into_at place t) (λ into. Ok (op.Read cpu reg width into)) into (op.Read cpu reg width into) (into_read place t into says.3 into_fits) refl)))

write_said : (entries : List Data) (place : TablePlace) (t : Members) (o : OpDef) → write_in place t ≡ Ok o → IsRead entries t word.Write o
write_said entries place t o is =
    let (cpu, cpu_is, rest0) = split (cpu_at place t) (λ cpu. read_then (register_at place t) (λ reg. read_then (width_at place t) (λ width. read_then (operand_at (path_to place key.Value) t) (λ value. Ok (op.Write cpu reg width value))))) o is in
    let (reg, reg_is, rest1) = split (register_at place t) (λ reg. read_then (width_at place t) (λ width. read_then (operand_at (path_to place key.Value) t) (λ value. Ok (op.Write cpu reg width value)))) o rest0 in
    let (width, width_is, rest2) = split (width_at place t) (λ width. read_then (operand_at (path_to place key.Value) t) (λ value. Ok (op.Write cpu reg width value))) o rest1 in
    let (value, value_is, rest3) = split (operand_at (path_to place key.Value) t) (λ value. Ok (op.Write cpu reg width value)) o rest2 in
    let (cpu_said, cpu_fits) = cpu_said place t cpu cpu_is in
    let (reg_said, reg_fits) = reg_said place t reg reg_is in
    let (width_said, width_fits) = width_said place t width width_is in
    let (value_said, value_fits) = operand_said (path_to place key.Value) t value value_is in
    subst (IsRead entries t word.Write) (same_ok (op.Write cpu reg width value) o rest3)
    (record { written = refl; names = (λ name. refl); parts = (cpu_said, reg_said, width_said, value_said); fits = and_from (is_register_number reg && nat_le width 24) (is_operand value) (and_from (is_register_number reg) (nat_le width 24) (reg_fits) width_fits) value_fits; small = cpu_fits })

write_read : (entries : List Data) (place : TablePlace) (t : Members) (cpu : ℕ) (reg : ℕ) (width : ℕ) (value : Operand) → SaysParts (IsFound entries) t (op.Write cpu reg width value) → op_fits (length entries) (op.Write cpu reg width value) ≡ true → names_word (op.Write cpu reg width value) ≡ true → write_in place t ≡ Ok (op.Write cpu reg width value)
write_read entries place t cpu reg width value says fits small =
    let (first0, value_fits) = and_parts (is_register_number reg && nat_le width 24) (is_operand value) fits in
    let (reg_fits, width_fits) = and_parts (is_register_number reg) (nat_le width 24) first0 in
    joined (cpu_at place t) (λ cpu. read_then (register_at place t) (λ reg. read_then (width_at place t) (λ width. read_then (operand_at (path_to place key.Value) t) (λ value. Ok (op.Write cpu reg width value))))) cpu (op.Write cpu reg width value) (cpu_read place t cpu says.0 small) (joined (register_at place t) (λ reg. read_then (width_at place t) (λ width. read_then (operand_at (path_to place key.Value) t) (λ value. Ok (op.Write cpu reg width value)))) reg (op.Write cpu reg width value) (reg_read place t reg says.1) (joined (width_at place t) (λ width. read_then (operand_at (path_to place key.Value) t) (λ value. Ok (op.Write cpu reg width value))) width (op.Write cpu reg width value) (width_read place t width says.2 width_fits) (joined (operand_at (path_to place key.Value) t) (λ value. Ok (op.Write cpu reg width value)) value (op.Write cpu reg width value) (operand_read (path_to place key.Value) t value says.3 value_fits) refl)))

start_said : (entries : List Data) (place : TablePlace) (t : Members) (o : OpDef) → start_in place t ≡ Ok o → IsRead entries t word.Start o
start_said entries place t o is =
    let (cpu, cpu_is, rest0) = split (cpu_at place t) (λ cpu. read_then (text_at (path_to place key.Procedure) t) (λ procedure. read_then (operand_at (path_to place key.Arg) t) (λ arg. read_then (into_at place t) (λ into. Ok (op.Start cpu procedure arg into))))) o is in
    let (procedure, procedure_is, rest1) = split (text_at (path_to place key.Procedure) t) (λ procedure. read_then (operand_at (path_to place key.Arg) t) (λ arg. read_then (into_at place t) (λ into. Ok (op.Start cpu procedure arg into)))) o rest0 in
    let (arg, arg_is, rest2) = split (operand_at (path_to place key.Arg) t) (λ arg. read_then (into_at place t) (λ into. Ok (op.Start cpu procedure arg into))) o rest1 in
    let (into, into_is, rest3) = split (into_at place t) (λ into. Ok (op.Start cpu procedure arg into)) o rest2 in
    let (cpu_said, cpu_fits) = cpu_said place t cpu cpu_is in
    let procedure_said = text_said (path_to place key.Procedure) t procedure procedure_is in
    let (arg_said, arg_fits) = operand_said (path_to place key.Arg) t arg arg_is in
    let (into_said, into_fits) = into_said place t into into_is in
    subst (IsRead entries t word.Start) (same_ok (op.Start cpu procedure arg into) o rest3)
    (record { written = refl; names = (λ name. refl); parts = (cpu_said, procedure_said, arg_said, into_said); fits = and_from (is_operand arg) (is_variable into) (arg_fits) into_fits; small = cpu_fits })

start_read : (entries : List Data) (place : TablePlace) (t : Members) (cpu : ℕ) (procedure : List ℕ) (arg : Operand) (into : ℕ) → SaysParts (IsFound entries) t (op.Start cpu procedure arg into) → op_fits (length entries) (op.Start cpu procedure arg into) ≡ true → names_word (op.Start cpu procedure arg into) ≡ true → start_in place t ≡ Ok (op.Start cpu procedure arg into)
start_read entries place t cpu procedure arg into says fits small =
    let (arg_fits, into_fits) = and_parts (is_operand arg) (is_variable into) fits in
    joined (cpu_at place t) (λ cpu. read_then (text_at (path_to place key.Procedure) t) (λ procedure. read_then (operand_at (path_to place key.Arg) t) (λ arg. read_then (into_at place t) (λ into. Ok (op.Start cpu procedure arg into))))) cpu (op.Start cpu procedure arg into) (cpu_read place t cpu says.0 small) (joined (text_at (path_to place key.Procedure) t) (λ procedure. read_then (operand_at (path_to place key.Arg) t) (λ arg. read_then (into_at place t) (λ into. Ok (op.Start cpu procedure arg into)))) procedure (op.Start cpu procedure arg into) (text_read (path_to place key.Procedure) t procedure says.1) (joined (operand_at (path_to place key.Arg) t) (λ arg. read_then (into_at place t) (λ into. Ok (op.Start cpu procedure arg into))) arg (op.Start cpu procedure arg into) (operand_read (path_to place key.Arg) t arg says.2 arg_fits) (joined (into_at place t) (λ into. Ok (op.Start cpu procedure arg into)) into (op.Start cpu procedure arg into) (into_read place t into says.3 into_fits) refl)))

launch_said : (entries : List Data) (place : TablePlace) (t : Members) (o : OpDef) → launch_in place t ≡ Ok o → IsRead entries t word.Launch o
launch_said entries place t o is =
    let (cpu, cpu_is, rest0) = split (cpu_at place t) (λ cpu. read_then (text_at (path_to place key.Procedure) t) (λ procedure. read_then (operand_at (path_to place key.Arg) t) (λ arg. read_then (into_at place t) (λ into. Ok (op.Launch cpu procedure arg into))))) o is in
    let (procedure, procedure_is, rest1) = split (text_at (path_to place key.Procedure) t) (λ procedure. read_then (operand_at (path_to place key.Arg) t) (λ arg. read_then (into_at place t) (λ into. Ok (op.Launch cpu procedure arg into)))) o rest0 in
    let (arg, arg_is, rest2) = split (operand_at (path_to place key.Arg) t) (λ arg. read_then (into_at place t) (λ into. Ok (op.Launch cpu procedure arg into))) o rest1 in
    let (into, into_is, rest3) = split (into_at place t) (λ into. Ok (op.Launch cpu procedure arg into)) o rest2 in
    let (cpu_said, cpu_fits) = cpu_said place t cpu cpu_is in
    let procedure_said = text_said (path_to place key.Procedure) t procedure procedure_is in
    let (arg_said, arg_fits) = operand_said (path_to place key.Arg) t arg arg_is in
    let (into_said, into_fits) = into_said place t into into_is in
    subst (IsRead entries t word.Launch) (same_ok (op.Launch cpu procedure arg into) o rest3)
    (record { written = refl; names = (λ name. refl); parts = (cpu_said, procedure_said, arg_said, into_said); fits = and_from (is_operand arg) (is_variable into) (arg_fits) into_fits; small = cpu_fits })

launch_read : (entries : List Data) (place : TablePlace) (t : Members) (cpu : ℕ) (procedure : List ℕ) (arg : Operand) (into : ℕ) → SaysParts (IsFound entries) t (op.Launch cpu procedure arg into) → op_fits (length entries) (op.Launch cpu procedure arg into) ≡ true → names_word (op.Launch cpu procedure arg into) ≡ true → launch_in place t ≡ Ok (op.Launch cpu procedure arg into)
launch_read entries place t cpu procedure arg into says fits small =
    let (arg_fits, into_fits) = and_parts (is_operand arg) (is_variable into) fits in
    joined (cpu_at place t) (λ cpu. read_then (text_at (path_to place key.Procedure) t) (λ procedure. read_then (operand_at (path_to place key.Arg) t) (λ arg. read_then (into_at place t) (λ into. Ok (op.Launch cpu procedure arg into))))) cpu (op.Launch cpu procedure arg into) (cpu_read place t cpu says.0 small) (joined (text_at (path_to place key.Procedure) t) (λ procedure. read_then (operand_at (path_to place key.Arg) t) (λ arg. read_then (into_at place t) (λ into. Ok (op.Launch cpu procedure arg into)))) procedure (op.Launch cpu procedure arg into) (text_read (path_to place key.Procedure) t procedure says.1) (joined (operand_at (path_to place key.Arg) t) (λ arg. read_then (into_at place t) (λ into. Ok (op.Launch cpu procedure arg into))) arg (op.Launch cpu procedure arg into) (operand_read (path_to place key.Arg) t arg says.2 arg_fits) (joined (into_at place t) (λ into. Ok (op.Launch cpu procedure arg into)) into (op.Launch cpu procedure arg into) (into_read place t into says.3 into_fits) refl)))

check_said : (entries : List Data) (place : TablePlace) (t : Members) (o : OpDef) → check_in place t ≡ Ok o → IsRead entries t word.Check o
check_said entries place t o is =
    let (token, token_is, rest0) = split (operand_at (path_to place key.Token) t) (λ token. Ok (op.Check token)) o is in
    let (token_said, token_fits) = operand_said (path_to place key.Token) t token token_is in
    subst (IsRead entries t word.Check) (same_ok (op.Check token) o rest0)
    (record { written = refl; names = (λ name. refl); parts = token_said; fits = token_fits; small = refl })

check_read : (entries : List Data) (place : TablePlace) (t : Members) (token : Operand) → SaysParts (IsFound entries) t (op.Check token) → op_fits (length entries) (op.Check token) ≡ true → names_word (op.Check token) ≡ true → check_in place t ≡ Ok (op.Check token)
check_read entries place t token says fits small =
    let token_fits = fits in
    joined (operand_at (path_to place key.Token) t) (λ token. Ok (op.Check token)) token (op.Check token) (operand_read (path_to place key.Token) t token says token_fits) refl

wait_said : (entries : List Data) (place : TablePlace) (t : Members) (o : OpDef) → wait_in place t ≡ Ok o → IsRead entries t word.Wait o
wait_said entries place t o is =
    let (token, token_is, rest0) = split (operand_at (path_to place key.Token) t) (λ token. read_then (into_at place t) (λ into. Ok (op.Wait token into))) o is in
    let (into, into_is, rest1) = split (into_at place t) (λ into. Ok (op.Wait token into)) o rest0 in
    let (token_said, token_fits) = operand_said (path_to place key.Token) t token token_is in
    let (into_said, into_fits) = into_said place t into into_is in
    subst (IsRead entries t word.Wait) (same_ok (op.Wait token into) o rest1)
    (record { written = refl; names = (λ name. refl); parts = (token_said, into_said); fits = and_from (is_operand token) (is_variable into) (token_fits) into_fits; small = refl })

wait_read : (entries : List Data) (place : TablePlace) (t : Members) (token : Operand) (into : ℕ) → SaysParts (IsFound entries) t (op.Wait token into) → op_fits (length entries) (op.Wait token into) ≡ true → names_word (op.Wait token into) ≡ true → wait_in place t ≡ Ok (op.Wait token into)
wait_read entries place t token into says fits small =
    let (token_fits, into_fits) = and_parts (is_operand token) (is_variable into) fits in
    joined (operand_at (path_to place key.Token) t) (λ token. read_then (into_at place t) (λ into. Ok (op.Wait token into))) token (op.Wait token into) (operand_read (path_to place key.Token) t token says.0 token_fits) (joined (into_at place t) (λ into. Ok (op.Wait token into)) into (op.Wait token into) (into_read place t into says.1 into_fits) refl)

alloc_said : (entries : List Data) (place : TablePlace) (t : Members) (o : OpDef) → alloc_in place t ≡ Ok o → IsRead entries t word.Alloc o
alloc_said entries place t o is =
    let (size, size_is, rest0) = split (operand_at (path_to place key.Size) t) (λ size. read_then (into_at place t) (λ into. Ok (op.Alloc size into))) o is in
    let (into, into_is, rest1) = split (into_at place t) (λ into. Ok (op.Alloc size into)) o rest0 in
    let (size_said, size_fits) = operand_said (path_to place key.Size) t size size_is in
    let (into_said, into_fits) = into_said place t into into_is in
    subst (IsRead entries t word.Alloc) (same_ok (op.Alloc size into) o rest1)
    (record { written = refl; names = (λ name. refl); parts = (size_said, into_said); fits = and_from (is_operand size) (is_variable into) (size_fits) into_fits; small = refl })

alloc_read : (entries : List Data) (place : TablePlace) (t : Members) (size : Operand) (into : ℕ) → SaysParts (IsFound entries) t (op.Alloc size into) → op_fits (length entries) (op.Alloc size into) ≡ true → names_word (op.Alloc size into) ≡ true → alloc_in place t ≡ Ok (op.Alloc size into)
alloc_read entries place t size into says fits small =
    let (size_fits, into_fits) = and_parts (is_operand size) (is_variable into) fits in
    joined (operand_at (path_to place key.Size) t) (λ size. read_then (into_at place t) (λ into. Ok (op.Alloc size into))) size (op.Alloc size into) (operand_read (path_to place key.Size) t size says.0 size_fits) (joined (into_at place t) (λ into. Ok (op.Alloc size into)) into (op.Alloc size into) (into_read place t into says.1 into_fits) refl)

free_said : (entries : List Data) (place : TablePlace) (t : Members) (o : OpDef) → free_in place t ≡ Ok o → IsRead entries t word.Free o
free_said entries place t o is =
    let (at, at_is, rest0) = split (operand_at (path_to place key.Place) t) (λ at. Ok (op.Free at)) o is in
    let (at_said, at_fits) = operand_said (path_to place key.Place) t at at_is in
    subst (IsRead entries t word.Free) (same_ok (op.Free at) o rest0)
    (record { written = refl; names = (λ name. refl); parts = at_said; fits = at_fits; small = refl })

free_read : (entries : List Data) (place : TablePlace) (t : Members) (at : Operand) → SaysParts (IsFound entries) t (op.Free at) → op_fits (length entries) (op.Free at) ≡ true → names_word (op.Free at) ≡ true → free_in place t ≡ Ok (op.Free at)
free_read entries place t at says fits small =
    let at_fits = fits in
    joined (operand_at (path_to place key.Place) t) (λ at. Ok (op.Free at)) at (op.Free at) (operand_read (path_to place key.Place) t at says at_fits) refl

register_said : (entries : List Data) (place : TablePlace) (t : Members) (o : OpDef) → register_in entries place t ≡ Ok o → IsRead entries t word.Register o
register_said entries place t o is =
    let (at, at_is, rest0) = split (handler_at entries place t) (λ at. read_then (kind_at place t) (λ kind. read_then (into_at place t) (λ into. Ok (op.Register at kind into)))) o is in
    let (kind, kind_is, rest1) = split (kind_at place t) (λ kind. read_then (into_at place t) (λ into. Ok (op.Register at kind into))) o rest0 in
    let (into, into_is, rest2) = split (into_at place t) (λ into. Ok (op.Register at kind into)) o rest1 in
    let (at_said, at_fits) = handler_at_said entries place t at at_is in
    let kind_said = kind_at_said place t kind kind_is in
    let (into_said, into_fits) = into_said place t into into_is in
    subst (IsRead entries t word.Register) (same_ok (op.Register at kind into) o rest2)
    (record { written = refl; names = (λ name. refl); parts = (at_said, kind_said, into_said); fits = and_from (nat_lt at (length entries)) (is_variable into) (at_fits) into_fits; small = refl })

register_read : (entries : List Data) (place : TablePlace) (t : Members) (at : ℕ) (kind : HandlerType) (into : ℕ) → SaysParts (IsFound entries) t (op.Register at kind into) → op_fits (length entries) (op.Register at kind into) ≡ true → names_word (op.Register at kind into) ≡ true → register_in entries place t ≡ Ok (op.Register at kind into)
register_read entries place t at kind into says fits small =
    let (at_fits, into_fits) = and_parts (nat_lt at (length entries)) (is_variable into) fits in
    joined (handler_at entries place t) (λ at. read_then (kind_at place t) (λ kind. read_then (into_at place t) (λ into. Ok (op.Register at kind into)))) at (op.Register at kind into) (handler_at_read entries place t at says.0) (joined (kind_at place t) (λ kind. read_then (into_at place t) (λ into. Ok (op.Register at kind into))) kind (op.Register at kind into) (kind_at_read place t kind says.1) (joined (into_at place t) (λ into. Ok (op.Register at kind into)) into (op.Register at kind into) (into_read place t into says.2 into_fits) refl))

unregister_said : (entries : List Data) (place : TablePlace) (t : Members) (o : OpDef) → unregister_in place t ≡ Ok o → IsRead entries t word.Unregister o
unregister_said entries place t o is =
    let (handle, handle_is, rest0) = split (operand_at (path_to place key.Handle) t) (λ handle. Ok (op.Unregister handle)) o is in
    let (handle_said, handle_fits) = operand_said (path_to place key.Handle) t handle handle_is in
    subst (IsRead entries t word.Unregister) (same_ok (op.Unregister handle) o rest0)
    (record { written = refl; names = (λ name. refl); parts = handle_said; fits = handle_fits; small = refl })

unregister_read : (entries : List Data) (place : TablePlace) (t : Members) (handle : Operand) → SaysParts (IsFound entries) t (op.Unregister handle) → op_fits (length entries) (op.Unregister handle) ≡ true → names_word (op.Unregister handle) ≡ true → unregister_in place t ≡ Ok (op.Unregister handle)
unregister_read entries place t handle says fits small =
    let handle_fits = fits in
    joined (operand_at (path_to place key.Handle) t) (λ handle. Ok (op.Unregister handle)) handle (op.Unregister handle) (operand_read (path_to place key.Handle) t handle says handle_fits) refl

manage_said : (entries : List Data) (place : TablePlace) (t : Members) (o : OpDef) → manage_in place t ≡ Ok o → IsRead entries t word.Manage o
manage_said entries place t o is =
    let (kind, kind_is, rest0) = split (kind_at place t) (λ kind. Ok (op.Manage kind)) o is in
    let kind_said = kind_at_said place t kind kind_is in
    subst (IsRead entries t word.Manage) (same_ok (op.Manage kind) o rest0)
    (record { written = refl; names = (λ name. refl); parts = kind_said; fits = refl; small = refl })

manage_read : (entries : List Data) (place : TablePlace) (t : Members) (kind : HandlerType) → SaysParts (IsFound entries) t (op.Manage kind) → op_fits (length entries) (op.Manage kind) ≡ true → names_word (op.Manage kind) ≡ true → manage_in place t ≡ Ok (op.Manage kind)
manage_read entries place t kind says fits small =
    joined (kind_at place t) (λ kind. Ok (op.Manage kind)) kind (op.Manage kind) (kind_at_read place t kind says) refl

by_said : (entries : List Data) (place : TablePlace) (t : Members) (w : OperationWord) (o : OpDef) → operation_by entries place t w ≡ Ok o → IsRead entries t w o
by_said entries place t word.Set o is = set_said entries place t o is
by_said entries place t word.Read o is = read_said entries place t o is
by_said entries place t word.Write o is = write_said entries place t o is
by_said entries place t word.Start o is = start_said entries place t o is
by_said entries place t word.Launch o is = launch_said entries place t o is
by_said entries place t word.Check o is = check_said entries place t o is
by_said entries place t word.Wait o is = wait_said entries place t o is
by_said entries place t word.Alloc o is = alloc_said entries place t o is
by_said entries place t word.Free o is = free_said entries place t o is
by_said entries place t word.Register o is = register_said entries place t o is
by_said entries place t word.Unregister o is = unregister_said entries place t o is
by_said entries place t word.Manage o is = manage_said entries place t o is

by_read : (entries : List Data) (place : TablePlace) (t : Members) (o : OpDef) → SaysParts (IsFound entries) t o → op_fits (length entries) o ≡ true → names_word o ≡ true → operation_by entries place t (word_of o) ≡ Ok o
by_read entries place t (op.Set into value) says fits small = set_read entries place t into value says fits small
by_read entries place t (op.Read cpu reg width into) says fits small = read_read entries place t cpu reg width into says fits small
by_read entries place t (op.Write cpu reg width value) says fits small = write_read entries place t cpu reg width value says fits small
by_read entries place t (op.Start cpu procedure arg into) says fits small = start_read entries place t cpu procedure arg into says fits small
by_read entries place t (op.Launch cpu procedure arg into) says fits small = launch_read entries place t cpu procedure arg into says fits small
by_read entries place t (op.Check token) says fits small = check_read entries place t token says fits small
by_read entries place t (op.Wait token into) says fits small = wait_read entries place t token into says fits small
by_read entries place t (op.Alloc size into) says fits small = alloc_read entries place t size into says fits small
by_read entries place t (op.Free at) says fits small = free_read entries place t at says fits small
by_read entries place t (op.Register at kind into) says fits small = register_read entries place t at kind into says fits small
by_read entries place t (op.Unregister handle) says fits small = unregister_read entries place t handle says fits small
by_read entries place t (op.Manage kind) says fits small = manage_read entries place t kind says fits small

word_written : (o : OpDef) → word_text (word_of o) ≡ operation_text o
word_written (op.Set into value) = refl
word_written (op.Read cpu reg width into) = refl
word_written (op.Write cpu reg width value) = refl
word_written (op.Start cpu procedure arg into) = refl
word_written (op.Launch cpu procedure arg into) = refl
word_written (op.Check token) = refl
word_written (op.Wait token into) = refl
word_written (op.Alloc size into) = refl
word_written (op.Free at) = refl
word_written (op.Register at kind into) = refl
word_written (op.Unregister handle) = refl
word_written (op.Manage kind) = refl

names_known : (o : OpDef) (name : List ℕ) → is_known (operation_keys (word_of o)) name ≡ list_any (λ known. bytes_eq known name) (codes "op" ∷ parts_of o)
names_known (op.Set into value) name = refl
names_known (op.Read cpu reg width into) name = refl
names_known (op.Write cpu reg width value) name = refl
names_known (op.Start cpu procedure arg into) name = refl
names_known (op.Launch cpu procedure arg into) name = refl
names_known (op.Check token) name = refl
names_known (op.Wait token into) name = refl
names_known (op.Alloc size into) name = refl
names_known (op.Free at) name = refl
names_known (op.Register at kind into) name = refl
names_known (op.Unregister handle) name = refl
names_known (op.Manage kind) name = refl

-- an operation fits among so many handlers
abbrev pub OperationFits : ℕ → OpDef → Type 0
OperationFits n o = (op_fits n o ≡ true) × (names_word o ≡ true)

operation_said : (entries : List Data) (place : TablePlace) (t : Members) (o : OpDef) → operation_in entries place t ≡ Ok o → SaysOperation (IsFound entries) t o × OperationFits (length entries) o
operation_said entries place t o is =
    let (w, there, rest) = split (word_at (path_to place key.Op) operation_word t) (operation_as entries place t) o is in
    let (found, parts_are, last) = split (operation_by entries place t w) (λ x. and_no_other place (operation_keys w) t x) o rest in
    let read = by_said entries place t w found parts_are in
    let (same, others) = others_said place (operation_keys w) (codes "op" ∷ parts_of found) read.names t found o last in
    let says = word_is (path_to place key.Op) operation_word t w (operation_text found) (λ text e. operation_word_said text w e ∙ read.written) there in
    subst (λ x. SaysOperation (IsFound entries) t x × OperationFits (length entries) x) same
    (record { word = says; parts = read.parts; only = others }, (read.fits, read.small))

operation_read : (entries : List Data) (place : TablePlace) (t : Members) (o : OpDef) → SaysOperation (IsFound entries) t o → OperationFits (length entries) o → operation_in entries place t ≡ Ok o
operation_read entries place t o says fits =
    joined (word_at (path_to place key.Op) operation_word t) (operation_as entries place t) (word_of o) o
    (word_read (path_to place key.Op) operation_word t (word_of o) (word_text (word_of o)) (says.word ∙ ap (λ s. Some (string s)) (sym (word_written o))) (operation_word_read (word_of o)))
    (joined (operation_by entries place t (word_of o)) (λ x. and_no_other place (operation_keys (word_of o)) t x) o o (by_read entries place t o says.parts fits.0 fits.1)
    (others_read place (operation_keys (word_of o)) (codes "op" ∷ parts_of o) (names_known o) t o says.only))

-- an entry of a handler's operations
pub entry_operation_said : (entries : List Data) (handler : ℕ) (done : List OpDef) (v : Data) (o : OpDef) → operation_after entries handler done v ≡ Ok o →
    IsTableOf (λ t. SaysOperation (IsFound entries) t o) v × OperationFits (length entries) o
entry_operation_said entries handler done v o is =
    let (t, there, rest) = split (entry_of (place.Operation handler (length done)) v) (operation_in entries (place.Operation handler (length done))) o is in
    let (says, fits) = operation_said entries (place.Operation handler (length done)) t o rest in
    ((t, entry_said (place.Operation handler (length done)) v t there, says), fits)

pub entry_operation_read : (entries : List Data) (handler : ℕ) (done : List OpDef) (v : Data) (o : OpDef) → IsTableOf (λ t. SaysOperation (IsFound entries) t o) v → OperationFits (length entries) o →
    operation_after entries handler done v ≡ Ok o
entry_operation_read entries handler done v o (t, there, says) fits =
    joined (entry_of (place.Operation handler (length done)) v) (operation_in entries (place.Operation handler (length done))) t o
    (entry_read (place.Operation handler (length done)) v t there) (operation_read entries (place.Operation handler (length done)) t o says fits)
