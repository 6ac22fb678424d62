-- The value that a read shows has 64 bits, whatever the image.
use Rattle.std.proofs.Common.{◌≡◌, ℕ, zero, suc, ◌+◌, ◌<◌, ◌≤◌, ◌^◌, ◌∙◌, Bool, true, false, List, [], ◌∷◌, ◌++◌, length, get_or, take, replicate, Option, Some, None, refl, arith}
use Rattle.std.specs.Prelude.{◌/◌, ◌%◌, ◌==◌, ◌&&◌, not, nat_lt, is_none, if◌then◌else◌, option_map, unwrap_or}
use Rattle.std.specs.Int.{byte_at, bytes_low_first}
use Rattle.byteorder.specs.Endian.{little_bytes}
use Rattle.byteorder.specs.Numbers.{little_from-lt}
use Rattle.smm_base.specs.declared.status.Status.{Status}
use Rattle.smm_base.specs.declared.status.Status.TheVariants.{Success, InvalidParameter, NotFound}
use Rattle.smm_base.specs.declared.registers.Register.TheVariants as registers
use Rattle.smm_base.specs.Register.{register_number}
use Rattle.save_state_map.specs.declared.field.Field.TheVariants.{Efer}
use Rattle.save_state_map.specs.declared.field.Place.{Place}
use Rattle.save_state_map.specs.Fields.{field_place}
use Rattle.save_state_map.specs.Images.{ImageContents, number_at}
use Rattle.save_state_access.specs.declared.io.IoInfo.{IoInfo}
use Rattle.save_state_access.specs.declared.table.Parts.{Parts}
use Rattle.save_state_access.specs.declared.table.Parts.TheVariants.{Missing, One, Pair}
use Rattle.save_state_access.specs.IoInfo.{io_told, io_bytes, number_in}
use Rattle.save_state_access.specs.Reading.{ReadAnswer, read_answer, register_at, register_bytes, field_bytes, halves, lma_byte, bytes_at, width_at}
use Rattle.save_state_access.specs.Table.{parts_numbered}
use Rattle.save_state_access.proofs.LowBytes.{IsBytes, append_bytes}
use Rattle.cpu_table.specs.declared.handlers.Act.{Act}
use Rattle.cpu_table.specs.declared.handlers.Act.TheVariants.{Get, Put}
use Rattle.cpu_table.specs.declared.handlers.ProcedureDef.{ProcedureDef}
use Rattle.handler_ops.specs.declared.desk.Job.{Job}
use Rattle.handler_ops.specs.Course.{value_on, shown_value}
use Rattle.handler_ops.specs.Procedures.{act_on, procedure_on, job_on}
use Rattle.std.specs.Prelude.{slice_get}

byte_few : (i y : ℕ) → byte_at i y < 256
byte_few zero y = omega arith
byte_few (suc i) y = omega arith

from_bytes : (n i y k : ℕ) → get_or (bytes_low_first i n y) k 0 < 256
from_bytes zero i y k = omega arith
from_bytes (suc n) i y zero = byte_few i y
from_bytes (suc n) i y (suc k) = from_bytes n (suc i) y k

number_bytes : (n y : ℕ) → IsBytes (little_bytes n y)
number_bytes n y k = from_bytes n 0 y k

no_bytes : IsBytes []
no_bytes k = omega arith

one_byte : (b : ℕ) → b < 256 → IsBytes (b ∷ [])
one_byte b h zero = h
one_byte b h (suc i) = omega arith

zeros : (n i : ℕ) → get_or (replicate n 0) i 0 < 256
zeros zero i = omega arith
zeros (suc n) zero = omega arith
zeros (suc n) (suc i) = zeros n i

taken_bytes : (n : ℕ) (xs : List ℕ) → IsBytes xs → IsBytes (take n xs)
taken_bytes zero xs h i = omega arith
taken_bytes (suc n) [] h i = omega arith
taken_bytes (suc n) (x ∷ xs) h zero = h 0
taken_bytes (suc n) (x ∷ xs) h (suc i) = taken_bytes n xs (λ k. h (suc k)) i

-- what is shown has 64 bits
pub record Shows (a : ReadAnswer) : Type 0 where
  pub value : shown_value a < 2 ^ 64

of_bytes : (xs : List ℕ) → IsBytes xs → Shows (record { status = Success; out = xs })
of_bytes xs h = record { value = little_from-lt 0 8 xs h }

one : (b : Bool) (x y : ReadAnswer) → Shows x → Shows y → Shows (if b then x else y)
one true x y h k = h
one false x y h k = k

io_shown : (io : IoInfo) → IsBytes (io_bytes io)
io_shown io =
    let four : List ℕ = 0 ∷ 0 ∷ 0 ∷ 0 ∷ [] in
    let kind : List ℕ = little_bytes 4 io.kind ++ four in
    let width : List ℕ = little_bytes 4 io.width ++ kind in
    let two : List ℕ = 0 ∷ 0 ∷ [] in
    let gap : List ℕ = two ++ width in
    append_bytes (little_bytes 8 io.value) (little_bytes 2 io.port ++ gap) (number_bytes 8 io.value)
    (append_bytes (little_bytes 2 io.port) gap (number_bytes 2 io.port)
    (append_bytes two width (zeros 2)
    (append_bytes (little_bytes 4 io.width) kind (number_bytes 4 io.width)
    (append_bytes (little_bytes 4 io.kind) four (number_bytes 4 io.kind) (zeros 4)))))

io_some : (o : Option IoInfo) → IsBytes (unwrap_or (option_map io_bytes o) [])
io_some None = no_bytes
io_some (Some io) = io_shown io

lma_some : (b : Bool) → (if b then 64 else 32) < 256
lma_some true = omega arith
lma_some false = omega arith

lma_few : (m : ImageContents) → lma_byte m < 256
lma_few m = lma_some (number_in m Efer / 2 ^ 10 % 2 == 1)

-- the bytes of what may be told
bytes_in : Option (ℕ × List ℕ) → List ℕ
bytes_in o = (unwrap_or {T = ℕ × List ℕ} o (0, [])).1

placed : (o : Option Place) (bytes : List ℕ) → Option (ℕ × List ℕ)
placed o bytes = option_map (λ (place : Place). (place.width, little_bytes 8 (number_at place bytes))) o

field_some : (o : Option Place) (bytes : List ℕ) → IsBytes (bytes_in (placed o bytes))
unfolding bytes_in placed
field_some None bytes = no_bytes
field_some (Some place) bytes = number_bytes 8 (number_at place bytes)

halves_some : (low high : Option (ℕ × List ℕ)) → IsBytes (bytes_in low) → IsBytes (bytes_in high) → IsBytes (bytes_in (halves low high))
unfolding bytes_in
halves_some None None h k = no_bytes
halves_some None (Some y) h k = no_bytes
halves_some (Some x) None h k = no_bytes
halves_some (Some x) (Some y) h k = append_bytes (take 4 x.1) (take 4 y.1) (taken_bytes 4 x.1 h) (taken_bytes 4 y.1 k)

parts_some : (m : ImageContents) (parts : Parts) → IsBytes (bytes_in (register_bytes m parts))
unfolding bytes_in placed
parts_some m Missing = no_bytes
parts_some m (One field) = field_some (field_place m.kind field) m.bytes
parts_some m (Pair low high) = halves_some (field_bytes m low) (field_bytes m high) (field_some (field_place m.kind low) m.bytes) (field_some (field_place m.kind high) m.bytes)

given : List ℕ → ReadAnswer
given xs = record { status = Success; out = xs }

refused : (S : Status) (out : List ℕ) → (value_on S out ≡ 0) → Shows (record { status = S; out = out })
refused S out e = record { value = rw e (omega arith) }

pub read_shows : (m : ImageContents) (present : Bool) (id number : ℕ) (out : List ℕ) → Shows (read_answer m present id number out)
unfolding bytes_in given
read_shows m present id number out =
    let width : ℕ = length out in
    let is_id : Bool = number == register_number registers.ProcessorId in
    let is_lma : Bool = number == register_number registers.Lma in
    let is_io : Bool = number == register_number registers.Io in
    let invalid : ReadAnswer = record { status = InvalidParameter; out = out } in
    let missing : ReadAnswer = record { status = NotFound; out = out } in
    let bad : Shows invalid = refused InvalidParameter out refl in
    let none : Shows missing = refused NotFound out refl in
    let told : List ℕ = unwrap_or (option_map io_bytes (io_told m)) [] in
    let own : List ℕ = take width (bytes_at m number) in
    one (width == 0) invalid _ bad
    (one (is_id && not present) missing _ none
    (one (is_id && not (width == 8)) invalid _ bad
    (one is_id (given (little_bytes 8 id)) _ (of_bytes (little_bytes 8 id) (number_bytes 8 id))
    (one (not present) invalid _ bad
    (one (is_lma && not (width == 1)) invalid _ bad
    (one is_lma (given (lma_byte m ∷ [])) _ (of_bytes (lma_byte m ∷ []) (one_byte (lma_byte m) (lma_few m)))
    (one (is_io && not (width == 24)) invalid _ bad
    (one (is_io && is_none (io_told m)) missing _ none
    (one is_io (given told) _ (of_bytes told (io_some (io_told m)))
    (one (is_none (register_at m number)) missing _ none
    (one (nat_lt (width_at m number) width) invalid (given own) bad
    (of_bytes own (taken_bytes width (bytes_at m number) (parts_some m (parts_numbered number)))))))))))))))

act_fits : (act : Act) (reg arg : ℕ) (m : ImageContents) → (act_on act reg arg m).answer.0 < 2 ^ 64
act_fits Get reg arg m = (read_shows m true 0 reg _).value
act_fits Put reg arg m = omega arith

procedure_fits : (o : Option ProcedureDef) (arg : ℕ) (m : ImageContents) → (procedure_on o arg m).answer.0 < 2 ^ 64
procedure_fits None arg m = omega arith
procedure_fits (Some p) arg m = act_fits p.act p.reg arg m

-- the result of a job
pub job_fits : (procedures : List ProcedureDef) (job : Job) (m : ImageContents) → (job_on procedures job m).answer.0 < 2 ^ 64
job_fits procedures job m = procedure_fits (slice_get procedures job.procedure) job.arg m
