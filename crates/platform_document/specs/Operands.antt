-- An operand of an operation: an integer from 0, or a text.
use Rattle.std.specs.Prelude.{ℕ, ℤ, List, Option, Some, None, Ok, Err, ok_or}
use Rattle.toml.specs.Data.{Data, Members, as_str, as_integer}
use Rattle.cpu_table.specs.declared.handlers.Operand.{Operand}
use Rattle.cpu_table.specs.declared.handlers.Operand.TheVariants.{Number}
use Rattle.platform_document.specs.declared.path.Path.{Path}
use Rattle.platform_document.specs.declared.fault.WalkFault.TheVariants.{WrongType, Word}
use Rattle.platform_document.specs.Reading.{Reading, read_then, required, greatest, number_within}
use Rattle.platform_document.specs.Words.{operand_of}

-- an operand as an integer from 0
abbrev pub operand_number : Path → ℤ → Reading Operand
operand_number path number = read_then (number_within path 0 greatest number) (λ n. Ok (Number n))

-- an operand as a text, if it is one
abbrev pub operand_text : Path → Option (List ℕ) → Reading Operand
operand_text path None = Err (WrongType path)
operand_text path (Some text) = ok_or (operand_of text) (Word path)

abbrev pub operand_by : Path → Option ℤ → Option (List ℕ) → Reading Operand
operand_by path (Some number) text = operand_number path number
operand_by path None text = operand_text path text

abbrev pub operand_value : Path → Data → Reading Operand
operand_value path value = operand_by path (as_integer value) (as_str value)

abbrev pub operand_at : Path → Members → Reading Operand
operand_at path table = read_then (required path table) (operand_value path)
