-- Keys that several tables have.
use Rattle.std.specs.Prelude.{ℕ, Ok}
use Rattle.toml.specs.Data.{Members}
use Rattle.smm_base.specs.Register.{register_named, register_number}
use Rattle.smm_base.specs.declared.kinds.HandlerType.{HandlerType}
use Rattle.platform_document.specs.declared.path.TablePlace.{TablePlace}
use Rattle.platform_document.specs.declared.path.Key.TheVariants as key
use Rattle.platform_document.specs.Reading.{Reading, read_then, path_to, number_at, word_at}
use Rattle.platform_document.specs.Words.{kind_of, variable_of}

-- the processor of an operation
abbrev pub cpu_at : TablePlace → Members → Reading ℕ
cpu_at place table = number_at (path_to place key.Cpu) 0 65535 table

-- the register of an operation or a procedure, as its number
abbrev pub register_at : TablePlace → Members → Reading ℕ
register_at place table = read_then (word_at (path_to place key.Reg) register_named table) (λ register. Ok (register_number register))

-- a width in bytes
abbrev pub width_at : TablePlace → Members → Reading ℕ
width_at place table = number_at (path_to place key.Width) 0 24 table

-- the variable that an operation writes
abbrev pub into_at : TablePlace → Members → Reading ℕ
into_at place table = read_then (word_at (path_to place key.Into) variable_of table) (λ variable. Ok variable.number)

-- the list of handlers that an operation works on
abbrev pub kind_at : TablePlace → Members → Reading HandlerType
kind_at place table = word_at (path_to place key.Type) kind_of table
