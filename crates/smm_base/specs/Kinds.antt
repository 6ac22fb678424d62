-- What the fields of an I/O cause may be, and how types and ways to go on are printed.
use Rattle.std.specs.Prelude.{ℕ, Bool, List, Option, ◌==◌, ◌||◌, codes, find}
use Rattle.std.specs.Int.{w128, to_be_bytes}
use Rattle.std.specs.Str.{bytes_eq}
use Rattle.uuid.specs.Text.{hyphenated_text, lower}
use Rattle.smm_base.specs.declared.kinds.TheConstants.{WAYS_ON}
use Rattle.smm_base.specs.declared.kinds.After.{After}
use Rattle.smm_base.specs.declared.kinds.After.TheVariants.{Halt, Next, Retry}
use Rattle.smm_base.specs.declared.kinds.HandlerType.{HandlerType}
use Rattle.smm_base.specs.declared.kinds.HandlerType.TheVariants.{Root, Typed}

-- an operand of one, two or four bytes
abbrev pub is_io_length : ℕ → Bool
is_io_length n = n == 1 || n == 2 || n == 4

-- OUT DX, IN DX, OUTS, INS, REP OUTS, REP INS, OUT immediate, IN immediate (Intel SDM Volume 3, I/O state field)
abbrev pub is_io_type : ℕ → Bool
is_io_type n = n == 0 || n == 1 || n == 2 || n == 3 || n == 6 || n == 7 || n == 8 || n == 9

-- how a processor goes on
abbrev pub after_text : After → List ℕ
after_text Halt = codes "halt"
after_text Next = codes "next"
after_text Retry = codes "retry"

-- the way to go on with this printed name, where there is one
abbrev pub after_named : List ℕ → Option After
after_named text = find (λ after. bytes_eq (after_text after) text) WAYS_ON

-- a GUID's hexadecimal digits in lower case, in groups of 8, 4, 4, 4 and 12 with hyphens between (RFC 9562)
abbrev pub guid_text : ℕ → List ℕ
guid_text guid = hyphenated_text lower (to_be_bytes w128 guid)

-- which list of handlers
abbrev pub type_text : HandlerType → List ℕ
type_text Root = codes "root"
type_text (Typed guid) = guid_text guid
