-- What stays while serving goes on, and which start is refused.
use Rattle.std.specs.Prelude.{ℕ, Bool, not, ◌&&◌, ◌==◌, nat_lt, nat_le, if◌then◌else◌, List, Option, Some, None, is_none}
use Rattle.sync_words.specs.declared.label.StartRefusal.{StartRefusal}
use Rattle.sync_words.specs.declared.label.StartRefusal.TheVariants as cause
use Rattle.serving_place.specs.Serving.{Serving, tokens_out}
use Rattle.serving_place.specs.Forms.{Program}

-- What stays while serving goes on: the handlers and procedures of the file, the processors' ids, how many processors
-- there are, and which of them is the boot processor.
pub record Setting : Type 0 where
  pub program : Program
  pub ids : List ℕ
  pub processors : ℕ
  pub me : ℕ

-- The start rule. The first of four causes refuses.
abbrev pub first_cause : Setting → Serving → Bool → ℕ → Option ℕ → Option StartRefusal
first_cause t s with_token c place =
    if not (nat_lt c t.processors) then Some cause.OutOfRange
    else (if c == t.me then Some cause.BootProcessor
    else (if is_none place then Some cause.UnknownProcedure
    else (if with_token && nat_le 64 (tokens_out s) then Some cause.Tokens else None)))
