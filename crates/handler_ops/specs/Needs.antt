-- Whom a need names.
use Rattle.std.specs.Prelude.{ℕ, ◌≡◌, ◌<◌, ◌==◌, false}
use Rattle.handler_ops.specs.declared.need.Need.{Need}
use Rattle.handler_ops.specs.declared.need.Need.TheVariants as need

-- a processor of the platform other than the boot processor
pub record IsOther (processors me c : ℕ) : Type 0 where
  pub within : c < processors
  pub other : (c == me) ≡ false

-- a need that names a processor names such a one
abbrev pub NamesOther : ℕ → ℕ → Need → Type 0
NamesOther processors me need.Look = Unit {0}
NamesOther processors me (need.ClaimPresent c) = IsOther processors me c
NamesOther processors me (need.ClaimBusy c) = IsOther processors me c
NamesOther processors me (need.AwaitBusy c) = IsOther processors me c
NamesOther processors me (need.PutBusy c) = IsOther processors me c
NamesOther processors me (need.RaiseRun c) = IsOther processors me c
NamesOther processors me need.Finished = Unit {0}
