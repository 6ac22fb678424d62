-- What a processor did when the interrupt of one of its visits came.
use Rattle.std.specs.Prelude.{ℕ, ◌==◌, ◌&&◌, Bool, false, List, Option, Some, None}
use Rattle.std.specs.List.{find}
use Rattle.smm_base.specs.declared.kinds.Cause.{Cause}
use Rattle.cpu_table.specs.declared.setup.CauseAt.{CauseAt}

-- the interrupt came at no HLT and at no I/O instruction
abbrev pub no_cause : Cause
no_cause = record { halt = false; io = None }

abbrev pub is_of_visit : ℕ → ℕ → CauseAt → Bool
is_of_visit cpu visit entry = entry.cpu == cpu && entry.visit == visit

abbrev pub cause_in : Option CauseAt → Cause
cause_in None = no_cause
cause_in (Some entry) = entry.cause

-- the cause of a processor's visit, the visits counted from 1, is that of the first entry for it; without one there is none
abbrev pub cause_of : List CauseAt → ℕ → ℕ → Cause
cause_of causes cpu visit = cause_in (find (is_of_visit cpu visit) causes)
