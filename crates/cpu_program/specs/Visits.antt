-- The causes of a processor's visits.
use Rattle.std.specs.Prelude.{ℕ, ◌-◌, ◌==◌, ◌&&◌, nat_le, if◌then◌else◌, List, length, map, slice_set}
use Rattle.std.specs.List.{range_with_len}
use Rattle.smm_base.specs.declared.kinds.Cause.{Cause}
use Rattle.cpu_table.specs.declared.setup.CauseAt.{CauseAt}
use Rattle.cpu_table.specs.Causes.{cause_of}

-- the cause of each visit of a processor, in their order
unfoldable pub causes_of : List CauseAt → ℕ → ℕ → List Cause
causes_of entries me visits = map (cause_of entries me) (range_with_len 1 visits)

-- the causes, with that of an entry for one of the processor's visits
abbrev pub kept : ℕ → CauseAt → List Cause → List Cause
kept me entry causes =
    if entry.cpu == me && nat_le 1 entry.visit && nat_le entry.visit (length causes) then slice_set causes (entry.visit - 1) entry.cause else causes
