-- The gathering wants what is within bounds, and stays within bounds.
use Rattle.std.proofs.Common.{ℕ, ◌≡◌, ◌+◌, ◌==◌, Bool, true, false, if◌then◌else◌, Option, Some, None, refl, arith}
use Rattle.std.specs.Prelude.{IfSome}
use Rattle.sync_words.specs.declared.row.Row.{Row}
use Rattle.sync_words.specs.declared.row.Row.TheVariants.{LookAtExcept, GatherFirst, FindMissing, SignalMissing, GatherSecond, MarkInsync}
use Rattle.sync_words.specs.Steps.{IsWantWithin, row_or, next_below}
use Rattle.arrival.specs.Rounds.{is_last_look}
use Rattle.arrival.specs.Gather.{GatherPosition, IsGather, IsGatherRow, IsOther, go, want_of, have_come, is_other, to_missing, looked, taken}
use Rattle.arrival.proofs.SearchLemmas.{other_found, more_looks}

wants_at : (row : Row) (g : GatherPosition) → IsGatherRow row g → IsWantWithin g.processors (want_of row g)
wants_at LookAtExcept g at_row = (tt, tt)
wants_at (GatherFirst looks) g at_row = (tt, tt)
wants_at (FindMissing j) g at_row = (at_row.0, tt)
wants_at (SignalMissing j) g at_row = (at_row.0, tt)
wants_at (GatherSecond looks) g at_row = (tt, tt)
wants_at _ g at_row = tt

pub wants_within : (g : GatherPosition) → IsGather g → IsWantWithin g.processors (want_of g.row g)
wants_within g within = wants_at g.row g within.at_row

-- a row's bounds are those of what the position keeps
kept : (row : Row) (g : GatherPosition) (next : Row) → IsGatherRow row g → IsGatherRow row (go g next)
kept LookAtExcept g next at_row = tt
kept (GatherFirst looks) g next at_row = at_row
kept (FindMissing j) g next at_row = at_row
kept (SignalMissing j) g next at_row = at_row
kept (GatherSecond looks) g next at_row = at_row
kept _ g next at_row = tt

moved : (g : GatherPosition) (row : Row) → IsGather g → IsGatherRow row g → IsGather (go g row)
moved g row within at_row =
    record { one_of_them = within.one_of_them; few = within.few; first = within.first; second = within.second; at_row = kept row g row at_row }

missing_at : (o : Option ℕ) (g : GatherPosition) → IsGather g → IfSome o (IsOther g) → IsGatherRow (row_or FindMissing (GatherSecond 0) o) g
missing_at None g within other = omega (arith, within.second.0)
missing_at (Some j) g within other = other

missing_within : (g : GatherPosition) (from : ℕ) → IsGather g → IsGatherRow (to_missing g.processors g.me from) g
missing_within g from within = missing_at (next_below g.processors (is_other g.me) from) g within (other_found g.processors g.me from)

looked_stays : (come last : Bool) (counted round : ℕ) (again after : Row) (g : GatherPosition) →
    IsGather g →
    (last ≡ false → IsGatherRow again g) →
    IsGatherRow after g →
    IsGather ((looked come last counted round again after g).after)
looked_stays true last counted round again after g within first second = moved g MarkInsync within tt
looked_stays false true counted round again after g within first second = moved g after within second
looked_stays false false counted round again after g within first second = moved g again within (first refl)

either_row : (b : Bool) (p q : Row) (g : GatherPosition) → IsGatherRow p g → IsGatherRow q g → IsGatherRow (if b then p else q) g
either_row true p q g first second = first
either_row false p q g first second = second

stays_at : (row : Row) (g : GatherPosition) (found : ℕ) → IsGather g → IsGatherRow row g → IsGather ((taken row g found).after)
stays_at LookAtExcept g found within at_row =
    record {
      one_of_them = within.one_of_them;
      few = within.few;
      first = within.first;
      second = within.second;
      at_row = omega (arith, within.first.0);
    }
stays_at (GatherFirst looks) g found within at_row =
    looked_stays
    (have_come g.processors g.blocked found)
    (is_last_look looks g.first_looks)
    found
    1
    (GatherFirst (looks + 1))
    (to_missing g.processors g.me 0)
    g
    within
    (more_looks looks g.first_looks at_row)
    (missing_within g 0 within)
stays_at (FindMissing j) g found within at_row =
    moved
    g
    (if found == 0 then SignalMissing j else to_missing g.processors g.me (j + 1))
    within
    (either_row (found == 0) (SignalMissing j) (to_missing g.processors g.me (j + 1)) g at_row (missing_within g (j + 1) within))
stays_at (SignalMissing j) g found within at_row = moved g (to_missing g.processors g.me (j + 1)) within (missing_within g (j + 1) within)
stays_at (GatherSecond looks) g found within at_row =
    looked_stays
    (have_come g.processors g.blocked found)
    (is_last_look looks g.second_looks)
    found
    2
    (GatherSecond (looks + 1))
    MarkInsync
    g
    within
    (more_looks looks g.second_looks at_row)
    tt
stays_at _ g found within at_row = within

pub stays_within : (g : GatherPosition) (found : ℕ) → IsGather g → IsGather ((taken g.row g found).after)
stays_within g found within = stays_at g.row g found within within.at_row
