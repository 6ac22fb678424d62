-- Which rows of an AP's report change hands, and which rows of other parts come next.
use Rattle.std.proofs.Common.{ℕ, ◌≡◌, ◌≢◌, ◌+◌, ◌==◌, Bool, true, false, nat_lt, if◌then◌else◌, None, refl}
use Rattle.std.specs.Prelude.{IfSome}
use Rattle.sync_words.specs.declared.access.Access.TheVariants.{Put}
use Rattle.sync_words.specs.declared.access.TheConstants.{LOCKED}
use Rattle.sync_words.specs.declared.event.Hand.TheVariants.{Nothing, Give}
use Rattle.sync_words.specs.declared.event.Want.TheVariants.{Access}
use Rattle.sync_words.specs.declared.row.Row.{Row}
use Rattle.sync_words.specs.declared.row.Row.TheVariants.{AwaitInside, FindBsp, SignalBsp, AwaitInsideAgain, CountOut, SeekBsp, Report, TellReported}
use Rattle.sync_words.specs.declared.word.WordId.TheVariants.{Present}
use Rattle.sync_words.specs.Steps.{Taken, hand_of}
use Rattle.arrival.specs.Rounds.{is_last_look}
use Rattle.arrival.specs.Report.{ReportPosition, left_of, want_of, taken}
use Rattle.arrival.specs.Laws.{IsAfterReport}

pub only_the_report_gives : (row : Row) (r : ReportPosition) →
    hand_of (want_of row r) ≢ Nothing →
    want_of row r ≡ Access (Present r.me) (Put 1) (Give r.me)
only_the_report_gives Report r moves = refl
only_the_report_gives (AwaitInside looks) r moves = absurd (moves refl)
only_the_report_gives FindBsp r moves = absurd (moves refl)
only_the_report_gives SignalBsp r moves = absurd (moves refl)
only_the_report_gives (AwaitInsideAgain looks) r moves = absurd (moves refl)
only_the_report_gives CountOut r moves = absurd (moves refl)
only_the_report_gives SeekBsp r moves = absurd (moves refl)
only_the_report_gives TellReported r moves = absurd (moves refl)
only_the_report_gives _ r moves = absurd (moves refl)

-- this part goes on, or one of these rows comes next
abbrev Leaves : Row → Type 0
Leaves row = IfSome (left_of row) IsAfterReport

either_leaves : (b : Bool) (p q : Row) → Leaves p → Leaves q → Leaves (if b then p else q)
either_leaves true p q first second = first
either_leaves false p q first second = second

taken_leaves : (b : Bool) (p q : Taken ReportPosition) → Leaves p.after.row → Leaves q.after.row → Leaves ((if b then p else q).after.row)
taken_leaves true p q first second = first
taken_leaves false p q first second = second

position_leaves : (b : Bool) (p q : ReportPosition) → Leaves p.row → Leaves q.row → Leaves ((if b then p else q).row)
position_leaves true p q first second = first
position_leaves false p q first second = second

pub report_leaves_to : (row : Row) (r : ReportPosition) (found : ℕ) → left_of row ≡ None → IfSome (left_of (taken row r found).after.row) IsAfterReport
report_leaves_to (AwaitInside looks) r found on =
    either_leaves (found == 0) _ SeekBsp (either_leaves (is_last_look looks r.first_looks) FindBsp (AwaitInside (looks + 1)) tt tt) tt
report_leaves_to FindBsp r found on = position_leaves (nat_lt found r.processors) _ _ tt tt
report_leaves_to SignalBsp r found on = tt
report_leaves_to (AwaitInsideAgain looks) r found on =
    either_leaves (found == 0) _ SeekBsp (either_leaves (is_last_look looks r.second_looks) CountOut (AwaitInsideAgain (looks + 1)) tt tt) tt
report_leaves_to CountOut r found on = taken_leaves (found == LOCKED) _ _ tt tt
report_leaves_to SeekBsp r found on = tt
report_leaves_to Report r found on = tt
report_leaves_to TellReported r found on = tt
report_leaves_to _ r found on = absurd cc
