-- The laws of arriving: which rows give and take which desk, whom a signal is for, which rows of other parts come next, and that
-- what is wanted and where a processor stands are within bounds.
use Rattle.std.specs.Prelude.{ℕ, ◌≡◌, ◌≢◌, None, IfSome}
use Rattle.sync_words.specs.declared.access.Access.TheVariants.{Put, Claim, Signal}
use Rattle.sync_words.specs.declared.access.TheConstants.{LOCKED}
use Rattle.sync_words.specs.declared.event.Hand.TheVariants.{Nothing, Give, Take}
use Rattle.sync_words.specs.declared.event.Want.TheVariants.{Access}
use Rattle.sync_words.specs.declared.row.Row.{Row}
use Rattle.sync_words.specs.declared.row.Row.TheVariants.{FindMissing, SignalMissing, MarkInside, MarkInsync, AwaitInside, AwaitRelease, AwaitSessionEnd}
use Rattle.sync_words.specs.declared.word.WordId.TheVariants.{Bsp, Pend, Present}
use Rattle.sync_words.specs.declared.access.Applied.{Applied}
use Rattle.sync_words.specs.Steps.{hand_of, wants, found_of, Accepts, IsWantWithin}
use Rattle.arrival.specs.Entry as entry
use Rattle.arrival.specs.Gather as gather
use Rattle.arrival.specs.Report as report

-- what changes hands in the entry is the chair: a claim takes it from `bsp` where nobody has it
abbrev pub OnlyTheClaimTakesTheChair : Type 0
OnlyTheClaimTakesTheChair =
    (row : Row) (e : entry.EntryPosition) →
    hand_of (entry.want_of row e) ≢ Nothing →
    entry.want_of row e ≡ Access Bsp (Claim LOCKED e.me) (Take e.processors)

-- after the entry a processor begins a session as the BSP, waits for the BSP, or leaves
abbrev pub IsAfterEntry : Row → Type 0
IsAfterEntry MarkInside = Unit {0}
IsAfterEntry (AwaitInside looks) = looks ≡ 0
IsAfterEntry AwaitSessionEnd = Unit {0}
IsAfterEntry _ = ⊥

abbrev pub EntryLeavesTo : Type 0
EntryLeavesTo =
    (row : Row) (e : entry.EntryPosition) (found : ℕ) →
    entry.left_of row ≡ None →
    IfSome (entry.left_of (entry.taken row e found).after.row) IsAfterEntry

-- nothing changes hands as the BSP gathers the others
abbrev pub GatheringMovesNothing : Type 0
GatheringMovesNothing = (row : Row) (g : gather.GatherPosition) → hand_of (gather.want_of row g) ≡ Nothing

-- the BSP signals another processor, and only one that it has just found not to have reported
abbrev pub SignalsOthers : Type 0
SignalsOthers =
    (g : gather.GatherPosition) (j : ℕ) →
    gather.IsGather g →
    gather.want_of g.row g ≡ wants (Pend j) Signal →
    j ≢ g.me

abbrev pub SignalsMissing : Type 0
SignalsMissing =
    (row : Row) (g : gather.GatherPosition) (found j : ℕ) →
    gather.left_of row ≡ None →
    (gather.taken row g found).after.row ≡ SignalMissing j →
    (row ≡ FindMissing j) × (found ≡ 0)

-- after gathering the session is closed
abbrev pub GatheringLeavesTo : Type 0
GatheringLeavesTo =
    (row : Row) (g : gather.GatherPosition) (found : ℕ) →
    gather.left_of row ≡ None →
    IfSome (gather.left_of (gather.taken row g found).after.row) (λ next. next ≡ MarkInsync)

-- what changes hands as an AP reports is its own desk: the report gives it on `present`
abbrev pub OnlyTheReportGivesTheDesk : Type 0
OnlyTheReportGivesTheDesk =
    (row : Row) (r : report.ReportPosition) →
    hand_of (report.want_of row r) ≢ Nothing →
    report.want_of row r ≡ Access (Present r.me) (Put 1) (Give r.me)

-- after its report an AP waits for its release; one that gave up leaves
abbrev pub IsAfterReport : Row → Type 0
IsAfterReport AwaitRelease = Unit {0}
IsAfterReport AwaitSessionEnd = Unit {0}
IsAfterReport _ = ⊥

abbrev pub ReportLeavesTo : Type 0
ReportLeavesTo =
    (row : Row) (r : report.ReportPosition) (found : ℕ) →
    report.left_of row ≡ None →
    IfSome (report.left_of (report.taken row r found).after.row) IsAfterReport

-- what is wanted is within bounds: the numbers of the access are those of a word, and there is such a processor
abbrev pub EntryWantsWithin : Type 0
EntryWantsWithin = (e : entry.EntryPosition) → entry.IsEntry e → IsWantWithin e.processors (entry.want_of e.row e)

abbrev pub GatheringWantsWithin : Type 0
GatheringWantsWithin = (g : gather.GatherPosition) → gather.IsGather g → IsWantWithin g.processors (gather.want_of g.row g)

abbrev pub ReportWantsWithin : Type 0
ReportWantsWithin = (r : report.ReportPosition) → report.IsReport r → IsWantWithin r.processors (report.want_of r.row r)

-- a position within bounds is followed by one
abbrev pub EntryStaysWithin : Type 0
EntryStaysWithin = (e : entry.EntryPosition) (found : ℕ) → entry.IsEntry e → entry.IsEntry ((entry.taken e.row e found).after)

abbrev pub GatheringStaysWithin : Type 0
GatheringStaysWithin = (g : gather.GatherPosition) (found : ℕ) → gather.IsGather g → gather.IsGather ((gather.taken g.row g found).after)

abbrev pub ReportStaysWithin : Type 0
ReportStaysWithin =
    (r : report.ReportPosition) (answer : Applied) →
    report.IsReport r →
    Accepts (report.want_of r.row r) answer →
    report.IsReport ((report.taken r.row r (found_of answer)).after)
