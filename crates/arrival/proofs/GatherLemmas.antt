-- Whom the BSP signals as it gathers the others, and which row of another part comes next.
use Rattle.std.proofs.Common.{ℕ, ◌≡◌, ◌≢◌, ◌+◌, ◌==◌, Bool, true, false, if◌then◌else◌, Option, Some, None, refl, ap}
use Rattle.std.proofs.lemmas.Bool.{eqb-true}
use Rattle.std.specs.Prelude.{IfSome}
use Rattle.sync_words.specs.declared.access.Access.TheVariants.{Signal}
use Rattle.sync_words.specs.declared.event.Hand.TheVariants.{Nothing}
use Rattle.sync_words.specs.declared.row.Row.{Row}
use Rattle.sync_words.specs.declared.row.Row.TheVariants.{LookAtExcept, GatherFirst, FindMissing, SignalMissing, GatherSecond, MarkInsync}
use Rattle.sync_words.specs.declared.word.WordId.TheVariants.{Pend}
use Rattle.sync_words.specs.Steps.{hand_of, wants, row_or, next_below}
use Rattle.arrival.specs.Rounds.{is_last_look}
use Rattle.arrival.specs.Gather.{GatherPosition, IsGather, IsGatherRow, left_of, want_of, have_come, is_other, to_missing, looked, taken}

pub moves_nothing : (row : Row) (g : GatherPosition) → hand_of (want_of row g) ≡ Nothing
moves_nothing LookAtExcept g = refl
moves_nothing (GatherFirst looks) g = refl
moves_nothing (FindMissing j) g = refl
moves_nothing (SignalMissing j) g = refl
moves_nothing (GatherSecond looks) g = refl
moves_nothing _ g = refl

signals_other : (row : Row) (g : GatherPosition) (j : ℕ) → IsGatherRow row g → want_of row g ≡ wants (Pend j) Signal → j ≢ g.me
signals_other (SignalMissing k) g j within is = let same : k ≡ j = cc in λ own. within.1 cc
signals_other LookAtExcept g j within is = absurd cc
signals_other (GatherFirst looks) g j within is = absurd cc
signals_other (FindMissing k) g j within is = absurd cc
signals_other (GatherSecond looks) g j within is = absurd cc
signals_other _ g j within is = absurd cc

pub signals_others : (g : GatherPosition) (j : ℕ) → IsGather g → want_of g.row g ≡ wants (Pend j) Signal → j ≢ g.me
signals_others g j within is = signals_other g.row g j within.at_row is

-- a row of the search is none that signals
missing_apart : (o : Option ℕ) (j : ℕ) → row_or FindMissing (GatherSecond 0) o ≢ SignalMissing j
missing_apart None j = λ is. cc
missing_apart (Some k) j = λ is. cc

looked_apart : (come is_last : Bool) (counted round : ℕ) (again after : Row) (g : GatherPosition) (j : ℕ) →
    again ≢ SignalMissing j →
    after ≢ SignalMissing j →
    (looked come is_last counted round again after g).after.row ≢ SignalMissing j
looked_apart true is_last counted round again after g j first second = λ is. cc
looked_apart false true counted round again after g j first second = second
looked_apart false false counted round again after g j first second = first

signalled : (b : Bool) (found k j : ℕ) (after : Row) →
    (found == 0) ≡ b →
    after ≢ SignalMissing j →
    (if b then SignalMissing k else after) ≡ SignalMissing j →
    (FindMissing k ≡ FindMissing j) × (found ≡ 0)
signalled true found k j after none apart is = let same : k ≡ j = cc in (ap FindMissing same, eqb-true found 0 none)
signalled false found k j after none apart is = absurd (apart is)

pub signals_missing : (row : Row) (g : GatherPosition) (found j : ℕ) →
    left_of row ≡ None →
    (taken row g found).after.row ≡ SignalMissing j →
    (row ≡ FindMissing j) × (found ≡ 0)
signals_missing LookAtExcept g found j on is = absurd cc
signals_missing (GatherFirst looks) g found j on is =
    absurd
    (looked_apart
    (have_come g.processors g.blocked found)
    (is_last_look looks g.first_looks)
    found
    1
    (GatherFirst (looks + 1))
    (to_missing g.processors g.me 0)
    g
    j
    (λ same. cc)
    (missing_apart (next_below g.processors (is_other g.me) 0) j)
    is)
signals_missing (FindMissing k) g found j on is =
    signalled (found == 0) found k j (to_missing g.processors g.me (k + 1)) refl (missing_apart (next_below g.processors (is_other g.me) (k + 1)) j) is
signals_missing (SignalMissing k) g found j on is = absurd (missing_apart (next_below g.processors (is_other g.me) (k + 1)) j is)
signals_missing (GatherSecond looks) g found j on is =
    absurd
    (looked_apart
    (have_come g.processors g.blocked found)
    (is_last_look looks g.second_looks)
    found
    2
    (GatherSecond (looks + 1))
    MarkInsync
    g
    j
    (λ same. cc)
    (λ same. cc)
    is)
signals_missing _ g found j on is = absurd cc

-- the gathering goes on, or the session is closed next
abbrev Leaves : Row → Type 0
Leaves row = IfSome (left_of row) (λ next. next ≡ MarkInsync)

missing_leaves : (o : Option ℕ) → Leaves (row_or FindMissing (GatherSecond 0) o)
missing_leaves None = tt
missing_leaves (Some k) = tt

looked_leaves : (come is_last : Bool) (counted round : ℕ) (again after : Row) (g : GatherPosition) →
    Leaves again →
    Leaves after →
    Leaves ((looked come is_last counted round again after g).after.row)
looked_leaves true is_last counted round again after g first second = refl
looked_leaves false true counted round again after g first second = second
looked_leaves false false counted round again after g first second = first

found_leaves : (b : Bool) (k : ℕ) (after : Row) → Leaves after → Leaves (if b then SignalMissing k else after)
found_leaves true k after leaves = tt
found_leaves false k after leaves = leaves

pub gathering_leaves_to : (row : Row) (g : GatherPosition) (found : ℕ) →
    left_of row ≡ None →
    IfSome (left_of (taken row g found).after.row) (λ next. next ≡ MarkInsync)
gathering_leaves_to LookAtExcept g found on = tt
gathering_leaves_to (GatherFirst looks) g found on =
    looked_leaves
    (have_come g.processors g.blocked found)
    (is_last_look looks g.first_looks)
    found
    1
    (GatherFirst (looks + 1))
    (to_missing g.processors g.me 0)
    g
    tt
    (missing_leaves (next_below g.processors (is_other g.me) 0))
gathering_leaves_to (FindMissing k) g found on =
    found_leaves (found == 0) k (to_missing g.processors g.me (k + 1)) (missing_leaves (next_below g.processors (is_other g.me) (k + 1)))
gathering_leaves_to (SignalMissing k) g found on = missing_leaves (next_below g.processors (is_other g.me) (k + 1))
gathering_leaves_to (GatherSecond looks) g found on =
    looked_leaves (have_come g.processors g.blocked found) (is_last_look looks g.second_looks) found 2 (GatherSecond (looks + 1)) MarkInsync g tt refl
gathering_leaves_to _ g found on = absurd cc
