-- How the BSP gathers the others before it closes the session, row by row: two rounds of looks for all to have come, and
-- between them an interrupt to each that hasn't reported. The rows are the project's own, after EDK II's
-- PiSmmCpuDxeSmm (`SmmWaitForApArrival`) in outline.
use Rattle.std.specs.Prelude.{ℕ, ◌≡◌, ◌≢◌, ◌<◌, ◌≤◌, ◌+◌, ◌==◌, nat_le, not, Bool, true, false, if◌then◌else◌, Option, Some, None}
use Rattle.sync_words.specs.declared.access.Access.TheVariants.{Signal}
use Rattle.sync_words.specs.declared.event.Want.{Want}
use Rattle.sync_words.specs.declared.event.Want.TheVariants.{Off}
use Rattle.sync_words.specs.declared.label.Label.TheVariants.{Silent, Gather, Ready, Expire}
use Rattle.sync_words.specs.declared.row.Row.{Row}
use Rattle.sync_words.specs.declared.row.Row.TheVariants.{LookAtExcept, GatherFirst, FindMissing, SignalMissing, GatherSecond, MarkInsync}
use Rattle.sync_words.specs.declared.word.WordId.TheVariants.{Counter, Except, Pend, Present}
use Rattle.sync_words.specs.Steps.{Taken, says, wants, looks_at, next_below, row_or}
use Rattle.arrival.specs.Rounds.{is_last_look}

-- where the BSP stands as it gathers the others, with what it has found so far
pub record GatherPosition : Type 0 where
  pub processors : ℕ
  pub first_looks : ℕ  -- how many looks the first round has, and the second
  pub second_looks : ℕ
  pub me : ℕ  -- its own number
  pub row : Row
  pub blocked : ℕ  -- what it found in `except`

-- another processor of the platform
abbrev pub IsOther : GatherPosition → ℕ → Type 0
IsOther g j = (j < g.processors) × (j ≢ g.me)

-- a round has another look, a loop is at another processor
abbrev pub IsGatherRow : Row → GatherPosition → Type 0
IsGatherRow (GatherFirst looks) g = looks < g.first_looks
IsGatherRow (FindMissing j) g = IsOther g j
IsGatherRow (SignalMissing j) g = IsOther g j
IsGatherRow (GatherSecond looks) g = looks < g.second_looks
IsGatherRow _ g = Unit {0}

-- the BSP is one of the platform's processors, each round has a look, and the row is in bounds
pub record IsGather (g : GatherPosition) : Type 0 where
  pub one_of_them : g.me < g.processors
  pub few : g.processors ≤ 64
  pub first : (1 ≤ g.first_looks) × (g.first_looks ≤ 4096)
  pub second : (1 ≤ g.second_looks) × (g.second_looks ≤ 4096)
  pub at_row : IsGatherRow g.row g

-- the first position of processor `me`
abbrev pub gather_of : ℕ → ℕ → ℕ → ℕ → GatherPosition
gather_of processors first_looks second_looks me =
    record { processors = processors; first_looks = first_looks; second_looks = second_looks; me = me; row = LookAtExcept; blocked = 0 }

-- the row of another part that comes next, or none while the gathering goes on
abbrev pub left_of : Row → Option Row
left_of LookAtExcept = None
left_of (GatherFirst looks) = None
left_of (FindMissing j) = None
left_of (SignalMissing j) = None
left_of (GatherSecond looks) = None
left_of row = Some row

-- what the BSP wants at a row
abbrev pub want_of : Row → GatherPosition → Want
want_of LookAtExcept g = looks_at Except
want_of (GatherFirst looks) g = looks_at Counter
want_of (FindMissing j) g = looks_at (Present j)
want_of (SignalMissing j) g = wants (Pend j) Signal
want_of (GatherSecond looks) g = looks_at Counter
want_of _ g = Off

abbrev pub go : GatherPosition → Row → GatherPosition
go g row = record g { row = row }

abbrev pub is_other : ℕ → ℕ → Bool
is_other me j = not (j == me)

-- the row of the least other processor from `from` on, or the second round where there is none
abbrev pub to_missing : ℕ → ℕ → ℕ → Row
to_missing processors me from = row_or FindMissing (GatherSecond 0) (next_below processors (is_other me) from)

-- such a row
abbrev pub IsMissingRow : ℕ → ℕ → Row → Type 0
IsMissingRow processors me (FindMissing j) = (j < processors) × (j ≢ me)
IsMissingRow processors me (GatherSecond looks) = looks ≡ 0
IsMissingRow processors me _ = ⊥

-- all have come: so many are counted in, and the others are blocked
abbrev pub have_come : ℕ → ℕ → ℕ → Bool
have_come processors blocked counted = nat_le processors (counted + blocked)

-- a look for all to have come: the waiting ends where they have, and the round ends with its last look
abbrev pub looked : Bool → Bool → ℕ → ℕ → Row → Row → GatherPosition → Taken GatherPosition
looked true is_last counted round again after g = says (Ready counted) (go g MarkInsync)
looked false true counted round again after g = says (Expire round) (go g after)
looked false false counted round again after g = says Silent (go g again)

-- what the event at a row says by the number found, and the position after it
abbrev pub taken : Row → GatherPosition → ℕ → Taken GatherPosition
taken LookAtExcept g found = says (Gather found) (record g { row = GatherFirst 0; blocked = found })
taken (GatherFirst looks) g found =
    looked (have_come g.processors g.blocked found) (is_last_look looks g.first_looks) found 1 (GatherFirst (looks + 1)) (to_missing g.processors g.me 0) g
taken (FindMissing j) g found = says Silent (go g (if found == 0 then SignalMissing j else to_missing g.processors g.me (j + 1)))
taken (SignalMissing j) g found = says Silent (go g (to_missing g.processors g.me (j + 1)))
taken (GatherSecond looks) g found =
    looked (have_come g.processors g.blocked found) (is_last_look looks g.second_looks) found 2 (GatherSecond (looks + 1)) MarkInsync g
taken _ g found = says Silent g
