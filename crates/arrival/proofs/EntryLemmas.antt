-- Which rows of the entry change hands, and which rows of other parts come next.
use Rattle.std.proofs.Common.{ℕ, ◌≡◌, ◌≢◌, ◌==◌, ◌&&◌, Bool, true, false, if◌then◌else◌, None, refl}
use Rattle.std.specs.Prelude.{IfSome}
use Rattle.smm_base.specs.declared.kinds.Policy.{Policy}
use Rattle.smm_base.specs.declared.kinds.Policy.TheVariants.{Elected, Fixed}
use Rattle.sync_words.specs.declared.access.Access.TheVariants.{Claim}
use Rattle.sync_words.specs.declared.access.TheConstants.{LOCKED}
use Rattle.sync_words.specs.declared.event.Hand.TheVariants.{Nothing, Take}
use Rattle.sync_words.specs.declared.event.Want.TheVariants.{Access}
use Rattle.sync_words.specs.declared.row.Row.{Row}
use Rattle.sync_words.specs.declared.row.Row.TheVariants.{LookAtSource, LookAtInside, CountIn, ClaimBsp, LookAtBsp, AwaitInside}
use Rattle.sync_words.specs.declared.word.WordId.TheVariants.{Bsp}
use Rattle.sync_words.specs.Steps.{Taken, hand_of}
use Rattle.arrival.specs.Entry.{EntryPosition, left_of, want_of, to_elect, elected, taken}
use Rattle.arrival.specs.Laws.{IsAfterEntry}

pub only_the_claim_takes : (row : Row) (e : EntryPosition) →
    hand_of (want_of row e) ≢ Nothing →
    want_of row e ≡ Access Bsp (Claim LOCKED e.me) (Take e.processors)
only_the_claim_takes ClaimBsp e moves = refl
only_the_claim_takes LookAtSource e moves = absurd (moves refl)
only_the_claim_takes LookAtInside e moves = absurd (moves refl)
only_the_claim_takes CountIn e moves = absurd (moves refl)
only_the_claim_takes LookAtBsp e moves = absurd (moves refl)
only_the_claim_takes _ e moves = absurd (moves refl)

-- the part goes on, or one of these rows comes next
abbrev Leaves : Taken EntryPosition → Type 0
Leaves t = IfSome (left_of t.after.row) IsAfterEntry

either_leaves : (b : Bool) (p q : Taken EntryPosition) → Leaves p → Leaves q → Leaves (if b then p else q)
either_leaves true p q first second = first
either_leaves false p q first second = second

arrival_leaves : (b : Bool) (policy : Policy) → IfSome (left_of (if b then to_elect policy else AwaitInside 0)) IsAfterEntry
arrival_leaves true Elected = tt
arrival_leaves true (Fixed bsp) = tt
arrival_leaves false policy = refl

elected_leaves : (b : Bool) (e : EntryPosition) → Leaves (elected b e)
elected_leaves true e = tt
elected_leaves false e = refl

pub entry_leaves_to : (row : Row) (e : EntryPosition) (found : ℕ) → left_of row ≡ None → IfSome (left_of (taken row e found).after.row) IsAfterEntry
entry_leaves_to LookAtSource e found on = tt
entry_leaves_to LookAtInside e found on = either_leaves (e.source == 0 && found == 0) _ _ tt tt
entry_leaves_to CountIn e found on = either_leaves (found == LOCKED) _ _ tt (arrival_leaves (e.inside == 0) e.policy)
entry_leaves_to ClaimBsp e found on = elected_leaves (found == LOCKED) e
entry_leaves_to LookAtBsp e found on = elected_leaves (found == e.me) e
entry_leaves_to _ e found on = absurd cc
