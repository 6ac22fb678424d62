-- What the rows of the protocol are written in: what an actor wants, what an access that was accepted gave it, what
-- it makes of that, and whom a loop over processors goes on with.
use Rattle.std.specs.Prelude.{ℕ, ◌≡◌, ◌<◌, ◌≤◌, ◌-◌, Bool, true, false, IsTrue, Option, Some, None}
use Rattle.std.specs.List.{find, range_with_len}
use Rattle.sync_words.specs.declared.access.Access.{Access}
use Rattle.sync_words.specs.declared.access.Access.TheVariants as access
use Rattle.sync_words.specs.declared.access.Applied.{Applied}
use Rattle.sync_words.specs.declared.access.Applied.TheVariants.{Changed, Same, NotReady}
use Rattle.sync_words.specs.declared.access.TheConstants.{LOCKED}
use Rattle.sync_words.specs.declared.event.Hand.{Hand}
use Rattle.sync_words.specs.declared.event.Hand.TheVariants.{Nothing}
use Rattle.sync_words.specs.declared.event.Want.{Want}
use Rattle.sync_words.specs.declared.event.Want.TheVariants as want
use Rattle.sync_words.specs.declared.label.Label.{Label}
use Rattle.sync_words.specs.declared.row.Row.{Row}
use Rattle.sync_words.specs.declared.word.WordId.{WordId}
use Rattle.sync_words.specs.declared.word.WordId.TheVariants.{Pend, Present, Run, Busy}
use Rattle.sync_words.specs.Access.{applied, IsWithin}

-- an access to a word at which nothing changes hands
abbrev pub wants : WordId → Access → Want
wants word access = want.Access word access Nothing

-- a look at a word
abbrev pub looks_at : WordId → Want
looks_at word = wants word access.Look

-- what changes hands with a wanted access
abbrev pub hand_of : Want → Hand
hand_of (want.Access word access hand) = hand
hand_of want.Off = Nothing

-- there is such a word where there are n processors
abbrev pub IsWord : ℕ → WordId → Type 0
IsWord n (Pend cpu) = cpu < n
IsWord n (Present cpu) = cpu < n
IsWord n (Run cpu) = cpu < n
IsWord n (Busy cpu) = cpu < n
IsWord n _ = Unit {0}

-- where there are n processors, there is the wanted word, and the numbers of the access are those of a word
abbrev pub IsWantWithin : ℕ → Want → Type 0
IsWantWithin n (want.Access word access hand) = IsWord n word × IsWithin access
IsWantWithin n want.Off = Unit {0}

-- the number that an access found
abbrev pub found_of : Applied → ℕ
found_of (Changed new found) = found
found_of (Same found) = found
found_of (NotReady found) = found

-- the actor doesn't have to wait
abbrev pub is_ready : Applied → Bool
is_ready (NotReady found) = false
is_ready _ = true

-- an access was accepted with this answer, on some number of a word
pub record IsAccepted (access : Access) (answer : Applied) : Type 0 where
  pub of_word : found_of answer ≤ LOCKED
  pub meaning : answer ≡ applied (found_of answer) access
  pub ready : IsTrue (is_ready answer)

-- what an actor wants was accepted with this answer
abbrev pub Accepts : Want → Applied → Type 0
Accepts (want.Access word access hand) answer = IsAccepted access answer
Accepts want.Off answer = ⊥

-- what an event says, and the position of the actor after it
pub record Taken (P : Type 0) : Type 0 where
  pub label : Label
  pub after : P

abbrev pub says : {P : Type 0} → Label → P → Taken P
says label after = record { label = label; after = after }

-- the least number from `from` on, below n, that passes the test
abbrev pub next_below : ℕ → (ℕ → Bool) → ℕ → Option ℕ
next_below n test from = find test (range_with_len from (n - from))

-- a loop's row for that number, or the row after the loop where there is none
abbrev pub row_or : (ℕ → Row) → Row → Option ℕ → Row
row_or at after None = after
row_or at after (Some j) = at j
