-- The meaning of an access on the number that a word holds. The accesses are the project's own; those of the
-- counting semaphore with its locked value follow EDK II's semaphores.
use Rattle.std.specs.Prelude.{ℕ, ◌≤◌, ◌+◌, ◌-◌, ◌%◌, ◌==◌, ◌||◌, nat_lt, if◌then◌else◌}
use Rattle.sync_words.specs.declared.access.Access.{Access}
use Rattle.sync_words.specs.declared.access.Access.TheVariants.{Look, Put, Up, Down, Lower, Lock, Claim, Await, Seek, Signal, TakeSmi, ClearSmi, Raise}
use Rattle.sync_words.specs.declared.access.Applied.{Applied}
use Rattle.sync_words.specs.declared.access.Applied.TheVariants.{Changed, Same, NotReady}
use Rattle.sync_words.specs.declared.access.TheConstants.{LOCKED}
use Rattle.sync_words.specs.declared.signal.TheConstants.{NO_SIGNAL, DELIVERABLE, HELD, OFF, INSIDE}

-- the signal of a word that may have the mark of a processor inside
abbrev pub signal_of : ℕ → ℕ
signal_of v = v % INSIDE

-- what the access does to a word that has the value v
abbrev pub applied : ℕ → Access → Applied
applied v Look = Same v
applied v (Put x) = Changed x v
applied v Up = if v == LOCKED then Same v else Changed (v + 1) v
applied v Down = if v == 0 then NotReady v else Changed (v - 1) v
applied v Lower = if (v == LOCKED || v == 0) then Same v else Changed (v - 1) v
applied v Lock = Changed LOCKED v
applied v (Claim a b) = if v == a then Changed b v else Same v
applied v (Await a b) = if v == a then (if a == b then Same v else Changed b v) else NotReady v
applied v (Seek n) = if nat_lt v n then Same v else NotReady v
applied v Signal = if (signal_of v == NO_SIGNAL || signal_of v == HELD) then Changed (v - signal_of v + DELIVERABLE) v else Same v
applied v TakeSmi = if v == OFF then Same v else (if v == DELIVERABLE then Changed INSIDE v else NotReady v)
applied v ClearSmi = if nat_lt v INSIDE then Same v else Changed (v - INSIDE) v
applied v (Raise x) = if signal_of v == OFF then Same v else (if signal_of v == DELIVERABLE then NotReady v else Changed (v - signal_of v + x) v)

-- the numbers of an access are numbers of a word, and that of a raise is a signal
abbrev pub IsWithin : Access → Type 0
IsWithin (Put x) = x ≤ LOCKED
IsWithin (Claim a b) = (a ≤ LOCKED) × (b ≤ LOCKED)
IsWithin (Await a b) = (a ≤ LOCKED) × (b ≤ LOCKED)
IsWithin (Seek n) = n ≤ LOCKED
IsWithin (Raise x) = x ≤ OFF
IsWithin _ = Unit {0}

-- what is written fits a word
abbrev pub LeavesWord : Applied → Type 0
LeavesWord (Changed new found) = new ≤ LOCKED
LeavesWord _ = Unit {0}
