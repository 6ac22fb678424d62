-- The laws of a close and of an exit: what changes hands on which word, which rows of other parts come next, and that what is
-- wanted and where the BSP stands are within bounds.
use Rattle.std.specs.Prelude.{ℕ, ◌≡◌, ◌<◌, ◌⊎◌, true, IsTrue, None, IfSome}
use Rattle.sync_words.specs.declared.event.Hand.{Hand}
use Rattle.sync_words.specs.declared.event.Hand.TheVariants.{Nothing, Give, Take}
use Rattle.sync_words.specs.declared.event.Want.{Want}
use Rattle.sync_words.specs.declared.event.Want.TheVariants.{Access, Off}
use Rattle.sync_words.specs.declared.row.Row.TheVariants.{AwaitSessionEnd}
use Rattle.sync_words.specs.declared.word.WordId.{WordId}
use Rattle.sync_words.specs.declared.word.WordId.TheVariants.{Bsp, Present, Run}
use Rattle.sync_words.specs.Steps.{IsWantWithin}
use Rattle.exit_handshake.specs.Close as close
use Rattle.exit_handshake.specs.Close.{ClosePosition, lacks, after_close, IsClose}
use Rattle.exit_handshake.specs.Exit as exit
use Rattle.exit_handshake.specs.Exit.{ExitPosition, is_ap, IsExit}

-- the desk of another processor that the close doesn't hold, and the word `present` of that processor
pub record IsMissingDesk (p : ClosePosition) (at : WordId) (desk : ℕ) : Type 0 where
  pub there : desk < p.processors
  pub missing : IsTrue (lacks p desk)
  pub word : at ≡ Present desk

-- the desk of an AP of the exit, and the semaphore of that AP
pub record IsDeskOfAp (p : ExitPosition) (at : WordId) (desk : ℕ) : Type 0 where
  pub there : desk < p.processors
  pub held : IsTrue (is_ap p desk)
  pub word : at ≡ Run desk

-- the chair, which has the number of processors, and the word `bsp`, where the policy elects the BSP
pub record IsChair (p : ExitPosition) (at : WordId) (chair : ℕ) : Type 0 where
  pub number : chair ≡ p.processors
  pub elected : p.elected ≡ true
  pub word : at ≡ Bsp

-- the close gives nothing, and takes nothing but missing desks
abbrev pub TakesMissing : ClosePosition → WordId → Hand → Type 0
TakesMissing p word Nothing = Unit {0}
TakesMissing p word (Give thing) = ⊥
TakesMissing p word (Take desk) = IsMissingDesk p word desk

-- the exit takes nothing, and gives nothing but the desks of its APs and the chair
abbrev pub GivesBack : ExitPosition → WordId → Hand → Type 0
GivesBack p word Nothing = Unit {0}
GivesBack p word (Give thing) = IsDeskOfAp p word thing ⊎ IsChair p word thing
GivesBack p word (Take thing) = ⊥

-- what is wanted is an access whose word and hand are so
abbrev pub AccessHas : (WordId → Hand → Type 0) → Want → Type 0
AccessHas q (Access word access hand) = q word hand
AccessHas q Off = ⊥

-- a BSP that closes takes the desks that it lacks, each on the word `present` of its processor; nothing else changes hands
abbrev pub CloseTakesMissing : Type 0
CloseTakesMissing = (p : ClosePosition) → IsClose p → close.left_of p.row ≡ None → AccessHas (TakesMissing p) (close.want_of p.row p)

-- after a close the BSP serves, or in the relaxed mode ends the handlers' time
abbrev pub CloseLeavesTo : Type 0
CloseLeavesTo = (p : ClosePosition) → IsClose p → IfSome (close.left_of p.row) (λ row. row ≡ after_close p.relaxed)

abbrev pub CloseWantsWithin : Type 0
CloseWantsWithin = (p : ClosePosition) → IsClose p → IsWantWithin p.processors (close.want_of p.row p)

abbrev pub CloseStaysWithin : Type 0
CloseStaysWithin = (p : ClosePosition) (found : ℕ) → IsClose p → IsClose (close.taken p.row p found).after

-- a BSP that lets the others go gives each AP's desk on the semaphore of that AP, and the chair on `bsp`; nothing else changes hands
abbrev pub ExitGivesBack : Type 0
ExitGivesBack = (p : ExitPosition) → IsExit p → exit.left_of p.row ≡ None → AccessHas (GivesBack p) (exit.want_of p.row p)

-- after an exit the BSP waits for the session to end, as every processor does
abbrev pub ExitLeavesTo : Type 0
ExitLeavesTo = (p : ExitPosition) → IsExit p → IfSome (exit.left_of p.row) (λ row. row ≡ AwaitSessionEnd)

abbrev pub ExitWantsWithin : Type 0
ExitWantsWithin = (p : ExitPosition) → IsExit p → IsWantWithin p.processors (exit.want_of p.row p)

abbrev pub ExitStaysWithin : Type 0
ExitStaysWithin = (p : ExitPosition) (found : ℕ) → IsExit p → IsExit (exit.taken p.row p found).after
