-- The laws of a program: what changes hands on which word, that what it wants is within bounds and stays while things change hands, and
-- that it wants nothing exactly where it is off.
use Rattle.std.specs.Prelude.{ℕ, ◌≡◌, ◌↔◌, true, Some}
use Rattle.sync_words.specs.declared.event.Hand.{Hand}
use Rattle.sync_words.specs.declared.event.Hand.TheVariants.{Nothing, Give, Take}
use Rattle.sync_words.specs.declared.event.Want.{Want}
use Rattle.sync_words.specs.declared.event.Want.TheVariants.{Access, Off}
use Rattle.sync_words.specs.declared.word.WordId.{WordId}
use Rattle.sync_words.specs.declared.word.WordId.TheVariants.{Bsp, Present, Run, Busy}
use Rattle.sync_words.specs.Steps.{IsWantWithin}
use Rattle.cpu_program.specs.Actors.{Actor, Cargo}
use Rattle.cpu_program.specs.Bounds.{IsActor}
use Rattle.cpu_program.specs.Programs.{want_of, is_off, gift_of, given, received, processors_of}

-- an actor that gave or received wants what it wanted before
abbrev pub GivingKeepsWant : Type 0
GivingKeepsWant = (a : Actor) → IsActor a → want_of (given a) ≡ want_of a

abbrev pub ReceivingKeepsWant : Type 0
ReceivingKeepsWant = (a : Actor) (cargo : Cargo) → IsActor a → want_of (received cargo a) ≡ want_of a

-- where there are n processors: the chair, which has their number, changes hands on `bsp`, and the desk of a processor on its words `present`,
-- `run` and `busy`
abbrev pub BelongsOn : ℕ → WordId → ℕ → Type 0
BelongsOn n Bsp thing = thing ≡ n
BelongsOn n (Present cpu) thing = thing ≡ cpu
BelongsOn n (Run cpu) thing = thing ≡ cpu
BelongsOn n (Busy cpu) thing = thing ≡ cpu
BelongsOn n _ thing = ⊥

abbrev pub MovesOn : ℕ → WordId → Hand → Type 0
MovesOn n word Nothing = Unit {0}
MovesOn n word (Give thing) = BelongsOn n word thing
MovesOn n word (Take thing) = BelongsOn n word thing

abbrev pub MovesOnItsWord : ℕ → Want → Type 0
MovesOnItsWord n (Access word access hand) = MovesOn n word hand
MovesOnItsWord n Off = Unit {0}

abbrev pub ThingsMoveOnTheirWords : Type 0
ThingsMoveOnTheirWords = (a : Actor) → IsActor a → MovesOnItsWord (processors_of a) (want_of a)

-- there is the wanted word, and the numbers of the access are those of a word
abbrev pub WantsWithin : Type 0
WantsWithin = (a : Actor) → IsActor a → IsWantWithin (processors_of a) (want_of a)

-- an actor wants nothing exactly where it is off
abbrev pub OffWantsNothing : Type 0
OffWantsNothing = (a : Actor) → IsActor a → (want_of a ≡ Off) ↔ (is_off a ≡ true)

-- what was given and comes back can be given again
abbrev pub GiftsComeBack : Type 0
GiftsComeBack = (a : Actor) (cargo : Cargo) → IsActor a → gift_of a ≡ Some cargo → gift_of (received cargo (given a)) ≡ Some cargo
