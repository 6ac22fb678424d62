-- Which events have a spelling, and where one stands.
use Rattle.std.specs.Prelude.{ℕ, ◌≡◌, ◌≤◌, ◌<◌, ◌^◌, List, take, drop, length}
use Rattle.smm_base.specs.declared.kinds.HandlerType.{HandlerType}
use Rattle.smm_base.specs.declared.kinds.HandlerType.TheVariants.{Root, Typed}
use Rattle.sync_words.specs.declared.access.Access.{Access}
use Rattle.sync_words.specs.declared.access.Access.TheVariants.{Put, Claim, Await, Seek, Raise}
use Rattle.sync_words.specs.declared.access.TheConstants.{LOCKED}
use Rattle.sync_words.specs.declared.event.Event.{Event}
use Rattle.sync_words.specs.declared.label.Label.{Label}
use Rattle.sync_words.specs.declared.label.Label.TheVariants.{Excepted, Wave, Served, Gather, Ready, Expire, Close, Begin, Manage, Deep, Call, Return, Set, Read, Write, Check, Wait, Alloc, Free, Register, Unregister, Refuse, Start, Run, Collect, Release}
use Rattle.sync_words.specs.Steps.{IsWord}

-- a list of handlers is the root list, or that of a GUID of 128 bits
abbrev pub IsKind : HandlerType → Type 0
IsKind Root = Unit {0}
IsKind (Typed guid) = guid < 2 ^ 128

-- the numbers of an access are at most this one
abbrev pub HasUpTo : ℕ → Access → Type 0
HasUpTo most (Put new) = new ≤ most
HasUpTo most (Claim from new) = (from ≤ most) × (new ≤ most)
HasUpTo most (Await from new) = (from ≤ most) × (new ≤ most)
HasUpTo most (Seek below) = below ≤ most
HasUpTo most (Raise signal) = signal ≤ most
HasUpTo most _ = Unit {0}

-- a round of waiting is the first or the second
abbrev pub IsRound : ℕ → Type 0
IsRound round = (1 ≤ round) × (round ≤ 2)

-- a variable is one of eight
abbrev pub IsVariable : ℕ → Type 0
IsVariable variable = variable ≤ 7

-- each number of a label fits the type of its field, and a round and a variable are ones that there are
abbrev pub IsLabel : Label → Type 0
IsLabel (Excepted count) = count < 2 ^ 32
IsLabel (Wave wave) = wave < 2 ^ 32
IsLabel (Served wave) = wave < 2 ^ 32
IsLabel (Gather count) = count < 2 ^ 32
IsLabel (Ready count) = count < 2 ^ 32
IsLabel (Expire round) = IsRound round
IsLabel (Close count) = count < 2 ^ 32
IsLabel (Begin wave) = wave < 2 ^ 32
IsLabel (Manage kind) = IsKind kind
IsLabel (Deep kind) = IsKind kind
IsLabel (Call handler) = handler < 2 ^ 16
IsLabel (Return handler status) = handler < 2 ^ 16
IsLabel (Set variable value) = IsVariable variable × (value < 2 ^ 64)
IsLabel (Read cpu register width value status) = (cpu < 2 ^ 16) × (width < 2 ^ 32) × (value < 2 ^ 64)
IsLabel (Write cpu register width value status) = (cpu < 2 ^ 16) × (width < 2 ^ 32) × (value < 2 ^ 64)
IsLabel (Check job status) = job < 2 ^ 64
IsLabel (Wait job value status) = (job < 2 ^ 64) × (value < 2 ^ 64)
IsLabel (Alloc size place status) = (size < 2 ^ 64) × (place < 2 ^ 64)
IsLabel (Free place status) = place < 2 ^ 64
IsLabel (Register handler serial status) = (handler < 2 ^ 16) × (serial < 2 ^ 32)
IsLabel (Unregister handle status) = handle < 2 ^ 64
IsLabel (Refuse cpu cause) = cpu < 2 ^ 16
IsLabel (Start cpu job procedure arg) = (cpu < 2 ^ 16) × (job < 2 ^ 32) × (procedure < 2 ^ 16) × (arg < 2 ^ 64)
IsLabel (Run job value status) = (job < 2 ^ 32) × (value < 2 ^ 64)
IsLabel (Collect cpu) = cpu < 2 ^ 16
IsLabel (Release cpu) = cpu < 2 ^ 16
IsLabel _ = Unit {0}

-- where there are n processors, the event has a spelling: its actor and its word are there, the numbers that a word holds
-- are at most the locked one, and the label's numbers fit
pub record IsSpelling (n : ℕ) (event : Event) : Type 0 where
  pub actor : event.actor ≤ n
  pub word : IsWord n event.word
  pub access : HasUpTo LOCKED event.access
  pub found : event.found ≤ LOCKED
  pub label : IsLabel event.label

-- the bytes from this place on begin with the text
abbrev pub StandsAt : List ℕ → ℕ → List ℕ → Type 0
StandsAt bytes at text = take (length text) (drop at bytes) ≡ text
