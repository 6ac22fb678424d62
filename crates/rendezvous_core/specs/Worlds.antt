-- The world: the shared words, what lies on them, and where each actor stands; one step of an actor, and the replay of a schedule.
use Rattle.std.specs.Prelude.{ℕ, ◌+◌, ◌==◌, Bool, if◌then◌else◌, List, [], ◌∷◌, slice_index_or, slice_get, slice_set, replicate, Option, Some, None}
use Rattle.std.specs.List.{list_all}
use Rattle.smm_base.specs.declared.kinds.Policy.{Policy}
use Rattle.smm_base.specs.declared.kinds.Policy.TheVariants.{Elected, Fixed}
use Rattle.save_state_map.specs.Images.{ImageContents}
use Rattle.cpu_regs.specs.Registers.{Registers}
use Rattle.cpu_table.specs.Data.{SetupData}
use Rattle.sync_words.specs.declared.access.Access.{Access}
use Rattle.sync_words.specs.declared.access.Applied.{Applied}
use Rattle.sync_words.specs.declared.access.Applied.TheVariants.{Changed, Same, NotReady}
use Rattle.sync_words.specs.declared.access.TheConstants.{LOCKED}
use Rattle.sync_words.specs.declared.event.Event.{Event}
use Rattle.sync_words.specs.declared.event.Hand.{Hand}
use Rattle.sync_words.specs.declared.event.Hand.TheVariants.{Nothing, Give, Take}
use Rattle.sync_words.specs.declared.event.Want.{Want}
use Rattle.sync_words.specs.declared.event.Want.TheVariants as want
use Rattle.sync_words.specs.declared.label.Label.{Label}
use Rattle.sync_words.specs.declared.label.Label.TheVariants as label
use Rattle.sync_words.specs.declared.word.WordId.{WordId}
use Rattle.sync_words.specs.declared.word.WordId.TheVariants as word
use Rattle.sync_words.specs.Access.{applied}
use Rattle.sync_words.specs.Steps.{Taken}
use Rattle.handler_ops.specs.Sessions.{Session, first_session}
use Rattle.cpu_program.specs.declared.cargo.Cargo.TheVariants.{Chair}
use Rattle.cpu_program.specs.declared.cargo.Cargo.{Cargo}
use Rattle.cpu_program.specs.Actors.{Actor, OfProcessor, OfChipset}
use Rattle.chipset.specs.Chipsets.{first_chipset}
use Rattle.cpu_program.specs.Programs.{first_processor, want_of, is_off, taken, gift_of, given, received, last_of}
use Rattle.rendezvous_core.specs.declared.stepped.Stepped.{Stepped}
use Rattle.rendezvous_core.specs.declared.stepped.Stepped.TheVariants as stepped

-- the ten kinds of words, the last four with one word for each processor
pub record Words : Type 0 where
  pub counter : ℕ
  pub bsp : ℕ
  pub inside : ℕ
  pub insync : ℕ
  pub source : ℕ
  pub except : ℕ
  pub pend : List ℕ
  pub present : List ℕ
  pub run : List ℕ
  pub busy : List ℕ

abbrev pub read : Words → WordId → ℕ
read w word.Counter = w.counter
read w word.Bsp = w.bsp
read w word.Inside = w.inside
read w word.Insync = w.insync
read w word.Source = w.source
read w word.Except = w.except
read w (word.Pend i) = slice_index_or w.pend i 0
read w (word.Present i) = slice_index_or w.present i 0
read w (word.Run i) = slice_index_or w.run i 0
read w (word.Busy i) = slice_index_or w.busy i 0

abbrev pub write : Words → WordId → ℕ → Words
write w word.Counter v = record w { counter = v }
write w word.Bsp v = record w { bsp = v }
write w word.Inside v = record w { inside = v }
write w word.Insync v = record w { insync = v }
write w word.Source v = record w { source = v }
write w word.Except v = record w { except = v }
write w (word.Pend i) v = record w { pend = slice_set w.pend i v }
write w (word.Present i) v = record w { present = slice_set w.present i v }
write w (word.Run i) v = record w { run = slice_set w.run i v }
write w (word.Busy i) v = record w { busy = slice_set w.busy i v }

-- who the BSP is before any event: nobody, or the one that the platform fixes
abbrev pub bsp_at_first : Policy → ℕ
bsp_at_first Elected = LOCKED
bsp_at_first (Fixed bsp) = bsp

-- the words before any event
abbrev pub first_words : SetupData → Words
first_words d =
    record {
      counter = 0;
      bsp = bsp_at_first d.policy;
      inside = 0;
      insync = 0;
      source = 0;
      except = 0;
      pend = replicate d.processors 0;
      present = replicate d.processors 0;
      run = replicate d.processors 0;
      busy = replicate d.processors 0;
    }

-- what lies on the words on which something changes hands
pub record Lying : Type 0 where
  pub bsp : Option Cargo
  pub present : List (Option Cargo)
  pub run : List (Option Cargo)
  pub busy : List (Option Cargo)

abbrev pub lying_on : Lying → WordId → Option Cargo
lying_on l word.Bsp = l.bsp
lying_on l (word.Present i) = slice_index_or l.present i None
lying_on l (word.Run i) = slice_index_or l.run i None
lying_on l (word.Busy i) = slice_index_or l.busy i None
lying_on l _ = None

-- a thing is laid on a word, or taken from it
abbrev pub lay : Lying → WordId → Option Cargo → Lying
lay l word.Bsp x = record l { bsp = x }
lay l (word.Present i) x = record l { present = slice_set l.present i x }
lay l (word.Run i) x = record l { run = slice_set l.run i x }
lay l (word.Busy i) x = record l { busy = slice_set l.busy i x }
lay l _ x = l

-- before any event the chair lies on `bsp`, where the BSP is elected
abbrev pub chair_at_first : Policy → SetupData → Option Session
chair_at_first Elected d = Some (first_session d)
chair_at_first (Fixed bsp) d = None

abbrev pub as_cargo : Option Session → Option Cargo
as_cargo None = None
as_cargo (Some s) = Some (Chair s)

abbrev pub first_lying : SetupData → Lying
first_lying d =
    record {
      bsp = as_cargo (chair_at_first d.policy d);
      present = replicate d.processors None;
      run = replicate d.processors None;
      busy = replicate d.processors None;
    }

-- the actors are the processors by number, and then the chipset
pub record World : Type 0 where
  pub words : Words
  pub lying : Lying
  pub actors : List Actor

-- where the BSP is fixed, it has the chair from the start
abbrev pub own_chair : Policy → SetupData → ℕ → Option Session
own_chair Elected d me = None
own_chair (Fixed bsp) d me = if me == bsp then Some (first_session d) else None

abbrev pub first_actor : SetupData → ℕ → Registers → ImageContents → Actor
first_actor d me registers image = OfProcessor (first_processor d me image registers (own_chair d.policy d me))

-- the world before any event, with registers and an image for each processor
abbrev pub first_actors : SetupData → ℕ → List Registers → List ImageContents → List Actor
first_actors d me [] images = OfChipset (first_chipset d) ∷ []
first_actors d me (r ∷ rs) [] = OfChipset (first_chipset d) ∷ []
first_actors d me (r ∷ rs) (image ∷ images) = first_actor d me r image ∷ first_actors d (me + 1) rs images

abbrev pub start : SetupData → List Registers → List ImageContents → World
start d registers images =
    record { words = first_words d; lying = first_lying d; actors = first_actors d 0 registers images }

-- ONE STEP

-- An event of an access that found this number, and the actor after it
abbrev pub event_of : ℕ → WordId → Access → ℕ → Label → Event
event_of me word access found label = record { actor = me; word = word; access = access; found = found; label = label }

-- What the turn of one actor comes to: an event, with the words, what lies on them, and the actor after it; or the actor waits on this
-- number, or is off, and nothing changes.
pub data Turn : Type 0 where
  Moves : Event → Words → Lying → Actor → Turn
  Waits : ℕ → Turn
  Rests : Turn

abbrev pub moves : ℕ → WordId → Access → ℕ → Words → Lying → Taken Actor → Turn
moves me word access found words lying t = Moves (event_of me word access found t.label) words lying t.after

-- a thing that is given is laid on the word; without it the actor waits
abbrev pub gives : Words → Lying → ℕ → WordId → Access → ℕ → ℕ → Actor → Option Cargo → Turn
gives words lying me word access new found a None = Waits found
gives words lying me word access new found a (Some cargo) =
    moves me word access found (write words word new) (lay lying word (Some cargo)) (taken (given a) found)

-- what lies on the word is taken; where nothing lies the actor waits
abbrev pub takes : Words → Lying → ℕ → WordId → Access → ℕ → ℕ → Actor → Option Cargo → Turn
takes words lying me word access new found a None = Waits found
takes words lying me word access new found a (Some cargo) =
    moves me word access found (write words word new) (lay lying word None) (taken (received cargo a) found)

-- the word changes, and with it what changes hands
abbrev pub changes : Words → Lying → ℕ → WordId → Access → Hand → ℕ → ℕ → Actor → Turn
changes words lying me word access Nothing new found a = moves me word access found (write words word new) lying (taken a found)
changes words lying me word access (Give k) new found a = gives words lying me word access new found a (gift_of a)
changes words lying me word access (Take k) new found a = takes words lying me word access new found a (lying_on lying word)

-- what comes of the wanted access: where it isn't ready nothing changes, and a hand moves only where the word changes
abbrev pub accesses : Words → Lying → ℕ → WordId → Access → Hand → Actor → Applied → Turn
accesses words lying me word access hand a (NotReady found) = Waits found
accesses words lying me word access hand a (Same found) = moves me word access found words lying (taken a found)
accesses words lying me word access hand a (Changed new found) = changes words lying me word access hand new found a

abbrev pub turn_wanting : Words → Lying → ℕ → Actor → Want → Turn
turn_wanting words lying me a want.Off = Rests
turn_wanting words lying me a (want.Access word access hand) =
    accesses words lying me word access hand a (applied (read words word) access)

-- the turn of the actor `me`: the access that it wants, on the word as it stands
abbrev pub turn : Words → Lying → ℕ → Actor → Turn
turn words lying me a = turn_wanting words lying me a (want_of a)

-- the world after a turn
abbrev pub turned : World → ℕ → Turn → Stepped × World
turned w me (Moves e words lying a) = (stepped.Event e, record { words = words; lying = lying; actors = slice_set w.actors me a })
turned w me (Waits found) = (stepped.Waiting found, w)
turned w me Rests = (stepped.Off, w)

abbrev pub step_of : World → ℕ → Option Actor → Stepped × World
step_of w me None = (stepped.Off, w)
step_of w me (Some a) = turned w me (turn w.words w.lying me a)

-- One step of an actor: its turn, where there is such an actor.
abbrev pub step : World → ℕ → Stepped × World
step w me = step_of w me (slice_get w.actors me)

-- THE REPLAY OF A SCHEDULE

-- the actor had to wait, or was off
abbrev pub MakesNoEvent : Stepped → Type 0
MakesNoEvent (stepped.Event e) = ⊥
MakesNoEvent (stepped.Waiting found) = Unit {0}
MakesNoEvent stepped.Off = Unit {0}

-- an actor that waits or is off adds nothing
abbrev pub with_event : Stepped → List Event → List Event
with_event (stepped.Event e) es = e ∷ es
with_event (stepped.Waiting found) es = es
with_event stepped.Off es = es

abbrev pub events_from : World → List ℕ → List Event
events_from w [] = []
events_from w (a ∷ rest) = with_event (step w a).0 (events_from (step w a).1 rest)

abbrev pub world_after : World → List ℕ → World
world_after w [] = w
world_after w (a ∷ rest) = world_after (step w a).1 rest

abbrev pub replay_events : SetupData → List Registers → List ImageContents → List ℕ → List Event
replay_events d registers images schedule = events_from (start d registers images) schedule

abbrev pub replay_world : SetupData → List Registers → List ImageContents → List ℕ → World
replay_world d registers images schedule = world_after (start d registers images) schedule

-- every actor is off
abbrev pub is_complete : World → Bool
is_complete w = list_all is_off w.actors

-- the image that a processor last resumed from, or its first
abbrev pub last_in : Option Actor → Option ImageContents
last_in None = None
last_in (Some a) = last_of a

abbrev pub last_image : World → ℕ → Option ImageContents
last_image w i = last_in (slice_get w.actors i)

-- the actors and labels of the events, without the silent ones
abbrev pub with_label : ℕ → Label → List (ℕ × Label) → List (ℕ × Label)
with_label a label.Silent ls = ls
with_label a l ls = (a, l) ∷ ls

abbrev pub labels : List Event → List (ℕ × Label)
labels [] = []
labels (e ∷ es) = with_label e.actor e.label (labels es)

-- a replay of so many processors as far as it has come, with room for so many events
pub record Replay : Type 0 where
  pub processors : ℕ
  pub world : World
  pub events : List Event
  pub room : ℕ
