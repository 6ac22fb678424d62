-- A replay is that of the actors of its own events.
use Rattle.std.proofs.Common.{◌≡◌, ℕ, List, [], ◌∷◌, ◌++◌, Option, Some, None, length, take, refl, ap, sym, subst, ◌∙◌}
use Rattle.std.specs.Prelude.{slice_get}
use Rattle.std.proofs.Math.Seq.{take-append_seam}
use Rattle.save_state_map.specs.Images.{ImageContents}
use Rattle.cpu_regs.specs.Registers.{Registers}
use Rattle.cpu_table.specs.Data.{SetupData}
use Rattle.sync_words.specs.declared.access.Access.{Access}
use Rattle.sync_words.specs.declared.access.Applied.{Applied}
use Rattle.sync_words.specs.declared.access.Applied.TheVariants.{Changed, Same, NotReady}
use Rattle.sync_words.specs.declared.event.Event.{Event}
use Rattle.sync_words.specs.declared.event.Hand.{Hand}
use Rattle.sync_words.specs.declared.event.Hand.TheVariants.{Nothing, Give, Take}
use Rattle.sync_words.specs.declared.event.Want.{Want}
use Rattle.sync_words.specs.declared.event.Want.TheVariants as want
use Rattle.sync_words.specs.declared.word.WordId.{WordId}
use Rattle.sync_words.specs.Access.{applied}
use Rattle.cpu_program.specs.Actors.{Actor}
use Rattle.cpu_program.specs.declared.cargo.Cargo.{Cargo}
use Rattle.cpu_program.specs.Programs.{want_of, gift_of}
use Rattle.rendezvous_core.specs.declared.stepped.Stepped.{Stepped}
use Rattle.rendezvous_core.specs.declared.stepped.Stepped.TheVariants as stepped
use Rattle.rendezvous_core.specs.Worlds.{World, Words, Lying, Replay, Turn, Moves, Waits, Rests, read, lying_on, gives, takes, changes, accesses, turn_wanting, turn, turned, step_of, step, with_event, events_from, world_after, start, replay_events, MakesNoEvent}
use Rattle.rendezvous_core.proofs.Scheduling.{events_append, world_append, step_stays}
use Rattle.rendezvous_core.specs.Finishes.{actors_of, played_on, IsPrefix, IsReplayOf, IsReplayOfItsActors}

-- WHO MADE AN EVENT

-- an event of this turn has this actor
abbrev IsBy : ℕ → Turn → Type 0
IsBy me (Moves e words lying a) = e.actor ≡ me
IsBy me (Waits found) = Unit {0}
IsBy me Rests = Unit {0}

module _ (words : Words) (lying : Lying) (me : ℕ) (word : WordId) (x : Access) (a : Actor) where
  gives_by : (new found : ℕ) (o : Option Cargo) → IsBy me (gives words lying me word x new found a o)
  gives_by new found None = tt
  gives_by new found (Some cargo) = refl

  takes_by : (new found : ℕ) (o : Option Cargo) → IsBy me (takes words lying me word x new found a o)
  takes_by new found None = tt
  takes_by new found (Some cargo) = refl

  changes_by : (hand : Hand) (new found : ℕ) → IsBy me (changes words lying me word x hand new found a)
  changes_by Nothing new found = refl
  changes_by (Give k) new found = gives_by new found (gift_of a)
  changes_by (Take k) new found = takes_by new found (lying_on lying word)

  accesses_by : (hand : Hand) (r : Applied) → IsBy me (accesses words lying me word x hand a r)
  accesses_by hand (NotReady found) = tt
  accesses_by hand (Same found) = refl
  accesses_by hand (Changed new found) = changes_by hand new found

wanting_by : (words : Words) (lying : Lying) (me : ℕ) (a : Actor) (w : Want) → IsBy me (turn_wanting words lying me a w)
wanting_by words lying me a want.Off = tt
wanting_by words lying me a (want.Access word x hand) = accesses_by words lying me word x a hand (applied (read words word) x)

turned_by : (w : World) (me : ℕ) (t : Turn) (e : Event) → IsBy me t → (turned w me t).0 ≡ stepped.Event e → e.actor ≡ me
turned_by w me (Moves f words lying a) e by is = let same : f ≡ e = cc in ap (λ (x : Event). x.actor) (sym same) ∙ by
turned_by w me (Waits found) e by is = absurd cc
turned_by w me Rests e by is = absurd cc

event_by : (w : World) (me : ℕ) (e : Event) → (step w me).0 ≡ stepped.Event e → e.actor ≡ me
event_by w me e is = by_actor (slice_get w.actors me) is
  where
    by_actor : (o : Option Actor) → (step_of w me o).0 ≡ stepped.Event e → e.actor ≡ me
    by_actor None is = absurd cc
    by_actor (Some a) is = turned_by w me (turn w.words w.lying me a) e (wanting_by w.words w.lying me a (want_of a)) is

-- ITS OWN ACTORS

-- the steps of the actors of a schedule's events are those of the schedule
pub record IsOwn (w : World) (schedule : List ℕ) : Type 0 where
  pub events : events_from w (actors_of (events_from w schedule)) ≡ events_from w schedule
  pub world : world_after w (actors_of (events_from w schedule)) ≡ world_after w schedule

abbrev IsOwnOf : World → Stepped → World → List ℕ → Type 0
IsOwnOf w s next rest =
    (events_from w (actors_of (with_event s (events_from next rest))) ≡ with_event s (events_from next rest))
    × (world_after w (actors_of (with_event s (events_from next rest))) ≡ world_after next rest)

own_idle : (w : World) (i : ℕ) (rest : List ℕ) → MakesNoEvent (step w i).0 → IsOwn (step w i).1 rest →
    (events_from w (actors_of (events_from (step w i).1 rest)) ≡ events_from (step w i).1 rest) × (world_after w (actors_of (events_from (step w i).1 rest)) ≡ world_after (step w i).1 rest)
own_idle w i rest h own =
    let stays : w ≡ (step w i).1 = sym (step_stays w i h) in
    let actors : List ℕ = actors_of (events_from (step w i).1 rest) in
    (ap (λ v. events_from v actors) stays ∙ own.events, ap (λ v. world_after v actors) stays ∙ own.world)

own_step : (w : World) (i : ℕ) (rest : List ℕ) (s : Stepped) → (step w i).0 ≡ s → IsOwn (step w i).1 rest → IsOwnOf w s (step w i).1 rest
own_step w i rest (stepped.Event e) is own =
    let by : e.actor ≡ i = event_by w i e is in
    let next : World = (step w i).1 in
    let actors : List ℕ = actors_of (events_from next rest) in (
      ap (λ x. events_from w (x ∷ actors)) by ∙ ap (λ x. with_event x (events_from next actors)) is ∙ ap (λ es. e ∷ es) own.events,
      ap (λ x. world_after w (x ∷ actors)) by ∙ own.world,
    )
own_step w i rest (stepped.Waiting found) is own = own_idle w i rest (subst MakesNoEvent (sym is) tt) own
own_step w i rest stepped.Off is own = own_idle w i rest (subst MakesNoEvent (sym is) tt) own

pub own : (w : World) (schedule : List ℕ) → IsOwn w schedule
own w [] = record { events = refl; world = refl }
own w (i ∷ rest) =
    let both = own_step w i rest (step w i).0 refl (own (step w i).1 rest) in
    record { events = both.0; world = both.1 }

-- REPLAYS OF A PLATFORM

module _ (d : SetupData) (registers : List Registers) (images : List ImageContents) where
  -- a replay that goes on is that of a longer schedule
  pub replay_on : (r : Replay) (schedule more : List ℕ) → IsReplayOf d registers images schedule r → IsReplayOf d registers images (schedule ++ more) (played_on r more)
  replay_on r schedule more h =
      let w : World = start d registers images in
      record {
        world = ap (λ v. world_after v more) h.world ∙ sym (world_append w schedule more);
        events = ap (λ es. es ++ events_from r.world more) h.events ∙ ap (λ v. events_from w schedule ++ events_from v more) h.world ∙ sym (events_append w schedule more);
      }

  pub replay_own : (r : Replay) (schedule : List ℕ) → IsReplayOf d registers images schedule r → IsReplayOf d registers images (actors_of r.events) r
  replay_own r schedule h =
      let w : World = start d registers images in
      let same : actors_of (events_from w schedule) ≡ actors_of r.events = ap actors_of (sym h.events) in
      record {
        world = h.world ∙ sym (own w schedule).world ∙ ap (λ s. world_after w s) same;
        events = h.events ∙ sym (own w schedule).events ∙ ap (λ s. events_from w s) same;
      }

  -- the events of the first part come first
  pub replay_begins : (schedule more : List ℕ) → IsPrefix (replay_events d registers images schedule) (replay_events d registers images (schedule ++ more))
  replay_begins schedule more =
      let w : World = start d registers images in
      let first : List Event = events_from w schedule in
      ap (take (length first)) (events_append w schedule more) ∙ take-append_seam first (events_from (world_after w schedule) more)

pub played_own : (r : Replay) (more : List ℕ) → IsReplayOfItsActors r (played_on r more)
played_own r more d registers images schedule h = replay_own d registers images (played_on r more) (schedule ++ more) (replay_on d registers images r schedule more h)
