-- Whole schedules: what each step keeps holds after every schedule, and a schedule in two parts.
use Rattle.std.proofs.Common.{◌≡◌, ℕ, List, [], ◌∷◌, ◌++◌, Option, Some, None, length, refl, ap, sym, subst, ◌∙◌, append_assoc, append-nil}
use Rattle.std.specs.Prelude.{slice_get}
use Rattle.std.proofs.lemmas.List.{length-set}
use Rattle.sync_words.specs.declared.event.Event.{Event}
use Rattle.cpu_program.specs.Actors.{Actor}
use Rattle.rendezvous_core.specs.declared.stepped.Stepped.{Stepped}
use Rattle.rendezvous_core.specs.declared.stepped.Stepped.TheVariants as stepped
use Rattle.rendezvous_core.specs.Worlds.{World, Turn, Moves, Waits, Rests, turn, turned, step_of, step, with_event, events_from, world_after, MakesNoEvent}
use Rattle.rendezvous_core.proofs.ReplayLemmas.{with_event_append}

-- What holds of a world and of the events so far, and is kept by each step, holds after every schedule.
pub after_schedule : (P : World → List Event → Type 0)
    → ((w : World) (es : List Event) (me : ℕ) → P w es → P (step w me).1 (es ++ with_event (step w me).0 []))
    → (schedule : List ℕ) (w : World) (es : List Event) → P w es → P (world_after w schedule) (es ++ events_from w schedule)
after_schedule P kept [] w es h = subst (λ (xs : List Event). P w xs) (sym (append-nil es)) h
after_schedule P kept (me ∷ rest) w es h =
    let s = step w me in
    let joined : (es ++ with_event s.0 []) ++ events_from s.1 rest ≡ es ++ with_event s.0 (events_from s.1 rest) =
    append_assoc es (with_event s.0 []) (events_from s.1 rest) ∙ ap (λ e. es ++ e) (with_event_append s.0 (events_from s.1 rest)) in
    subst (λ (xs : List Event). P (world_after s.1 rest) xs) joined (after_schedule P kept rest s.1 (es ++ with_event s.0 []) (kept w es me h))

with_event_more : (s : Stepped) (es more : List Event) → with_event s (es ++ more) ≡ with_event s es ++ more
with_event_more (stepped.Event e) es more = refl
with_event_more (stepped.Waiting found) es more = refl
with_event_more stepped.Off es more = refl

-- a schedule in two parts
pub events_append : (w : World) (done rest : List ℕ) → events_from w (done ++ rest) ≡ events_from w done ++ events_from (world_after w done) rest
events_append w [] rest = refl
events_append w (me ∷ done) rest =
    ap (λ es. with_event (step w me).0 es) (events_append (step w me).1 done rest)
    ∙ with_event_more (step w me).0 (events_from (step w me).1 done) (events_from (world_after (step w me).1 done) rest)

pub world_append : (w : World) (done rest : List ℕ) → world_after w (done ++ rest) ≡ world_after (world_after w done) rest
world_append w [] rest = refl
world_append w (me ∷ done) rest = world_append (step w me).1 done rest

turned_stays : (w : World) (me : ℕ) (t : Turn) → MakesNoEvent (turned w me t).0 → (turned w me t).1 ≡ w
turned_stays w me (Moves e words lying a) h = absurd h
turned_stays w me (Waits found) h = refl
turned_stays w me Rests h = refl

-- a step that makes no event changes nothing
pub step_stays : (w : World) (me : ℕ) → MakesNoEvent (step w me).0 → (step w me).1 ≡ w
step_stays w me h = by_actor (slice_get w.actors me) h
  where
    by_actor : (o : Option Actor) → MakesNoEvent (step_of w me o).0 → (step_of w me o).1 ≡ w
    by_actor None h = refl
    by_actor (Some a) h = turned_stays w me (turn w.words w.lying me a) h

turned_actors : (w : World) (me : ℕ) (t : Turn) → length (turned w me t).1.actors ≡ length w.actors
turned_actors w me (Moves e words lying a) = length-set w.actors me a
turned_actors w me (Waits found) = refl
turned_actors w me Rests = refl

-- as many actors as before
pub step_actors : (w : World) (me : ℕ) → length (step w me).1.actors ≡ length w.actors
step_actors w me = by_actor (slice_get w.actors me)
  where
    by_actor : (o : Option Actor) → length (step_of w me o).1.actors ≡ length w.actors
    by_actor None = refl
    by_actor (Some a) = turned_actors w me (turn w.words w.lying me a)
