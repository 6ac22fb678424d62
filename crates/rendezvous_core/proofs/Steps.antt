-- What steps of a replay keep, and that they change nothing where all are off.
use Rattle.std.proofs.Common.{◌≡◌, ◌<◌, ◌≤◌, ◌⊎◌, inl, inr, ℕ, zero, suc, ◌+◌, Bool, true, false, List, [], ◌∷◌, ◌++◌, Option, Some, None, length, take, get_or, refl, ap, sym, subst, ◌∙◌, arith, append-nil, append_assoc, length-append}
use Rattle.std.specs.Prelude.{◌&&◌, slice_get}
use Rattle.std.specs.List.{list_all}
use Rattle.std.proofs.lemmas.List.{take_more, take_all}
use Rattle.sync_words.specs.declared.event.Event.{Event}
use Rattle.sync_words.specs.declared.event.Want.{Want}
use Rattle.sync_words.specs.declared.event.Want.TheVariants as want
use Rattle.sync_words.specs.declared.row.Row.{Row}
use Rattle.chipset.specs.Chipsets.{want_at_row}
use Rattle.cpu_program.specs.Actors.{Actor, OfProcessor, OfChipset, Processor}
use Rattle.cpu_program.specs.declared.part.Part.{Part}
use Rattle.cpu_program.specs.declared.part.Part.TheVariants.{Between, Entering, Gathering, Closing, Serving, Exiting, Reporting, Off}
use Rattle.cpu_program.specs.Processors.{want_in, is_off_part}
use Rattle.cpu_program.specs.Programs.{want_of, is_off}
use Rattle.rendezvous_core.specs.Endings.{MakesEvent, CanGoOn, IsNeverStuck}
use Rattle.rendezvous_core.specs.declared.stepped.Stepped.{Stepped}
use Rattle.rendezvous_core.specs.declared.stepped.Stepped.TheVariants as stepped
use Rattle.rendezvous_core.specs.Worlds.{World, Replay, turn_wanting, turned, step_of, step, with_event, events_from, world_after, is_complete, MakesNoEvent}
use Rattle.rendezvous_core.proofs.Scheduling.{events_append, world_append, step_stays}
use Rattle.rendezvous_core.specs.Finishes.{played_on, HasRoomForAll}

-- PLAYING ON

pub same_replay : (r s : Replay) → s.processors ≡ r.processors → s.world ≡ r.world → s.events ≡ r.events → s.room ≡ r.room → s ≡ r
same_replay r s processors world events room = λ t. record { processors = processors t; world = world t; events = events t; room = room t }

pub played_none : (r : Replay) → played_on r [] ≡ r
played_none r = same_replay r (played_on r []) refl refl (append-nil r.events) refl

pub played_more : (r : Replay) (done rest : List ℕ) → played_on (played_on r done) rest ≡ played_on r (done ++ rest)
played_more r done rest =
    same_replay (played_on r (done ++ rest)) (played_on (played_on r done) rest) refl
    (sym (world_append r.world done rest))
    (append_assoc r.events (events_from r.world done) (events_from (world_after r.world done) rest) ∙ ap (λ es. r.events ++ es) (sym (events_append r.world done rest)))
    refl

-- nothing is stuck further on either
pub still_goes_on : (w : World) (done : List ℕ) → IsNeverStuck w → IsNeverStuck (world_after w done)
still_goes_on w done h rest =
    subst (λ (x : World). (is_complete x ≡ true) ⊎ CanGoOn x) (world_append w done rest) (h (done ++ rest))

-- there is room for what is left
pub still_has_room : (r : Replay) (done : List ℕ) → HasRoomForAll r → HasRoomForAll (played_on r done)
still_has_room r done h rest =
    let whole = h (done ++ rest) in
    let two = ap length (events_append r.world done rest) in
    let sum = length-append (events_from r.world done) (events_from (world_after r.world done) rest) in
    let so_far = length-append r.events (events_from r.world done) in
    omega (arith, whole, two, sum, so_far)

-- WHERE ALL ARE OFF

part_rests : (part : Part) (p : Processor) → is_off_part part ≡ true → want_in part p ≡ want.Off
part_rests Off p h = refl
part_rests (Between r) p h = absurd cc
part_rests (Entering e) p h = absurd cc
part_rests (Gathering g) p h = absurd cc
part_rests (Closing c) p h = absurd cc
part_rests Serving p h = absurd cc
part_rests (Exiting e) p h = absurd cc
part_rests (Reporting r) p h = absurd cc

rests : (a : Actor) → is_off a ≡ true → want_of a ≡ want.Off
rests (OfProcessor p) h = part_rests p.part p h
rests (OfChipset c) h = row_rests c.row h
  where
    row_rests : (o : Option Row) → is_off (OfChipset (record c { row = o })) ≡ true → want_at_row o c ≡ want.Off
    row_rests None h = refl
    row_rests (Some r) h = absurd cc

turn_rests : (w : World) (i : ℕ) (a : Actor) (x : Want) → x ≡ want.Off → MakesNoEvent (turned w i (turn_wanting w.words w.lying i a x)).0
turn_rests w i a want.Off e = tt
turn_rests w i a (want.Access word access hand) e = absurd cc

both_parts : (a b : Bool) → (a && b) ≡ true → (a ≡ true) × (b ≡ true)
both_parts true b h = (refl, h)
both_parts false b h = absurd cc

-- an actor of a list of which all are off is off
off_at : (w : World) (i k : ℕ) (actors : List Actor) → list_all is_off actors ≡ true → MakesNoEvent (step_of w i (slice_get actors k)).0
off_at w i k [] h = tt
off_at w i zero (a ∷ rest) h = turn_rests w i a (want_of a) (rests a (both_parts (is_off a) (list_all is_off rest) h).0)
off_at w i (suc k) (a ∷ rest) h = off_at w i k rest (both_parts (is_off a) (list_all is_off rest) h).1

pub complete_rests : (w : World) (i : ℕ) → is_complete w ≡ true → MakesNoEvent (step w i).0
complete_rests w i h = off_at w i i w.actors h

no_event : (s : Stepped) (es : List Event) → MakesNoEvent s → with_event s es ≡ es
no_event (stepped.Event e) es h = absurd h
no_event (stepped.Waiting found) es h = refl
no_event stepped.Off es h = refl

-- a step without an event adds nothing to a schedule
pub step_adds_none : (w : World) (i : ℕ) (rest : List ℕ) → MakesNoEvent (step w i).0 → (world_after w (i ∷ rest) ≡ world_after w rest) × (events_from w (i ∷ rest) ≡ events_from w rest)
step_adds_none w i rest h =
    let stays = step_stays w i h in
    (ap (λ x. world_after x rest) stays, no_event (step w i).0 (events_from (step w i).1 rest) h ∙ ap (λ x. events_from x rest) stays)

pub complete_stays : (w : World) (schedule : List ℕ) → is_complete w ≡ true → (world_after w schedule ≡ w) × (events_from w schedule ≡ [])
complete_stays w [] h = (refl, refl)
complete_stays w (i ∷ rest) h =
    let now = step_adds_none w i rest (complete_rests w i h) in
    let more = complete_stays w rest h in
    (now.0 ∙ more.0, now.1 ∙ more.1)

-- where all are off a replay stays as it is
pub replay_stays : (r : Replay) (schedule : List ℕ) → is_complete r.world ≡ true → played_on r schedule ≡ r
replay_stays r schedule h =
    let stay = complete_stays r.world schedule h in
    same_replay r (played_on r schedule) refl stay.0 (ap (λ es. r.events ++ es) stay.1 ∙ append-nil r.events) refl

-- A STEP

event_counts : (s : Stepped) → MakesEvent s → length (with_event s []) ≡ 1
event_counts (stepped.Event e) h = refl
event_counts (stepped.Waiting found) h = absurd h
event_counts stepped.Off h = absurd h

-- where not all are off, there is room for an event
pub room_for_event : (r : Replay) → IsNeverStuck r.world → HasRoomForAll r → is_complete r.world ≡ false → length r.events < r.room
room_for_event r goes room on = by_case (goes [])
  where
    by_case : (is_complete r.world ≡ true) ⊎ CanGoOn r.world → length r.events < r.room
    by_case (inl off) = absurd (different (is_complete r.world) off on)
      where
        different : (b : Bool) → b ≡ true → b ≡ false → ⊥
        different true h k = cc
        different false h k = cc
    by_case (inr more) =
        let fits = room (more.0 ∷ []) in
        let one = event_counts (step r.world more.0).0 more.2 in
        omega (arith, fits, one)

-- a step that keeps its event is the replay of one actor more
pub step_plays : (r s : Replay) (i : ℕ) → s.processors ≡ r.processors → s.world ≡ (step r.world i).1 → s.events ≡ r.events ++ with_event (step r.world i).0 [] → s.room ≡ r.room → s ≡ played_on r (i ∷ [])
step_plays r s i processors world events room = same_replay (played_on r (i ∷ [])) s processors world events room

-- A SCHEDULE IN STEPS

-- what the start of a replay tells of where it has come
pub record IsFurther (r now : Replay) (done : List ℕ) : Type 0 where
  pub goes_on : IsNeverStuck now.world
  pub has_room : HasRoomForAll now
  pub processors : now.processors ≡ r.processors

pub further : (r now : Replay) (done : List ℕ) → now ≡ played_on r done → IsNeverStuck r.world → HasRoomForAll r → IsFurther r now done
further r now done is goes room =
    subst (λ (x : Replay). IsFurther r x done) (sym is) (record { goes_on = still_goes_on r.world done goes; has_room = still_has_room r done room; processors = refl })

-- an actor of a schedule more
pub schedule_more : (r now next : Replay) (schedule : List ℕ) (i d : ℕ) → i < length schedule → now ≡ played_on r (take i schedule) → next ≡ played_on now (get_or schedule i d ∷ []) → next ≡ played_on r (take (i + 1) schedule)
schedule_more r now next schedule i d within is step =
    step
    ∙ ap (λ (x : Replay). played_on x (get_or schedule i d ∷ [])) is
    ∙ played_more r (take i schedule) (get_or schedule i d ∷ [])
    ∙ ap (played_on r) (sym (take_more schedule i d within))

pub schedule_end : (r now : Replay) (schedule : List ℕ) (i : ℕ) → length schedule ≤ i → now ≡ played_on r (take i schedule) → now ≡ played_on r schedule
schedule_end r now schedule i past is = is ∙ ap (played_on r) (take_all i schedule past)

-- where all are off nothing has to be done for a step
pub off_plays : (r s : Replay) (i : ℕ) → is_complete r.world ≡ true → s ≡ r → s ≡ played_on r (i ∷ [])
off_plays r s i off same = same ∙ sym (replay_stays r (i ∷ []) off)
