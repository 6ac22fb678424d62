-- What a plan comes to that is carried on, by the laws on bounds and on finishing.
use Rattle.std.proofs.Common.{◌≡◌, ◌≤◌, ◌+◌, ℕ, zero, suc, true, List, [], ◌∷◌, ◌++◌, length, take, All, ap, sym, subst, ◌∙◌, arith}
use Rattle.std.specs.List.{enumerate_from}
use Rattle.std.proofs.lemmas.List.{length-map}
use Rattle.std.proofs.lemmas.List.Elements.{All-nil, All-append}
use Rattle.std.proofs.lemmas.List.FromFn.{length-enumerate_from}
use Rattle.save_state_map.specs.Images.{ImageContents}
use Rattle.cpu_regs.specs.Registers.{Registers}
use Rattle.cpu_table.specs.declared.setup.Setup.{Setup}
use Rattle.cpu_table.specs.Data.{SetupData, data_of}
use Rattle.sync_words.specs.declared.event.Event.{Event}
use Rattle.rendezvous_core.specs.Starts.{AreImagesOf}
use Rattle.rendezvous_core.specs.Worlds.{World, replay_events, replay_world, is_complete, last_image}
use Rattle.rendezvous_core.specs.Finishes.{round_of, rounds, actors_of, IsPrefix}
use Rattle.rendezvous_finish.specs.Finishes.{AreAtMost}
use Rattle.replay_report.specs.declared.inputs.Inputs.{Inputs}
use Rattle.replay_report.specs.Plan.{Plan, plan_of, IsPlayable}
use Rattle.replay_report.specs.Replays.{images_by, registers_of, world_of, replayed}
use Rattle.replay_report.proofs.ReplayLemmas.{same_left, known_range}
use Rattle.finished_replay.specs.Finished.{room_of, finished, by_events, ReachesEnd}

-- THE LAWS

abbrev pub AreBounded : Type 0
AreBounded = (setup : Setup) (registers : List Registers) (images : List ImageContents) (schedule : List ℕ) → length registers ≡ setup.processors → AreImagesOf (data_of setup) images →
    length (replay_events (data_of setup) registers images schedule) ≤ room_of (data_of setup)

abbrev pub CanEnd : Type 0
CanEnd = (setup : Setup) (registers : List Registers) (images : List ImageContents) (schedule : List ℕ) (most : ℕ) → length registers ≡ setup.processors → AreImagesOf (data_of setup) images →
    AreAtMost (data_of setup) registers images most → is_complete (replay_world (data_of setup) registers images (schedule ++ rounds setup.processors most)) ≡ true

abbrev pub BeginSo : Type 0
BeginSo = (d : SetupData) (registers : List Registers) (images : List ImageContents) (schedule more : List ℕ) → IsPrefix (replay_events d registers images schedule) (replay_events d registers images (schedule ++ more))

abbrev pub HaveOwnEvents : Type 0
HaveOwnEvents = (d : SetupData) (registers : List Registers) (images : List ImageContents) (schedule : List ℕ) →
    replay_events d registers images (actors_of (replay_events d registers images schedule)) ≡ replay_events d registers images schedule

abbrev pub HaveOwnWorld : Type 0
HaveOwnWorld = (d : SetupData) (registers : List Registers) (images : List ImageContents) (schedule : List ℕ) →
    replay_world d registers images (actors_of (replay_events d registers images schedule)) ≡ replay_world d registers images schedule

-- THE ROOM

registers_count : (p : Plan) → IsPlayable p → length (registers_of p) ≡ p.setup.processors
registers_count p playable = length-map (enumerate_from 0 p.images) _ ∙ length-enumerate_from 0 p.images ∙ playable.images.count

-- no schedule makes more events than the product of the limits
at_most : AreBounded → (inputs : Inputs) → IsPlayable (plan_of inputs) → AreAtMost (data_of inputs.setup) (registers_of (plan_of inputs)) inputs.images.items (room_of (data_of inputs.setup))
at_most bounded inputs playable schedule = bounded inputs.setup (registers_of (plan_of inputs)) inputs.images.items schedule (registers_count (plan_of inputs) playable) playable.images

pub room_for : AreBounded → (inputs : Inputs) → IsPlayable (plan_of inputs) → (room : ℕ) → room ≡ room_of (data_of inputs.setup) → AreAtMost (data_of inputs.setup) (registers_of (plan_of inputs)) inputs.images.items room
room_for bounded inputs playable room is =
    subst (λ n. AreAtMost (data_of inputs.setup) (registers_of (plan_of inputs)) inputs.images.items n) (sym is) (at_most bounded inputs playable)

-- the schedule that is carried on, by the room
abbrev carried_on : Plan → ℕ → List ℕ
carried_on p room = p.actors ++ rounds p.setup.processors room

pub world_is : (p : Plan) (room : ℕ) (world : World) → room ≡ room_of p.setup → world ≡ replay_world p.setup (registers_of p) p.images (carried_on p room) → world ≡ world_of (finished p)
world_is p room world is made = made ∙ ap (λ n. replay_world p.setup (registers_of p) p.images (carried_on p n)) is

pub events_are : (p : Plan) (room : ℕ) (events : List Event) → room ≡ room_of p.setup → events ≡ replay_events p.setup (registers_of p) p.images (carried_on p room) →
    events ≡ replay_events p.setup (registers_of p) p.images (finished p).actors
events_are p room events is made = made ∙ ap (λ n. replay_events p.setup (registers_of p) p.images (carried_on p n)) is

-- IT CAN BE PLAYED

known_rounds : (n count : ℕ) → All (λ actor. actor ≤ n) (rounds n count)
known_rounds n zero = All-nil (λ actor. actor ≤ n)
known_rounds n (suc count) = All-append (λ actor. actor ≤ n) (round_of n) (rounds n count) (known_range n 0 (n + 1) (omega arith)) (known_rounds n count)

pub playable_on : (p : Plan) → IsPlayable p → IsPlayable (finished p)
playable_on p playable = record {
  some = playable.some;
  few = playable.few;
  visits = playable.visits;
  policy = playable.policy;
  waves = playable.waves;
  handlers = playable.handlers;
  images = playable.images;
  relocatable = playable.relocatable;
  known = All-append (λ actor. actor ≤ p.setup.processors) p.actors (rounds p.setup.processors (room_of p.setup)) playable.known (known_rounds p.setup.processors (room_of p.setup));
}

-- IT REACHES THE END

complete_there : CanEnd → AreBounded → (inputs : Inputs) → IsPlayable (plan_of inputs) → (replayed (finished (plan_of inputs))).complete ≡ true
unfolding replayed
complete_there can bounded inputs playable =
    can inputs.setup (registers_of (plan_of inputs)) inputs.images.items inputs.actors.items (room_of (data_of inputs.setup)) (registers_count (plan_of inputs) playable) playable.images (at_most bounded inputs playable)

begins_so : BeginSo → (p : Plan) → take (length (replayed p).events) (replayed (finished p)).events ≡ (replayed p).events
unfolding replayed
begins_so begin p = begin p.setup (registers_of p) p.images p.actors (rounds p.setup.processors (room_of p.setup))

-- a replay is that of its own actors
own_replay : HaveOwnEvents → HaveOwnWorld → (p : Plan) → replayed (by_events p) ≡ replayed p
unfolding replayed
own_replay events world p =
    let same : world_of (by_events p) ≡ world_of p = world p.setup (registers_of p) p.images p.actors in
    same_left (replayed (by_events p)) (replayed p) (events p.setup (registers_of p) p.images p.actors) (ap is_complete same) (ap (λ w. images_by (last_image w) p.setup.processors) same)

pub reaches_end : CanEnd → AreBounded → BeginSo → HaveOwnEvents → HaveOwnWorld → (inputs : Inputs) → IsPlayable (plan_of inputs) → ReachesEnd (plan_of inputs)
reaches_end can bounded begin events world inputs playable = record {
  playable = playable_on (plan_of inputs) playable;
  complete = complete_there can bounded inputs playable;
  begins = begins_so begin (plan_of inputs);
  own = own_replay events world (finished (plan_of inputs));
}
