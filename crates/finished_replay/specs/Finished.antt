-- A schedule that is carried on by rounds of all actors, and what becomes of it.
use Rattle.std.specs.Prelude.{ℕ, ◌≡◌, ◌++◌, length, take, true}
use Rattle.cpu_table.specs.Data.{SetupData}
use Rattle.cpu_table.specs.Ranges.{events_at_most}
use Rattle.rendezvous_core.specs.Finishes.{rounds, actors_of}
use Rattle.replay_report.specs.Plan.{Plan, plan, IsPlayable}
use Rattle.replay_report.specs.Replays.{replayed}

-- how many events there can be on a platform: the product of its limits
abbrev pub room_of : SetupData → ℕ
room_of d = events_at_most d.processors d.t1 d.t2 d.visits d.ops

-- Behind the schedule come as many rounds of all actors as there can be events. Where every actor is off a round changes
-- nothing.
abbrev pub finished : Plan → Plan
finished p = plan p.setup p.images (p.actors ++ rounds p.setup.processors (room_of p.setup))

-- the same plan with a schedule of just the actors that make the events
abbrev pub by_events : Plan → Plan
by_events p = plan p.setup p.images (actors_of (replayed p).events)

-- The plan that is carried on can be played. At its end every actor is off; its first events are those of the schedule; and it is the
-- replay of the actors of its own events.
pub record ReachesEnd (p : Plan) : Type 0 where
  pub playable : IsPlayable (finished p)
  pub complete : (replayed (finished p)).complete ≡ true
  pub begins : take (length (replayed p).events) (replayed (finished p)).events ≡ (replayed p).events
  pub own : replayed (by_events (finished p)) ≡ replayed (finished p)
