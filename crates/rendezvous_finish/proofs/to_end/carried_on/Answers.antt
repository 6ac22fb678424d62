-- The schedule, and the rounds.
use Rattle.std.proofs.Common.{◌≡◌, ◌≤◌, ℕ, sym, subst}
use Rattle.std.specs.Prelude.{All}
use Rattle.rendezvous_core.specs.Finishes.{rounds, played_on, HasRoomForAll}
use Rattle.rendezvous_core.specs.Worlds.{Replay}
use Rattle.rendezvous_core.proofs.Steps.{still_has_room}
use Rattle.rendezvous_finish.proofs.Reached.{reached_goes_on}
use Rattle.rendezvous_finish.proofs.ToEnd.{reached_further, carried}
use Rattle.rendezvous_finish.proofs.to_end.carried_on.Goals as goal

pub play-requires-clause-known : goal.play-requires-clause-known
play-requires-clause-known c = subst (All (λ (actor : ℕ). actor ≤ c.args.world.processors)) (sym c.as_slice.ensures.value) c.requires.known

pub play-requires-clause-goes_on : goal.play-requires-clause-goes_on
play-requires-clause-goes_on c = reached_goes_on c.args.setup.now c.args.world c.requires.reached

pub finish-requires-clause-few : goal.finish-requires-clause-few
finish-requires-clause-few c =
    let further = reached_further c.args.setup.now c.args.world c.play.new.self _ c.requires.reached c.play.ensures in
    subst (λ (n : ℕ). n ≤ 64) (sym further.processors) c.args.setup.now.processors_in_range.1

pub finish-requires-clause-goes_on : goal.finish-requires-clause-goes_on
finish-requires-clause-goes_on c =
    reached_goes_on c.args.setup.now c.play.new.self (reached_further c.args.setup.now c.args.world c.play.new.self _ c.requires.reached c.play.ensures)

pub finish-requires-clause-has_room : goal.finish-requires-clause-has_room
finish-requires-clause-has_room c = subst HasRoomForAll (sym c.play.ensures) (still_has_room c.args.world _ c.requires.has_room)

pub returns-clause-played : goal.returns-clause-played
returns-clause-played c =
    let s : Replay = c.play.new.self in
    let further = reached_further c.args.setup.now c.args.world s _ c.requires.reached c.play.ensures in
    let played = subst (λ (n : ℕ). c.finish.new.self ≡ played_on s (rounds n s.room)) further.processors c.finish.ensures.played in
    carried c.args.world s c.finish.new.self c.args.setup.now.processors _ _ c.as_slice.ensures.value c.play.ensures played
