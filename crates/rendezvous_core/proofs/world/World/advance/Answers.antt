-- A step takes and brings no actor, and there is room for its event.
use Rattle.std.proofs.Common.{List, length, sym, subst, ap, arith}
use Rattle.std.proofs.lemmas.List.{with_items_is}
use Rattle.std.specs.Prelude.{slice_get, IsSomeAnd}
use Rattle.cpu_program.specs.Actors.{Actor}
use Rattle.rendezvous_core.specs.WorldInside.{HasNumber, AreActors}
use Rattle.rendezvous_core.specs.Worlds.{Replay}
use Rattle.rendezvous_core.proofs.ActorLemmas.{kept_actors}
use Rattle.rendezvous_core.proofs.world.World.advance.Goals as goal

pub step_of-requires-clause-number : goal.step_of-requires-clause-number
step_of-requires-clause-number c =
    subst (λ (xs : List Actor). IsSomeAnd (slice_get xs c.args.actor) (HasNumber c.args.actor)) (sym c.deref_mut.ensures.value)
    (c.self.invariant.actors.numbers c.args.actor (omega (arith, c.requires.actor_in, ap (λ (r : Replay). r.processors) c.self.view_is)))

pub step_of-requires-clause-room : goal.step_of-requires-clause-room
step_of-requires-clause-room c =
    omega (arith, c.requires.has_room, c.self.invariant.room, ap (λ (r : Replay). r.room) c.self.view_is, ap (λ (r : Replay). length r.events) c.self.view_is)

pub invariant_of-self : goal.invariant_of-self
invariant_of-self c =
    let w = c.self.inside in
    let kept = kept_actors w.processors w.words c.step_of.new.words w.lying c.step_of.new.lying c.deref_mut.result.now w.programs.items c.step_of.new.programs c.args.actor
    c.deref_mut.ensures.value c.step_of.ensures.world c.self.invariant.actors in
    let same = with_items_is w.programs c.step_of.new.programs (omega (arith, kept.count, c.self.invariant.actors.count, w.programs.ok.0)) in
    record { actors = subst (λ (xs : List Actor). AreActors w.processors xs) (sym same) kept; room = omega (arith, c.self.invariant.room, c.step_of.ensures.capacity) }
