-- There are no more tokens than before.
use Rattle.serving_place.proofs.Room.{bounded_dropped}
use Rattle.serving_place.proofs.state.State.drop_token.Goals as goal

pub invariant_of-self : goal.invariant_of-self
invariant_of-self c = bounded_dropped c.self.inside.seats.items c.self.inside.tokens c.drop_job.new.self c.drop_job.ensures.few c.self.invariant
