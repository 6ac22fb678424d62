-- No job was given, and no token.
use Rattle.serving_place.proofs.Room.{bounded_fresh}
use Rattle.serving_place.proofs.state.State.new.Goals as goal

pub invariant_of-result : goal.invariant_of-result
invariant_of-result c = bounded_fresh _ _ c.requires.few c.requires.free c.requires.fresh
