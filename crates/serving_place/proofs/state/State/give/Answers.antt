-- One more token at most.
use Rattle.std.proofs.Common.{◌<◌, IsTrue, sym, subst}
use Rattle.serving_place.specs.Serving.{Serving, tokens_out}
use Rattle.serving_place.proofs.Room.{bounded_given}
use Rattle.serving_place.proofs.state.State.give.Goals as goal

pub invariant_of-self : goal.invariant_of-self
invariant_of-self c =
    rw (c.set_seat.ensures)
    (bounded_given c.self.inside.seats.items c.self.inside.tokens c.args.cpu c.args.job c.args.has_token
    (subst (λ (s : Serving). IsTrue c.args.has_token → tokens_out s < 64) (sym c.self.view_is) c.requires) c.self.invariant)
