-- The token goes from the seat to the list.
use Rattle.std.proofs.Common.{◌<◌, ◌∙◌, IsTrue, length, sym, ap, subst}
use Rattle.serving_place.specs.Serving.{Serving, Seat, seat, has_token}
use Rattle.serving_place.proofs.Room.{bounded_collected, room_for_token}
use Rattle.serving_place.proofs.state.State.collect.Goals as goal

pub add_token-requires : goal.add_token-requires
add_token-requires c =
    let own = ap (λ (s : Serving). seat s c.args.cpu) c.self.view_is ∙ sym c.seat-seat.ensures in
    subst (λ (q : Seat). IsTrue (has_token q) → length c.self.inside.tokens < 64) own
    (room_for_token c.self.inside.seats.items c.self.inside.tokens c.args.cpu c.self.invariant)

pub invariant_of-self : goal.invariant_of-self
invariant_of-self c =
    let own = ap (λ (s : Serving). seat s c.args.cpu) (sym c.self.view_is) in
    rw (c.set_seat.ensures, c.add_token.ensures, c.seat-seat.ensures, own) (bounded_collected c.self.inside.seats.items c.self.inside.tokens c.args.cpu c.self.invariant)
