use Rattle.std.proofs.Common.{◌≡◌, ◌≤◌, ◌+◌, length, drop}
use Rattle.std.specs.List.{filter}
use Rattle.serving_place.specs.Serving.{has_token}
use Rattle.serving_place.proofs.state.with_tokens.Given as goal

abbrev pub invariant-loop-seat : goal.invariant-loop-seat
invariant-loop-seat l = record {
  left : l.count + length (filter has_token (drop l.seat-index l.seats)) ≡ length (filter has_token l.seats);
  few : l.count ≤ l.seat-index;
}
