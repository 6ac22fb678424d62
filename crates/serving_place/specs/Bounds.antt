-- What the state of serving keeps, so that its lists have room: a seat for each of at most 64 processors, and of the tokens that
-- are out those of collected jobs stand on a list, and those of uncollected jobs on seats.
use Rattle.std.specs.Prelude.{◌≤◌, ◌+◌, List, length}
use Rattle.std.specs.List.{filter}
use Rattle.serving_place.specs.Serving.{Seat, Token, has_token}

pub record IsBounded (seats : List Seat) (tokens : List Token) : Type 0 where
  pub size : length seats ≤ 64
  pub few : length tokens + length (filter has_token seats) ≤ 64
