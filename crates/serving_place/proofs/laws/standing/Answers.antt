use Rattle.serving_place.proofs.Judging.{begins, follows, ends_whole}
use Rattle.serving_place.proofs.Numbers.{leads_kept}
use Rattle.serving_place.proofs.laws.standing.Goals as goal

pub returns : goal.returns
returns c = record { begins = begins; follows = follows; whole = ends_whole; kept = leads_kept }
