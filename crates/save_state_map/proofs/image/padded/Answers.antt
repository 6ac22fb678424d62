use Rattle.std.proofs.Common.{ℕ, List, ◌++◌, length, ap}
use Rattle.std.proofs.lemmas.List.{drop-replicate}
use Rattle.save_state_map.proofs.image.padded.Goals as goal

pub returns : goal.returns
returns c = rw c.copy_from_slice.ensures.after (ap (λ (r : List ℕ). c.args.bytes.now ++ r) (drop-replicate (length c.args.bytes.now) 1024 0))
