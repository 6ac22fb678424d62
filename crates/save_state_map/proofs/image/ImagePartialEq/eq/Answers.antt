use Rattle.std.proofs.Common.{◌≡◌, ◌-◌, ◌++◌, length, replicate}
use Rattle.save_state_map.specs.Padding.{image_bytes_back}
use Rattle.save_state_map.proofs.image.ImagePartialEq.eq.Goals as goal

pub returns : goal.returns
returns c =
    let left : c.args.self.now.bytes ++ replicate (1024 - length c.args.self.now.bytes) 0 ≡ c.t1-1.inside.bytes = rw (← c.t1-1.view_is) (image_bytes_back c.t1-1.inside.kind c.t1-1.inside.bytes c.t1-1.invariant) in
    let right : c.args.other.now.bytes ++ replicate (1024 - length c.args.other.now.bytes) 0 ≡ c.t2-1.inside.bytes = rw (← c.t2-1.view_is) (image_bytes_back c.t2-1.inside.kind c.t2-1.inside.bytes c.t2-1.invariant) in
    rw (c.and_eq.ensures, c.eq.ensures, left, right, ← c.t1-1.view_is, ← c.t2-1.view_is)
