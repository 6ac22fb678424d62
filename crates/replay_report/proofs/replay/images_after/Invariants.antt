use Rattle.std.proofs.Common.{◌≡◌, All, Some, map}
use Rattle.std.specs.List.{range_with_len}
use Rattle.rendezvous_core.specs.Worlds.{last_image}
use Rattle.replay_report.proofs.replay.images_after.Given as goal

abbrev pub invariant-loop-i : goal.invariant-loop-i
invariant-loop-i l = record {
  each : map Some l.images.items ≡ map (last_image l.world.world) (range_with_len 0 l.i);
  kind : All (λ image. image.kind ≡ l.setup.kind) l.images.items;
}
