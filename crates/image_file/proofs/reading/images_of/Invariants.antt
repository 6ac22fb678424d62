use Rattle.std.proofs.Common.{◌≡◌, ◌+◌, ◌*◌, ◌-◌, ◌++◌, length}
use Rattle.save_state_map.specs.Fields.{image_length}
use Rattle.image_file.specs.Contents.{images_at}
use Rattle.image_file.proofs.reading.images_of.Given as goal

abbrev pub invariant-loop : goal.invariant-loop
invariant-loop l = record {
  sizes : l.counter * image_length l.kind + length l.rest ≡ l.count * image_length l.kind;
  so_far : l.images.items ++ images_at l.kind (l.count - l.counter) l.rest ≡ images_at l.kind l.count l.bytes;
}
