use Rattle.std.proofs.Common.{◌≡◌, ◌++◌, length, take}
use Rattle.std.specs.Prelude.{All}
use Rattle.std.specs.List.{flat_map}
use Rattle.save_state_map.specs.Images.{IsImage}
use Rattle.image_file.specs.Spelling.{header}
use Rattle.image_file.proofs.writing.write_images.Given as goal

abbrev pub invariant-loop-image : goal.invariant-loop-image
invariant-loop-image l = record {
  so_far : l.file.items ≡ header l.fn.kind (length l.images.items) ++ flat_map (λ image. image.bytes) (take l.image-index l.images.items);
  whole : All IsImage (take l.image-index l.images.items);
}
