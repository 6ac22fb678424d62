use Rattle.std.proofs.Common.{◌≡◌, ◌<◌, ◌++◌, List, ℕ, length, get_or, ap, ◌∙◌}
use Rattle.image_file.specs.Spelling.{header}
use Rattle.image_file.proofs.Sequence.{adds_image, all_images_more}
use Rattle.image_file.proofs.writing.write_images.Goals as goal

pub loop-image-preserved : goal.loop-image-preserved
loop-image-preserved c =
    let here : c.image-item.result ≡ get_or c.args.images.now.items c.loop-image.image-index c.image-item.result = rw (← c.deref-image-items.ensures.value) c.image-item.is in
    let lt : c.loop-image.image-index < length c.args.images.now.items = rw (← c.deref-image-items.ensures.value) c.loop-image-test.true in
    record {
      so_far = adds_image (header c.args.kind (length c.args.images.now.items)) c.loop-image.file.items _ c.args.images.now.items c.loop-image.image-index c.image-item.result lt here c.loop-image.invariant.so_far (c.in_ok-extend_from_slice-5.ensures.items ∙ ap (λ (x : List ℕ). c.loop-image.file.items ++ x) c.bytes.ensures.bytes);
      whole = all_images_more c.args.images.now.items c.loop-image.image-index c.image-item.result lt here c.loop-image.invariant.whole c.bytes.ensures.image;
    }
