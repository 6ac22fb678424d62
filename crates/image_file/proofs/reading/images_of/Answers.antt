use Rattle.std.proofs.Common.{◌≡◌, ℕ, List, take, drop, length, ap, ◌∙◌, arith}
use Rattle.std.proofs.lemmas.Result.{IfOk-at_ok}
use Rattle.save_state_map.specs.Fields.{image_length}
use Rattle.image_file.specs.Contents.{images_at}
use Rattle.image_file.proofs.Sequence.{goes_on, ends, room}
use Rattle.image_file.proofs.reading.images_of.Goals as goal

pub loop-preserved : goal.loop-preserved
loop-preserved c =
    let size = c.image_size-size.ensures in
    let image : c.unwrap.result ≡ record { kind = c.args.kind; bytes = take (image_length c.args.kind) c.loop.rest.now } =
    IfOk-at_ok _ c.unwrap.ensures c.new.ensures.image ∙ ap (λ (b : List ℕ). record { kind = c.args.kind; bytes = b }) (c.split_at.ensures.front ∙ ap (λ (n : ℕ). take n c.loop.rest.now) size) in
    let back : c.split_at.result.1.now ≡ drop (image_length c.args.kind) c.loop.rest.now = c.split_at.ensures.back ∙ ap (λ (n : ℕ). drop n c.loop.rest.now) size in
    record {
      sizes = omega (arith, room c.args.count c.loop.counter (image_length c.args.kind) (length c.loop.rest.now) c.loop-test.true c.loop.invariant.sizes, c.split_at.ensures.back_len, size);
      so_far = rw (c.in_ok-push.ensures.items, image, back) (goes_on c.loop.images.items c.args.kind c.args.count c.loop.counter c.loop.rest.now (images_at c.args.kind c.args.count c.args.bytes.now) c.loop-test.true c.loop.invariant.so_far);
    }

pub returns-clause-images : goal.returns-clause-images
returns-clause-images c = ends c.loop.images.items c.args.kind c.args.count c.loop.counter c.loop.rest.now (images_at c.args.kind c.args.count c.args.bytes.now) c.loop-test.false c.loop.invariant.so_far
