use Rattle.std.proofs.Common.{◌≡◌}
use Rattle.std.proofs.lemmas.List.Elements.{All-push}
use Rattle.cpu_table.specs.Data.{data_of}
use Rattle.rendezvous_core.specs.Worlds.{last_image}
use Rattle.rendezvous_core.proofs.PlatformLemmas.{kind_is}
use Rattle.replay_report.proofs.ReplayLemmas.{one_more}
use Rattle.replay_report.proofs.replay.images_after.Goals as goal

pub loop-i-preserved : goal.loop-i-preserved
loop-i-preserved c =
    let i = c.loop-i.i in
    let image = c.after.result.now in
    rw c.in_ok-push.ensures.items
    (record {
      each = one_more (last_image c.args.world.now.world) i c.loop-i.images.items image c.loop-i.invariant.each c.after.ensures.image;
      kind = All-push (λ image. image.kind ≡ c.args.setup.now.kind) c.loop-i.images.items image c.loop-i.invariant.kind
          (kind_is (data_of c.args.setup.now) c.args.world.now.world i image (c.requires.platform i c.loop-i-test.true) c.after.ensures.fits c.after.ensures.image);
    })
