use Rattle.std.proofs.Common.{arith}
use Rattle.smm_base.proofs.KnownBytes.{Appends-further}
use Rattle.smm_base.proofs.dir_store.write_content.Goals as goal

pub loop-done-preserved : goal.loop-done-preserved
loop-done-preserved g c = record {
  within = omega (arith, c.in-Ok.ensures.bound);
  written = Appends-further _ (g.F.Write.contents c.loop-done.file) _ c.loop-done.done c.in-Ok.count c.args.bytes.now c.loop-done.invariant.written c.in-Ok.ensures.bytes;
}
