use Rattle.std.proofs.Common.{◌≡◌, map, take}
use Rattle.platform_gen.specs.Plans.{op_of}
use Rattle.platform_gen.proofs.setup.ops_of.Given as goal

abbrev pub invariant-loop-write : goal.invariant-loop-write
invariant-loop-write l = l.ops.items ≡ map op_of (take l.write-index l.writes)
