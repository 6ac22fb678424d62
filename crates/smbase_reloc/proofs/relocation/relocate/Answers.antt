-- At the end every processor is relocated.
use Rattle.std.proofs.Common.{◌≤◌, length, arith}
use Rattle.smbase_reloc.proofs.Every.{each_relocated}
use Rattle.smbase_reloc.proofs.relocation.relocate.Goals as goal

pub returns-clause-relocated : goal.returns-clause-relocated
returns-clause-relocated c =
    let all : length c.args.regs.now ≤ c.loop-i.i = omega (arith, c.loop-i-test.false, c.loop-i.invariant.size) in
    each_relocated c.args.layout.now.area c.args.regs.now c.loop-i.regs c.loop-i.i c.loop-i.invariant.size all c.loop-i.invariant.done
