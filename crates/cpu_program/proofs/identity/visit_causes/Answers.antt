use Rattle.std.proofs.Common.{◌-◌, ◌∙◌, length, arith}
use Rattle.cpu_program.proofs.CauseLemmas.{causes_begin, causes_more, causes_all}
use Rattle.cpu_program.proofs.identity.visit_causes.Goals as goal

pub loop-i-init : goal.loop-i-init
loop-i-init c = c.in_ok-causes.ensures ∙ causes_begin c.args.entries.now c.args.me c.args.visits (length c.args.entries.now) (omega arith)

pub loop-i-preserved : goal.loop-i-preserved
loop-i-preserved c =
    causes_more c.args.entries.now c.args.me c.args.visits (c.loop-i.i - 1) c.loop-i.i c.index-entries-i.result c.loop-i.causes.items c.keep.new.causes.items
    (omega (arith, c.loop-i-test.true))
    (omega (arith, c.loop-i-test.true, c.loop-i.auto.i))
    c.index-entries-i.is
    c.loop-i.invariant
    c.keep.ensures

pub returns : goal.returns
returns c = causes_all c.args.entries.now c.args.me c.args.visits c.loop-i.i c.loop-i.causes.items (omega (arith, c.loop-i-test.false)) c.loop-i.invariant
