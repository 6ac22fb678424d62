use Rattle.std.proofs.Common.{◌≡◌, ◌<◌, ◌≤◌, List, length, sym, ap, ◌∙◌, arith}
use Rattle.std.proofs.Math.ListN.{set}
use Rattle.rendezvous_machine.specs.Machines.{Member}
use Rattle.rendezvous_machine.specs.Effects.{cleared}
use Rattle.trace_members.specs.Members.{member_in}
use Rattle.trace_members.proofs.Changing.{mapped_zero, mapped_next, mapped_all, mapped_length}
use Rattle.trace_members.proofs.members.clear_all.Goals as goal

pub loop-i-init : goal.loop-i-init
loop-i-init c = sym (mapped_zero cleared c.args.members.now)

pub clear_at-requires : goal.clear_at-requires
clear_at-requires c =
    let size : length c.loop-i.members ≡ length c.args.members.now = ap length c.loop-i.invariant ∙ mapped_length cleared c.loop-i.i c.args.members.now in
    omega (arith, c.loop-i-test.true, size)

pub loop-i-preserved : goal.loop-i-preserved
loop-i-preserved c =
    c.clear_at.ensures ∙ ap (λ (ms : List Member). set ms c.loop-i.i (cleared (member_in ms c.loop-i.i))) c.loop-i.invariant
    ∙ mapped_next cleared c.loop-i.i c.args.members.now

pub returns : goal.returns
returns c =
    let past : length c.args.members.now ≤ c.loop-i.i = omega (arith, c.loop-i-test.false) in
    c.loop-i.invariant ∙ mapped_all cleared c.loop-i.i c.args.members.now past
