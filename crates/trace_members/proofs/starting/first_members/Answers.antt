-- One processor after the other.
use Rattle.std.proofs.Common.{◌<◌, ◌≤◌, ◌∙◌, ◌++◌, ◌∷◌, [], length, get_or, ap, arith}
use Rattle.trace_members.specs.Members.{firsts}
use Rattle.trace_members.proofs.FirstMembers.{one_more, no_more}
use Rattle.trace_members.proofs.starting.first_members.Goals as goal

pub loop-i-init : goal.loop-i-init
loop-i-init c = ap (λ members. members ++ firsts c.args.registers.now c.args.images.now) c.in_ok-members.ensures.items

pub loop-i-preserved : goal.loop-i-preserved
loop-i-preserved c =
    let i = c.loop-i.i in
    let within : i < length c.args.registers.now = omega (arith, c.loop-i-test.true, c.requires.registers_count) in
    let within' : i < length c.args.images.now = omega (arith, c.loop-i-test.true, c.requires.count) in
    let r = c.index-registers-at.result in
    let image = c.index-images-at.result in
    let r_is = c.index-registers-at.is ∙ ap (λ at. get_or c.args.registers.now at r) c.from-at.ensures in
    let image_is = c.index-images-at.is ∙ ap (λ at. get_or c.args.images.now at image) c.from-at.ensures in
    let is = c.in_ok-push.ensures.items ∙ ap (λ p. c.loop-i.members.items ++ p ∷ []) c.first.ensures in
    one_more c.loop-i.members.items c.push.new.self.items i c.args.registers.now c.args.images.now r r image image within within' r_is image_is is ∙ c.loop-i.invariant

pub returns : goal.returns
returns c =
    let past : length c.args.registers.now ≤ c.loop-i.i = omega (arith, c.loop-i-test.false, c.requires.registers_count) in
    no_more c.loop-i.members.items c.loop-i.i c.args.registers.now c.args.images.now past ∙ c.loop-i.invariant
