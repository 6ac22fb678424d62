-- One program after the other, and the chipset's last.
use Rattle.std.proofs.Common.{◌<◌, ◌≤◌, ◌∙◌, ◌++◌, ◌∷◌, [], length, get_or, ap, arith}
use Rattle.cpu_table.specs.Data.{data_of}
use Rattle.rendezvous_core.specs.Worlds.{first_actors}
use Rattle.rendezvous_core.proofs.StartLemmas.{one_program_more, last_program}
use Rattle.rendezvous_core.proofs.beginning.programs_with.Goals as goal

pub loop-i-init : goal.loop-i-init
loop-i-init c = ap (λ programs. programs ++ first_actors (data_of c.args.setup.now) 0 c.args.registers.now c.args.images.now) c.in_ok-programs.ensures.items

pub loop-i-preserved : goal.loop-i-preserved
loop-i-preserved c =
    let i = c.loop-i.i in
    let d = data_of c.args.setup.now in
    let within : i < length c.args.registers.now = omega (arith, c.loop-i-test.true, c.requires.registers.count) in
    let within' : i < length c.args.images.now = omega (arith, c.loop-i-test.true, c.requires.images.count) in
    let r = c.index-registers-at.result in
    let image = c.index-images-at.result in
    let r_is = c.index-registers-at.is ∙ ap (λ at. get_or c.args.registers.now at r) c.from-at.ensures in
    let image_is = c.index-images-at.is ∙ ap (λ at. get_or c.args.images.now at image) c.from-at.ensures in
    let is = c.in_ok-push.ensures.items ∙ ap (λ p. c.loop-i.programs.items ++ p ∷ []) c.in_ok-first_program.ensures in
    one_program_more d c.loop-i.programs.items c.push.new.self.items i c.args.registers.now c.args.images.now r r image image within within' r_is image_is is ∙ c.loop-i.invariant

pub returns : goal.returns
returns c =
    let d = data_of c.args.setup.now in
    let past : length c.args.registers.now ≤ c.loop-i.i = omega (arith, c.loop-i-test.false, c.requires.registers.count) in
    let is = c.in_ok-push-2.ensures.items ∙ ap (λ p. c.loop-i.programs.items ++ p ∷ []) c.in_ok-new.ensures in
    last_program d c.loop-i.programs.items c.push-2.new.self.items c.loop-i.i c.args.registers.now c.args.images.now past is ∙ c.loop-i.invariant
