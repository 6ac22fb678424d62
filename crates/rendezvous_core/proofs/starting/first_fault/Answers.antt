-- One image after the other is found to be relocatable.
use Rattle.std.proofs.Common.{◌≤◌, ◌+◌, ◌∙◌, length, map, drop, sym, ap, arith}
use Rattle.std.proofs.lemmas.List.{drop_all}
use Rattle.cpu_regs.specs.Registers.{loaded}
use Rattle.rendezvous_core.specs.StartsInside.{refusal_one, refusal_from}
use Rattle.rendezvous_core.proofs.StartLemmas.{refusal_is, refusal_next, or_else_some, or_else_none}
use Rattle.rendezvous_core.proofs.starting.first_fault.Goals as goal

pub loop-i-init : goal.loop-i-init
loop-i-init c = sym (refusal_is (map loaded c.args.images.now))

pub returns-in-Some : goal.returns-in-Some
returns-in-Some c =
    let i = c.loop-i.i in
    let image = c.index-images-i.result in
    let one = sym c.in-Some.is ∙ c.image_fault.ensures ∙ ap (λ m. refusal_one i (loaded m)) c.index-images-i.is in
    sym (or_else_some _ (refusal_from (i + 1) (map loaded (drop (i + 1) c.args.images.now))) c.in-Some.error (sym one))
    ∙ sym (refusal_next c.args.images.now i image c.loop-i-test.true) ∙ c.loop-i.invariant

pub loop-i-preserved : goal.loop-i-preserved
loop-i-preserved c =
    let i = c.loop-i.i in
    let image = c.index-images-i.result in
    let one = sym c.in_default.is ∙ c.image_fault.ensures ∙ ap (λ m. refusal_one i (loaded m)) c.index-images-i.is in
    sym (or_else_none _ (refusal_from (i + 1) (map loaded (drop (i + 1) c.args.images.now))) (sym one))
    ∙ sym (refusal_next c.args.images.now i image c.loop-i-test.true) ∙ c.loop-i.invariant

pub returns : goal.returns
returns c =
    let past : length c.args.images.now ≤ c.loop-i.i = omega (arith, c.loop-i-test.false) in
    sym (ap (λ ms. refusal_from c.loop-i.i (map loaded ms)) (drop_all c.loop-i.i c.args.images.now past)) ∙ c.loop-i.invariant
