use Rattle.std.proofs.Common.{◌<◌, ◌∙◌, sym, arith}
use Rattle.cpu_program.proofs.DeskLemmas.{bits_none, bits_put, bits_past, bits_all, bits_fit}
use Rattle.cpu_program.proofs.going.held_bits.Goals.{then-is_held, else-is_held}
use Rattle.cpu_program.proofs.going.held_bits.Goals as goal

pub loop-cpu-init : goal.loop-cpu-init
loop-cpu-init c = bits_none c.args.held.now

pub loop-cpu-preserved : goal.loop-cpu-preserved
loop-cpu-preserved c =
    let below : c.loop-cpu.cpu < 64 = omega (arith, c.loop-cpu-test.true, c.len-cpu-end.ensures, c.requires) in
    elim c.if-is_held.branch [
      | then-is_held w ↦ bits_put c.args.held.now c.loop-cpu.cpu c.loop-cpu.bits c.if-is_held.bits below (sym c.is_held.ensures ∙ w.if-is_held.true) w.bits-is c.loop-cpu.invariant
      | else-is_held w ↦ bits_past c.args.held.now c.loop-cpu.cpu c.loop-cpu.bits c.if-is_held.bits (sym c.is_held.ensures ∙ w.if-is_held.false) w.bits-is c.loop-cpu.invariant
    ]

pub returns-clause-desks : goal.returns-clause-desks
returns-clause-desks c = bits_all c.args.held.now c.loop-cpu.cpu c.loop-cpu.bits (omega (arith, c.loop-cpu-test.false, c.len-cpu-end.ensures)) c.loop-cpu.invariant

pub returns-clause-within : goal.returns-clause-within
returns-clause-within c =
    bits_fit c.args.held.now c.loop-cpu.cpu c.loop-cpu.bits (omega (arith, c.loop-cpu.auto.cpu-end, c.loop-cpu-test.false, c.len-cpu-end.ensures)) c.loop-cpu.invariant
