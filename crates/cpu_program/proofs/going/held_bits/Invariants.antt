use Rattle.cpu_program.proofs.DeskLemmas.{IsBitsOf}
use Rattle.cpu_program.proofs.going.held_bits.Given as goal

abbrev pub invariant-loop-cpu : goal.invariant-loop-cpu
invariant-loop-cpu l = IsBitsOf l.held l.cpu l.bits
