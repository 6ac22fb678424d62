use Rattle.std.proofs.Common.{◌≡◌, map, drop}
use Rattle.cpu_regs.specs.Registers.{loaded}
use Rattle.smbase_reloc.specs.Relocation.{relocation_refusal}
use Rattle.rendezvous_core.specs.StartsInside.{refusal_from}
use Rattle.rendezvous_core.proofs.starting.first_fault.Given as goal

abbrev pub invariant-loop-i : goal.invariant-loop-i
invariant-loop-i l = refusal_from l.i (map loaded (drop l.i l.images)) ≡ relocation_refusal (map loaded l.images)
