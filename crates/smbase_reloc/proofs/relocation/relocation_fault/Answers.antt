-- The refusal has its cause.
use Rattle.std.proofs.Common.{sym, ◌∙◌}
use Rattle.smbase_reloc.proofs.Refusals.{cause_of}
use Rattle.smbase_reloc.proofs.relocation.relocation_fault.Goals as goal

pub returns-in-Some-clause-cause : goal.returns-in-Some-clause-cause
returns-in-Some-clause-cause c =
    cause_of c.args.regs.now c.in-Some.i c.index-regs-i.result c.refusal_of.result (sym c.first_fixed.ensures.first ∙ c.in-Some.is) c.index-regs-i.is c.refusal_of.ensures
