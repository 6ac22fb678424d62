use Rattle.ap_procedure.proofs.LawLemmas.{given_once, at_first, kept, not_before, out_at_first, stays_out, not_after}
use Rattle.ap_procedure.proofs.laws.job_laws.Goals as goal

pub returns-clause-given_once : goal.returns-clause-given_once
returns-clause-given_once c = given_once

pub returns-clause-at_first : goal.returns-clause-at_first
returns-clause-at_first c = at_first

pub returns-clause-kept : goal.returns-clause-kept
returns-clause-kept c = kept

pub returns-clause-not_before : goal.returns-clause-not_before
returns-clause-not_before c = not_before

pub returns-clause-out_at_first : goal.returns-clause-out_at_first
returns-clause-out_at_first c = out_at_first

pub returns-clause-stays_out : goal.returns-clause-stays_out
returns-clause-stays_out c = stays_out

pub returns-clause-not_after : goal.returns-clause-not_after
returns-clause-not_after c = not_after
