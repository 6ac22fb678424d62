use Rattle.trace_text.proofs.Lines.{one_line, one_place, line_few}
use Rattle.trace_text.proofs.laws.text_laws.Goals as goal

pub returns-clause-lines : goal.returns-clause-lines
returns-clause-lines c = one_line

pub returns-clause-places : goal.returns-clause-places
returns-clause-places c = one_place

pub returns-clause-few : goal.returns-clause-few
returns-clause-few c = line_few
