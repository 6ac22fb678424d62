use Rattle.cpu_program.proofs.HandLemmas.{things_move, off_wants}
use Rattle.cpu_program.proofs.ReturnLemmas.{gifts_come_back}
use Rattle.cpu_program.proofs.WantLemmas.{giving_keeps, receiving_keeps, want_within}
use Rattle.cpu_program.proofs.laws.program_laws.Goals as goal

pub returns-clause-giving_keeps : goal.returns-clause-giving_keeps
returns-clause-giving_keeps c = giving_keeps

pub returns-clause-receiving_keeps : goal.returns-clause-receiving_keeps
returns-clause-receiving_keeps c = receiving_keeps

pub returns-clause-moves : goal.returns-clause-moves
returns-clause-moves c = things_move

pub returns-clause-within : goal.returns-clause-within
returns-clause-within c = want_within

pub returns-clause-off : goal.returns-clause-off
returns-clause-off c = off_wants

pub returns-clause-comes_back : goal.returns-clause-comes_back
returns-clause-comes_back c = gifts_come_back
