use Rattle.handler_ops_tests.proofs.Tellings.{row_at_hand}
use Rattle.handler_ops_tests.proofs.turns.answered.Goals as goal

pub answer-label-requires-clause-at_hand : goal.answer-label-requires-clause-at_hand
answer-label-requires-clause-at_hand c = row_at_hand c.args.server.now.told c.args.held.now.desks c.requires.at_hand
