use Rattle.exit_handshake.proofs.CloseLemmas.{close_takes, close_leaves, close_within, close_stays}
use Rattle.exit_handshake.proofs.laws.close_laws.Goals as goal

pub returns : goal.returns
returns c = record { only_missing_desks_are_taken = close_takes; leaves_to = close_leaves; wants_within = close_within; stays_within = close_stays }
