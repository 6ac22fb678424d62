use Rattle.exit_handshake.proofs.ExitLemmas.{exit_gives, exit_leaves, exit_within, exit_stays}
use Rattle.exit_handshake.proofs.laws.exit_laws.Goals as goal

pub returns : goal.returns
returns c = record { only_desks_and_chair_are_given = exit_gives; leaves_to = exit_leaves; wants_within = exit_within; stays_within = exit_stays }
