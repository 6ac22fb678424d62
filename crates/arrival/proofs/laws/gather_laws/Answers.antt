use Rattle.arrival.proofs.GatherLemmas.{moves_nothing, signals_others, signals_missing, gathering_leaves_to}
use Rattle.arrival.proofs.GatherBounds.{wants_within, stays_within}
use Rattle.arrival.proofs.laws.gather_laws.Goals as goal

pub returns-clause-moves_nothing : goal.returns-clause-moves_nothing
returns-clause-moves_nothing c = moves_nothing

pub returns-clause-signals_others : goal.returns-clause-signals_others
returns-clause-signals_others c = signals_others

pub returns-clause-signals_missing : goal.returns-clause-signals_missing
returns-clause-signals_missing c = signals_missing

pub returns-clause-leaves_to : goal.returns-clause-leaves_to
returns-clause-leaves_to c = gathering_leaves_to

pub returns-clause-wants_within : goal.returns-clause-wants_within
returns-clause-wants_within c = wants_within

pub returns-clause-stays_within : goal.returns-clause-stays_within
returns-clause-stays_within c = stays_within
