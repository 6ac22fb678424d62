use Rattle.bound_laws.proofs.Replays.{setup_bounded, few_events}
use Rattle.bound_laws.proofs.bounded.every_schedule_is_bounded.Goals as goal

pub returns-clause-each : goal.returns-clause-each
returns-clause-each c = λ setup registers images schedule i count serve. (setup_bounded setup registers images schedule count serve).each i

pub returns-clause-all : goal.returns-clause-all
returns-clause-all c = λ setup registers images schedule count serve. (setup_bounded setup registers images schedule count serve).all

pub returns-clause-few : goal.returns-clause-few
returns-clause-few c = λ setup registers images schedule count serve. few_events setup registers images schedule count serve
