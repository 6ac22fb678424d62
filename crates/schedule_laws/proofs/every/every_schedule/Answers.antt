use Rattle.schedule_laws.proofs.AllSchedules.{setup_replayed}
use Rattle.schedule_laws.proofs.every.every_schedule.Goals as goal

pub returns-clause-run : goal.returns-clause-run
returns-clause-run c = λ setup registers images schedule count serve. (setup_replayed setup registers images schedule count serve).run

pub returns-clause-after : goal.returns-clause-after
returns-clause-after c = λ setup registers images schedule i count serve below. (setup_replayed setup registers images schedule count serve).after i below
