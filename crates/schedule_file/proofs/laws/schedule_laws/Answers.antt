use Rattle.schedule_file.proofs.Said.{schedule_said, schedule_read, schedule_long}
use Rattle.schedule_file.proofs.laws.schedule_laws.Goals as goal

pub returns-clause-said : goal.returns-clause-said
returns-clause-said c = λ n text actors is. (schedule_said n text actors is).0

pub returns-clause-few : goal.returns-clause-few
returns-clause-few c = λ n text actors is. (schedule_said n text actors is).1

pub returns-clause-read : goal.returns-clause-read
returns-clause-read c = schedule_read

pub returns-clause-long : goal.returns-clause-long
returns-clause-long c = schedule_long
