use Rattle.ending_laws.proofs.NeverStuck.{setup_never_stuck}
use Rattle.ending_laws.proofs.every.every_world_goes_on.Goals as goal

pub returns : goal.returns
returns c = record { goes_on = λ setup registers images schedule count serve. setup_never_stuck setup registers images count serve schedule }
