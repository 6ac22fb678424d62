use Rattle.std.proofs.Common.{sym, subst}
use Rattle.smm_player.specs.declared.fault.Fault.{Fault}
use Rattle.smm_player.specs.Due.{schedule_found}
use Rattle.smm_player.specs.Loading.{StopsReading}
use Rattle.smm_player.proofs.LoadLemmas.{schedule_is_found, schedule_stops}
use Rattle.smm_player.proofs.load.actors_of.Goals as goal

pub returns-in-Ok-clause-found : goal.returns-in-Ok-clause-found
returns-in-Ok-clause-found c = schedule_is_found c.args.processors c.args.bytes.now c.in-Ok.actors.items c.in-Ok.ensures.read

pub returns-in-Err-clause-cause : goal.returns-in-Err-clause-cause
returns-in-Err-clause-cause c =
    let P : Fault → Type 0 = StopsReading (schedule_found c.args.processors c.args.bytes.now) in
    subst P (sym c.schedule_fault.ensures) (schedule_stops c.args.processors c.args.bytes.now c.in-Err.error c.in-Err.ensures.refused)
