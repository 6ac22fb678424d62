use Rattle.std.proofs.Common.{sym, subst}
use Rattle.smm_player.specs.declared.fault.Fault.{Fault}
use Rattle.smm_player.specs.Due.{platform_found}
use Rattle.smm_player.specs.Loading.{StopsReading}
use Rattle.cpu_table.specs.Data.{data_of}
use Rattle.smm_player.proofs.LoadLemmas.{platform_is_found, platform_stops}
use Rattle.smm_player.proofs.load.setup_of.Goals as goal

pub returns-in-Ok-clause-found : goal.returns-in-Ok-clause-found
returns-in-Ok-clause-found c = platform_is_found c.args.bytes.now (data_of c.in-Ok.setup) c.in-Ok.ensures.setup

pub returns-in-Err-clause-cause : goal.returns-in-Err-clause-cause
returns-in-Err-clause-cause c =
    let P : Fault → Type 0 = StopsReading (platform_found c.args.bytes.now) in
    subst P (sym c.platform_fault.ensures) (platform_stops c.args.bytes.now c.in-Err.error c.in-Err.ensures.refused)
