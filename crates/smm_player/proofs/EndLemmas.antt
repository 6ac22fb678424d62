-- How a replay that was written and saved ends.
use Rattle.std.proofs.Common.{◌≡◌, ℕ, List, Option, Result, Ok, Err, IfErr, OnOk}
use Rattle.smm_base.specs.Sink.{appended, GainsPrefix-whole}
use Rattle.smm_player.specs.declared.fault.Fault.{Fault}
use Rattle.smm_player.specs.declared.fault.Fault.TheVariants.{Refused, Write, Save, Memory}
use Rattle.smm_player.specs.Ending.{EndsReplay, SaveFault}

-- a save ends a replay whose whole report was written
pub save_ends : {T : Type 0} (r : Result T Fault) (write_failed save_failed files_stay : Type 0) (before after : Option (List ℕ)) (report : List ℕ) →
    IfErr r (SaveFault save_failed files_stay) → after ≡ appended before report → IfErr r (EndsReplay write_failed save_failed before after report)
save_ends (Ok x) write_failed save_failed files_stay before after report fault written = tt
save_ends (Err (Refused refusal)) write_failed save_failed files_stay before after report fault written = fault
save_ends (Err Write) write_failed save_failed files_stay before after report fault written = absurd fault
save_ends (Err Save) write_failed save_failed files_stay before after report fault written = (fault, written)
save_ends (Err Memory) write_failed save_failed files_stay before after report fault written = GainsPrefix-whole before after report written

-- what holds anyway holds where there is an answer
pub on_ok_anyway : {T E : Type 0} (result : Result T E) (P : Type 0) → P → OnOk result P
on_ok_anyway (Ok x) P holds = holds
on_ok_anyway (Err error) P holds = tt
