-- The step that a row of the code stands for.
use Rattle.std.specs.Prelude.{ℕ, false, true, slice_set, Some, None, option_map}
use Rattle.smram_pool.specs.State.{allocated, freed}
use Rattle.sync_words.specs.declared.label.Label.{Label}
use Rattle.sync_words.specs.declared.label.Label.TheVariants as say
use Rattle.handler_ops.specs.declared.desk.Desk.{Desk}
use Rattle.handler_ops.specs.declared.need.Need.{Need}
use Rattle.handler_ops.specs.declared.need.Need.TheVariants as need
use Rattle.handler_ops.specs.declared.row.Row.{Row}
use Rattle.handler_ops.specs.declared.row.Row.TheVariants as row
use Rattle.serving_place.specs.Serving.{Serving}
use Rattle.serving_place.specs.Operations.{free_status, alloc_label}
use Rattle.serving_place.specs.Setting.{Setting}
use Rattle.handler_ops.specs.Course.{Desks, Move, Step, Quiet, Speaks, looking, claiming_desk, claiming_job, awaiting_job, desk_of, image_in, label_of, read_of, shown_value, read_label, write_of, write_label}

-- what a read of the desk at hand says
abbrev pub read_at_hand : Setting → ℕ → ℕ → ℕ → Desks → Label
read_at_hand t c reg width now =
    let a = read_of t true (image_in (desk_of now c)) c reg width in read_label c reg width (shown_value a) a.status

-- what a write to the desk at hand says
abbrev pub write_at_hand : ℕ → ℕ → ℕ → ℕ → Desks → Label
write_at_hand c reg width x now = write_label c reg width x (write_of true (image_in (desk_of now c)) reg width x).status

abbrev pub step_as : Setting → Serving → Row → Step
step_as t s row.Finished = record { need = need.Finished; on = λ found now. Quiet false }
step_as t s (row.Looking l) = looking l
step_as t s (row.ClaimingDesk c l) = claiming_desk c l
step_as t s (row.ClaimingJob c l) = claiming_job c l
step_as t s (row.AwaitingJob c) = awaiting_job c
step_as t s (row.Putting c) = record { need = need.PutBusy c; on = λ found now. Quiet true }
step_as t s (row.Raising c l) = record { need = need.RaiseRun c; on = λ found now. Speaks l }
step_as t s (row.Reading c reg width) = record { need = need.Look; on = λ found now. Speaks (read_at_hand t c reg width now) }
step_as t s (row.Writing c reg width x) = record { need = need.Look; on = λ found now. Speaks (write_at_hand c reg width x now) }
step_as t s (row.Allocating size) = looking (alloc_label size (allocated size s.pool).0)
step_as t s (row.Freeing place) = looking (say.Free place (free_status (freed place s.pool).0))

-- the need of the row
abbrev pub need_as : Row → Need
need_as row.Finished = need.Finished
need_as (row.Looking l) = need.Look
need_as (row.ClaimingDesk c l) = need.ClaimPresent c
need_as (row.ClaimingJob c l) = need.ClaimBusy c
need_as (row.AwaitingJob c) = need.AwaitBusy c
need_as (row.Putting c) = need.PutBusy c
need_as (row.Raising c l) = need.RaiseRun c
need_as (row.Reading c reg width) = need.Look
need_as (row.Writing c reg width x) = need.Look
need_as (row.Allocating size) = need.Look
need_as (row.Freeing place) = need.Look

-- The desk that a raise gives away has the job of its label, which is still to be run.
abbrev pub with_job : ℕ → ℕ → ℕ → Desk → Desk
with_job j p a desk = record desk { job = Some (record { number = j; procedure = p; arg = a; done = None }) }

abbrev pub given_job : ℕ → Label → Desks → Desks
given_job c (say.Start cpu j p a) held = slice_set held c (option_map (with_job j p a) (desk_of held c))
given_job c _ held = held

abbrev pub handed_by : Need → Move → Desks → Desks
handed_by (need.RaiseRun c) m held = given_job c (label_of m) held
handed_by _ m held = held

-- the desks after a need was told
abbrev pub handed : Step → Desks → Desks
handed step held = handed_by step.need (step.on 0 held) held

-- the same by the row
abbrev pub handed_as : Row → Desks → Desks
handed_as (row.Raising c l) held = given_job c l held
handed_as _ held = held
