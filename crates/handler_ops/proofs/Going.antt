-- An answer keeps a seat for each processor, and no more jobs are given than units begin.
use Rattle.std.proofs.Common.{ℕ, Bool, true, false, Option, Some, None, sym, subst}
use Rattle.std.specs.Prelude.{◌==◌, if◌then◌else◌}
use Rattle.sync_words.specs.declared.label.Label.TheVariants as say
use Rattle.smram_pool.specs.State.{allocated, freed}
use Rattle.handler_ops.specs.declared.row.Row.{Row}
use Rattle.handler_ops.specs.declared.row.Row.TheVariants as row
use Rattle.handler_ops.specs.Sessions.{Session, setting_of}
use Rattle.handler_ops.specs.Told.{step_as, read_at_hand, write_at_hand}
use Rattle.handler_ops.specs.Answering.{HasTold, RowFits}
use Rattle.handler_ops.proofs.Answered.{read_fits, write_fits}
use Rattle.handler_ops.proofs.RowFits.{row_fits}
use Rattle.serving_place.proofs.Going.{next_goes, ran_goes, known_job, alloc_job, plain_job, collect_job}
use Rattle.serving_place.specs.Serving.{ran}
use Rattle.serving_place.specs.Operations.{free_status}
use Rattle.serving_place.specs.Forms.{Program}
use Rattle.serving_place.specs.Places.{Place}
use Rattle.serving_place.specs.Setting.{Setting}
use Rattle.serving_place.specs.Due.{due}
use Rattle.handler_ops.specs.Course.{Course, Desks, JobDone, Quiet, Speaks, Takes, desk_of, done_on, after_all, with_run, moved}
use Rattle.serving_place.specs.Progresses.{Goes}
use Rattle.serving_place.specs.Sayings.{operation_due}

collect_goes : (program : Program) (n : ℕ) (p : Place) (c : ℕ) (d : Option JobDone) → Goes n p → Goes n (after_all program p (with_run c d))
collect_goes program n p c None g = next_goes program n p (say.Collect c) (collect_job (operation_due (due program p)) c p.state.given) g
collect_goes program n p c (Some d) g =
    let q : Place = record p { state = ran c d.result d.status p.state } in
    next_goes program n q (say.Collect c) (collect_job (operation_due (due program q)) c q.state.given) (ran_goes n p c d.result d.status g)

-- what an answer makes of a course
pub answer_goes : (t : Setting) (c : Course) (told : Row) (found : ℕ) (held : Desks) (n : ℕ) → RowFits told (operation_due (due t.program c.place)) c.place.state → Goes n c.place
    → Goes n (moved t c ((step_as t c.place.state told).on found held) held).place
answer_goes t c row.Finished found held n h g = g
answer_goes t c (row.Looking l) found held n h g = next_goes t.program n c.place l (known_job _ l c.place.state h) g
answer_goes t c (row.ClaimingDesk k l) found held n h g = at_found (found == 1)
  where
    at_found : (b : Bool) → Goes n (moved t c (if b then Quiet false else Speaks l) held).place
    at_found true = g
    at_found false = next_goes t.program n c.place l (known_job _ l c.place.state h) g
answer_goes t c (row.ClaimingJob k l) found held n h g = at_found (found == 2)
  where
    at_found : (b : Bool) → Goes n (moved t c (if b then Takes k else Speaks l) held).place
    at_found true = collect_goes t.program n c.place k (done_on (desk_of held k)) g
    at_found false = next_goes t.program n c.place l (known_job _ l c.place.state h) g
answer_goes t c (row.AwaitingJob k) found held n h g = collect_goes t.program n c.place k (done_on (desk_of held k)) g
answer_goes t c (row.Putting k) found held n h g = g
answer_goes t c (row.Raising k l) found held n h g = next_goes t.program n c.place l (known_job _ l c.place.state h) g
answer_goes t c (row.Reading k reg width) found held n h g =
    next_goes t.program n c.place (read_at_hand t k reg width held) (known_job _ (read_at_hand t k reg width held) c.place.state (read_fits t k reg width held _ c.place.state)) g
answer_goes t c (row.Writing k reg width x) found held n h g =
    next_goes t.program n c.place (write_at_hand k reg width x held) (known_job _ (write_at_hand k reg width x held) c.place.state (write_fits k reg width x held _ c.place.state)) g
answer_goes t c (row.Allocating size) found held n h g = next_goes t.program n c.place _ (alloc_job _ size c.place.state.given (allocated size c.place.state.pool).0) g
answer_goes t c (row.Freeing place) found held n h g = next_goes t.program n c.place _ (plain_job _ place c.place.state.given (free_status (freed place c.place.state.pool).0)) g

pub told_fits : (s : Session) → HasTold s → RowFits s.told (operation_due (due (setting_of s).program s.course.place)) s.course.place.state
told_fits s h = subst (λ (r : Row). RowFits r (operation_due (due (setting_of s).program s.course.place)) s.course.place.state) (sym h.told) (row_fits (setting_of s) h.held s.course)
