-- The need of the row is that of the course.
use Rattle.std.proofs.Common.{◌∙◌, ap}
use Rattle.serving_place.specs.declared.progress.Progress.{Progress}
use Rattle.handler_ops.specs.Course.{need_of}
use Rattle.serving_place.specs.Progresses.{setting_in}
use Rattle.handler_ops.specs.NextRow.{row_of}
use Rattle.handler_ops.specs.Sessions.{course_in, Session, setting_of}
use Rattle.handler_ops.specs.Told.{need_as}
use Rattle.handler_ops.proofs.RowSteps.{need_of_row}
use Rattle.handler_ops.proofs.server.Server.next.Goals as goal

pub returns-clause-need : goal.returns-clause-need
returns-clause-need c =
    c.need_of.ensures
    ∙ ap need_as c.row_of.ensures
    ∙ ap (λ (p : Progress). need_as (row_of (setting_in p) c.args.held.now.desks (course_in p))) c.deref.ensures
    ∙ need_of_row (setting_in c.self.inside.progress.value) c.args.held.now.desks (course_in c.self.inside.progress.value)
    ∙ ap (λ (v : Session). need_of (setting_of v) c.args.held.now.desks v.course) c.self.view_is
