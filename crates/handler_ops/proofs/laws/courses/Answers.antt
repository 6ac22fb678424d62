use Rattle.handler_ops.proofs.Sessions.{course_prefix, course_finished, begins_sound}
use Rattle.handler_ops.proofs.RowSteps.{step_of_row, need_of_row}
use Rattle.handler_ops.proofs.Naming.{needs_name_others}
use Rattle.handler_ops.proofs.laws.courses.Goals as goal

pub returns : goal.returns
returns c = record { prefix = course_prefix; finished = course_finished; begins = begins_sound; rows = step_of_row; names = needs_name_others; needs = need_of_row }
