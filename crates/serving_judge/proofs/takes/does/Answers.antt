-- An operation that is no manage says its own label, or collects a job.
use Rattle.std.proofs.Common.{◌∙◌, sym}
use Rattle.serving_judge.proofs.Operating.{does_other}
use Rattle.serving_judge.proofs.takes.does.Goals as goal

pub returns-in_default : goal.returns-in_default
returns-in_default c =
    c.operates.ensures ∙ sym (does_other c.args.progress.now.setup.procedures c.args.levels c.args.op.now c.args.progress.now.state c.args.label c.in_default.not-Manage)
