use Rattle.std.proofs.Common.{◌∙◌, sym, ap}
use Rattle.cpu_table.specs.declared.handlers.OpDef.{OpDef}
use Rattle.serving_judge.specs.Tests.{fits}
use Rattle.serving_judge.proofs.takes.fits.Goals as goal

pub returns-in-Start : goal.returns-in-Start
returns-in-Start c =
    c.fits_job.ensures ∙ ap (λ (o : OpDef). fits c.args.progress.now.setup.procedures o c.args.progress.now.state c.args.label) (sym c.in-Start.is)

pub returns-in-Launch : goal.returns-in-Launch
returns-in-Launch c =
    c.fits_job-in-Launch.ensures ∙ ap (λ (o : OpDef). fits c.args.progress.now.setup.procedures o c.args.progress.now.state c.args.label) (sym c.in-Launch.is)
