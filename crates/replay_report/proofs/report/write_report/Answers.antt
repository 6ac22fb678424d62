use Rattle.std.proofs.Common.{◌≤◌, arith}
use Rattle.std.proofs.lemmas.Grind.{common_steps}
use Rattle.smm_base.specs.Calls.{stays, leads_on, never_falls}
use Rattle.smm_base.specs.Sink.{GainsPrefix-longer}
use Rattle.replay_report.proofs.ReportLemmas.{buffered_further, buffered_prefix, on_err_anyway, on_err_follows}
use Rattle.replay_report.proofs.report.write_report.Goals as goal

pub returns-in_err-counts-clause-prefix : goal.returns-in_err-counts-clause-prefix
returns-in_err-counts-clause-prefix g c =
    on_err_anyway _ _ (GainsPrefix-longer _ _ _ _ c.in_err-counts.ensures.prefix)

pub returns-in_err-push_last_line-clause-prefix : goal.returns-in_err-push_last_line-clause-prefix
returns-in_err-push_last_line-clause-prefix g c =
    on_err_anyway _ _ (GainsPrefix-longer _ _ _ _ (buffered_prefix _ _ _ _ _ c.in_ok-counts.ensures.buffered c.in_err-push_last_line.ensures.prefix))

pub returns-clause-prefix : goal.returns-clause-prefix
returns-clause-prefix g c =
    on_err_follows _ _ _
    (buffered_prefix _ _ _ _ _ (buffered_further _ _ _ _ _ _ _ c.in_ok-counts.ensures.buffered c.in_ok-push_last_line.ensures.buffered))
    (rw c.deref.ensures.value at c.write_all.ensures.prefix)

pub returns-in_err-buffer-clause-moved : goal.returns-in_err-buffer-clause-moved
returns-in_err-buffer-clause-moved g c = stays

pub returns-in_err-push_last_line-clause-failed : goal.returns-in_err-push_last_line-clause-failed
returns-in_err-push_last_line-clause-failed g c =
    let low : g.K.Sink.faults c.args.out.now ≤ g.K.Sink.faults c.write_lines.new.out = never_falls g.K.Sink.faults g.met.K.Sink.never_falls c.write_lines.ensures.moved in
    grind (arith, common_steps)

pub returns-in_err-push_last_line-clause-moved : goal.returns-in_err-push_last_line-clause-moved
returns-in_err-push_last_line-clause-moved g c = leads_on c.write_lines.ensures.moved c.push_last_line.ensures.moved

pub returns-clause-failed : goal.returns-clause-failed
returns-clause-failed g c =
    let low : g.K.Sink.faults c.args.out.now ≤ g.K.Sink.faults c.push_last_line.new.out = never_falls g.K.Sink.faults g.met.K.Sink.never_falls (leads_on c.write_lines.ensures.moved c.push_last_line.ensures.moved) in
    grind (arith, common_steps)

pub returns-clause-moved : goal.returns-clause-moved
returns-clause-moved g c = leads_on (leads_on c.write_lines.ensures.moved c.push_last_line.ensures.moved) c.write_all.ensures.moved
