use Rattle.replay_report.proofs.ReportLemmas.{buffered_gained, on_err_anyway}
use Rattle.replay_report.proofs.report.push_line.Goals as goal

pub returns-clause-prefix : goal.returns-clause-prefix
returns-clause-prefix g c = on_err_anyway _ _ (buffered_gained _ _ _ _ c.in_ok-make_room.ensures.buffered)
