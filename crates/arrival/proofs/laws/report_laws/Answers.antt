use Rattle.arrival.proofs.ReportLemmas.{only_the_report_gives, report_leaves_to}
use Rattle.arrival.proofs.ReportBounds.{wants_within, stays_within}
use Rattle.arrival.proofs.laws.report_laws.Goals as goal

pub returns-clause-only_the_report_gives : goal.returns-clause-only_the_report_gives
returns-clause-only_the_report_gives c = only_the_report_gives

pub returns-clause-leaves_to : goal.returns-clause-leaves_to
returns-clause-leaves_to c = report_leaves_to

pub returns-clause-wants_within : goal.returns-clause-wants_within
returns-clause-wants_within c = wants_within

pub returns-clause-stays_within : goal.returns-clause-stays_within
returns-clause-stays_within c = stays_within
