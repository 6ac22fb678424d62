use Rattle.judged_reports.proofs.Reports.{accepted}
use Rattle.judged_reports.proofs.laws.every_report.Goals as goal

pub returns-clause-accepted : goal.returns-clause-accepted
returns-clause-accepted c = λ setup images schedule complete serve numbers.
    accepted (record { accepts = c.judge_laws.ensures.accepts; spelled = c.report_laws.ensures.spelled; run = c.every_schedule.ensures.run }) setup images schedule complete serve numbers

pub returns-clause-of_files : goal.returns-clause-of_files
returns-clause-of_files c = λ bytes setup images schedule complete is serve.
    accepted (record { accepts = c.judge_laws.ensures.accepts; spelled = c.report_laws.ensures.spelled; run = c.every_schedule.ensures.run }) setup images schedule complete serve
    (c.file_numbers.ensures.fit bytes _ is)
