use Rattle.report_laws.proofs.Events.{replay_spelled}
use Rattle.report_laws.proofs.laws.report_laws.Goals as goal

pub returns : goal.returns
returns c = record {
  spelled = λ setup registers images schedule count kinds serve numbers.
      replay_spelled
      (record {
        giving = c.program_laws.ensures.giving_keeps;
        receiving = c.program_laws.ensures.receiving_keeps;
        within = c.program_laws.ensures.within;
        standing = record { begins = c.standing.ensures.begins; follows = c.standing.ensures.follows; whole = c.standing.ensures.whole };
      })
      setup registers images schedule count kinds serve numbers (c.every_schedule.ensures.run setup registers images schedule count serve);
}
