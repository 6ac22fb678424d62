use Rattle.std.proofs.Common.{◌≤◌, [], ◌∙◌, arith}
use Rattle.std.proofs.lemmas.Grind.{common_steps}
use Rattle.smm_base.specs.Calls.{stays, leads_on, never_falls}
use Rattle.replay_report.proofs.ReportLemmas.{buffered_start, buffered_line, buffered_prefix, lines_prefix, on_err_anyway, counts_more}
use Rattle.replay_report.proofs.report.write_lines.Goals as goal

pub returns-in_err-push_line-clause-prefix : goal.returns-in_err-push_line-clause-prefix
returns-in_err-push_line-clause-prefix g c =
    on_err_anyway _ _ (lines_prefix _ _ c.args.processors c.loop-event.event-index c.args.events.now (buffered_prefix _ _ _ _ _ c.loop-event.invariant.buffered c.in_err-push_line.ensures.prefix))

pub loop-event-preserved : goal.loop-event-preserved
loop-event-preserved g c = record {
  counted = counts_more _ _ c.args.events.now c.loop-event.event-index _ c.loop-event-test.true c.loop-event.invariant.counted c.add.ensures.sessions c.add.ensures.announced c.add.ensures.served;
  buffered = buffered_line _ _ _ _ _ c.args.processors c.loop-event.event-index c.args.events.now _ c.loop-event-test.true c.loop-event.invariant.buffered
      (rw c.loop-event.invariant.platform at c.in_ok-push_line.ensures.buffered);
  platform = c.push_line.ensures.platform ∙ c.loop-event.invariant.platform;
  moved = leads_on c.loop-event.invariant.moved c.push_line.ensures.moved;
}

pub loop-event-init : goal.loop-event-init
loop-event-init g c = record { counted = c.new-counts.ensures; buffered = rw c.requires (buffered_start _ []); platform = c.new-lines.ensures; moved = stays }

pub returns-in_err-push_line-clause-failed : goal.returns-in_err-push_line-clause-failed
returns-in_err-push_line-clause-failed g c =
    let low : g.K.Sink.faults c.args.out.now ≤ g.K.Sink.faults c.loop-event.out = never_falls g.K.Sink.faults g.met.K.Sink.never_falls c.loop-event.invariant.moved in
    grind (arith, common_steps)

pub returns-in_err-push_line-clause-moved : goal.returns-in_err-push_line-clause-moved
returns-in_err-push_line-clause-moved g c = leads_on c.loop-event.invariant.moved c.push_line.ensures.moved
