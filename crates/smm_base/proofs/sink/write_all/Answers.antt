use Rattle.std.proofs.Common.{rules, arith, ◌≤◌}
use Rattle.std.proofs.lemmas.Grind.{common_steps}
use Rattle.smm_base.specs.Calls.{stays, leads_on, one_call, never_falls}
use Rattle.smm_base.specs.Sink.{appended-further, appended-nil}
use Rattle.std.proofs.Common.{sym}
use Rattle.smm_base.proofs.sink.write_all.Goals as goal

pub loop-done-init : goal.loop-done-init
loop-done-init g c = record {
  within = search rules;
  written = sym (appended-nil _);
  moved = stays;
}

pub loop-done-preserved : goal.loop-done-preserved
loop-done-preserved g c = record {
  within = search rules;
  written = appended-further _ _ c.loop-done.done c.in_ok-taken.taken c.args.piece.now (rw (← c.loop-done.invariant.written) c.in_ok-taken.ensures.appends);
  moved = leads_on c.loop-done.invariant.moved (one_call _ _ _ c.write.ensures.moved);
}

pub returns-in_err-taken-clause-failed : goal.returns-in_err-taken-clause-failed
returns-in_err-taken-clause-failed g c =
    let low : g.K.Sink.faults c.args.out.now ≤ g.K.Sink.faults c.loop-done.out = never_falls g.K.Sink.faults g.met.K.Sink.never_falls c.loop-done.invariant.moved in
    grind (arith, common_steps)

pub returns-in_err-taken-clause-moved : goal.returns-in_err-taken-clause-moved
returns-in_err-taken-clause-moved g c = leads_on c.loop-done.invariant.moved (one_call _ _ _ c.write.ensures.moved)

pub returns-then-taken-eq0-clause-failed : goal.returns-then-taken-eq0-clause-failed
returns-then-taken-eq0-clause-failed g c =
    let low : g.K.Sink.faults c.args.out.now ≤ g.K.Sink.faults c.loop-done.out = never_falls g.K.Sink.faults g.met.K.Sink.never_falls c.loop-done.invariant.moved in
    grind (arith, common_steps)

pub returns-then-taken-eq0-clause-moved : goal.returns-then-taken-eq0-clause-moved
returns-then-taken-eq0-clause-moved g c = leads_on c.loop-done.invariant.moved (one_call _ _ _ c.write.ensures.moved)
