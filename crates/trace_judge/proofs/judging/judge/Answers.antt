-- Line by line the judgement stays the same.
use Rattle.std.proofs.Common.{ℕ, sym, ◌∙◌}
use Rattle.std.proofs.lemmas.Result.{err_from_is_err_and}
use Rattle.sync_words.specs.declared.event.Event.{Event}
use Rattle.trace_judge.proofs.Walking.{next_line, next_below, broken_line, ended_line, no_line_left, whole}
use Rattle.trace_judge.proofs.judging.judge.Goals as goal

pub loop-line-preserved : goal.loop-line-preserved
loop-line-preserved c =
    let line = c.loop-line._line in
    let bytes = c.args.bytes.now in
    let w = c.loop-line.walk in
    let read : Event × ℕ = (c.in-Some.event, c.in-Some.next) in
    let taken = c.in_ok-take-in-Some.ensures in
    record {
      judged = next_line c.args.processors line bytes w c.take.new.walk read c.loop-line-test.true (sym (rw c.loop-line.invariant.platform at c.in-Some.ensures.event)) taken.accepted taken.advanced ∙ c.loop-line.invariant.judged;
      few = next_below line w c.take.new.walk read c.loop-line.invariant.few taken.advanced;
      platform = c.event_at.ensures.platform ∙ c.loop-line.invariant.platform;
    }

pub returns-in_err-take-in-Some : goal.returns-in_err-take-in-Some
returns-in_err-take-in-Some c =
    let p = err_from_is_err_and c.from_residual.result c.from_residual.ensures.1 in
    let bytes = c.args.bytes.now in
    let read : Event × ℕ = (c.in-Some.event, c.in-Some.next) in
    let broken =
    broken_line c.args.processors c.loop-line._line bytes c.loop-line.walk read c.in_err-take-in-Some.field-0.0 c.loop-line-test.true (sym (rw c.loop-line.invariant.platform at c.in-Some.ensures.event)) (sym c.in_err-take-in-Some.ensures.answer)
    in
    rw (p.1, p.2) (sym broken ∙ c.loop-line.invariant.judged ∙ whole c.args.processors c.args.machine bytes)

pub returns-in-None : goal.returns-in-None
returns-in-None c =
    let bytes = c.args.bytes.now in
    let ended = ended_line c.args.processors c.loop-line._line bytes c.loop-line.walk c.loop-line-test.true (sym (rw c.loop-line.invariant.platform at c.in-None.ensures.event)) in
    c.end.ensures ∙ sym ended ∙ c.loop-line.invariant.judged ∙ whole c.args.processors c.args.machine bytes

pub returns : goal.returns
returns c =
    let bytes = c.args.bytes.now in
    let none = no_line_left c.args.processors c.loop-line._line bytes c.loop-line.walk c.loop-line-test.false in
    sym none ∙ c.loop-line.invariant.judged ∙ whole c.args.processors c.args.machine bytes
