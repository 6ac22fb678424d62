use Rattle.std.proofs.Common.{rules, tests, arith}
use Rattle.std.proofs.lemmas.Iterator.Consumers.{YieldsList-turn, YieldsList-end}
use Rattle.std.proofs.lemmas.Iterator.Splits.{YieldsList-from_slice_split}
use Rattle.std.proofs.lemmas.List.{length_push}
use Rattle.std.proofs.lemmas.Result.{err_from_is_err_and, IfOk-weaker}
use Rattle.std.specs.Option.{ok_or}
use Rattle.schedule_file.specs.declared.error.ScheduleError.TheVariants.{TooLong}
use Rattle.schedule_file.specs.Schedule.{is_blank}
use Rattle.schedule_file.proofs.PartLemmas.{schedule_after-start, bytes-slice_split, read_part, refused_part, bytes_at, read_to_end, read_by, refused_by_end, few-part}
use Rattle.schedule_file.proofs.KnownActors.{schedule_of-known}
use Rattle.schedule_file.proofs.schedule.read_schedule.Goals as goal

pub loop-part-init : goal.loop-part-init
loop-part-init c =
    let bytes = bytes-slice_split is_blank c.args.bytes.now in
    record {
      after = rw c.new.ensures.items (schedule_after-start c.args.n c.args.bytes.now);
      few = rw c.new.ensures.items (omega arith);
      bytes = omega arith;
    }

pub loop-part-preserved : goal.loop-part-preserved
loop-part-preserved c =
    let t = YieldsList-turn (YieldsList-from_slice_split _ is_blank c.args.bytes.now (cc) (cc) (cc) (λ x r q k. search (rules, tests))) c.loop-part.yielded _ c.loop-part.yielded_by _ _ c.in-Some.part c.in-Some.is c.next.ensures.steps in
    let more = length_push c.loop-part.yielded c.in-Some.part in
    let bytes = bytes_at _ _ _ _ more t in
    record {
      after = read_part _ _ _ _ _ _ _ _ _ more t c.in_ok-listed.ensures c.loop-part.invariant.after;
      few = few-part _ _ _ _ _ c.in_ok-listed.ensures c.loop-part.invariant.few;
      bytes = omega (arith, c.loop-part.invariant.bytes);
    }

pub overflow_add-at-in-loop-part : goal.overflow_add-at-in-loop-part
overflow_add-at-in-loop-part c =
    let t = YieldsList-turn (YieldsList-from_slice_split _ is_blank c.args.bytes.now (cc) (cc) (cc) (λ x r q k. search (rules, tests))) c.loop-part.yielded _ c.loop-part.yielded_by _ _ c.in-Some.part c.in-Some.is c.next.ensures.steps in
    let more = length_push c.loop-part.yielded c.in-Some.part in
    let bytes = bytes_at _ _ _ _ more t in
    omega (arith, c.loop-part.invariant.bytes)

pub returns-in_err-listed-clause-refused : goal.returns-in_err-listed-clause-refused
returns-in_err-listed-clause-refused c =
    let t = YieldsList-turn (YieldsList-from_slice_split _ is_blank c.args.bytes.now (cc) (cc) (cc) (λ x r q k. search (rules, tests))) c.loop-part.yielded _ c.loop-part.yielded_by _ _ c.in-Some.part c.in-Some.is c.next.ensures.steps in
    let error = err_from_is_err_and c.from_residual.result c.from_residual.ensures.1 in
    rw (error.1, error.2) (refused_part _ _ _ _ _ _ _ _ t c.loop-part.invariant.after c.in_err-listed.ensures)

pub returns-clause-read : goal.returns-clause-read
returns-clause-read c =
    let t = YieldsList-end (YieldsList-from_slice_split _ is_blank c.args.bytes.now (cc) (cc) (cc) (λ x r q k. search (rules, tests))) c.loop-part.yielded _ c.loop-part.yielded_by _ _ c.in-None.is c.next.ensures.steps in
    let ended = read_to_end _ _ _ _ _ _ t.1 c.loop-part.invariant.few c.loop-part.invariant.after in
    rw c.ok_or.ensures.value (read_by (λ actors. actors.items) c.loop-part.listed _ ended)

pub returns-clause-known : goal.returns-clause-known
returns-clause-known c =
    let t = YieldsList-end (YieldsList-from_slice_split _ is_blank c.args.bytes.now (cc) (cc) (cc) (λ x r q k. search (rules, tests))) c.loop-part.yielded _ c.loop-part.yielded_by _ _ c.in-None.is c.next.ensures.steps in
    let ended = read_to_end _ _ _ _ _ _ t.1 c.loop-part.invariant.few c.loop-part.invariant.after in
    rw c.ok_or.ensures.value (IfOk-weaker (ok_or c.loop-part.listed TooLong) _ _ (λ actors. schedule_of-known c.args.n c.args.bytes.now actors.items) (read_by (λ actors. actors.items) c.loop-part.listed _ ended))

pub returns-clause-refused : goal.returns-clause-refused
returns-clause-refused c =
    let t = YieldsList-end (YieldsList-from_slice_split _ is_blank c.args.bytes.now (cc) (cc) (cc) (λ x r q k. search (rules, tests))) c.loop-part.yielded _ c.loop-part.yielded_by _ _ c.in-None.is c.next.ensures.steps in
    let ended = read_to_end _ _ _ _ _ _ t.1 c.loop-part.invariant.few c.loop-part.invariant.after in
    rw c.ok_or.ensures.value (refused_by_end (λ actors. actors.items) c.loop-part.listed _ ended)
