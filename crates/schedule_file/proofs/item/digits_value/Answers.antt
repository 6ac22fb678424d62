use Rattle.schedule_file.proofs.DigitLemmas.{one_digit_more, small_digit_more}
use Rattle.schedule_file.proofs.item.digits_value.Goals as goal

pub loop-digit-preserved : goal.loop-digit-preserved
loop-digit-preserved c = record {
  so_far = one_digit_more c.args.digits.now c.loop-digit.digit-index c.loop-digit.number c.from.result c.loop-digit-test.true c.requires.digits c.loop-digit.invariant.so_far c.from.ensures;
  small = small_digit_more c.args.digits.now c.loop-digit.digit-index c.loop-digit.number c.from.result c.loop-digit-test.true c.requires.digits c.loop-digit.invariant.small c.from.ensures;
}
