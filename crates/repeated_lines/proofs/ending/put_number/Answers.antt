use Rattle.std.proofs.Common.{rules, arith}
use Rattle.repeated_lines.proofs.Parting.{digits_of}
use Rattle.repeated_lines.proofs.ending.put_number.Goals as goal

pub write_digits-start-requires : goal.write_digits-start-requires
write_digits-start-requires c =
    let digits = digits_of c.args.number (omega (arith, c.ranges.number)) in
    (omega (arith, digits, c.requires.0), search rules)

pub put_colon-requires : goal.put_colon-requires
put_colon-requires c =
    let digits = digits_of c.args.number (omega (arith, c.ranges.number)) in
    (omega (arith, digits, c.requires.0, c.write_digits-start.ensures.start), omega (arith, c.requires.1, c.write_digits-start.ensures.start))

pub returns-clause-start : goal.returns-clause-start
returns-clause-start c =
    let digits = digits_of c.args.number (omega (arith, c.ranges.number)) in
    (omega (arith, digits, c.write_digits-start.ensures.start, c.put_colon.ensures.start), omega (arith, c.write_digits-start.ensures.start, c.put_colon.ensures.start))
