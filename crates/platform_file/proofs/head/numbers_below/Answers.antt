use Rattle.std.proofs.Common.{◌≡◌, ◌∙◌, ◌++◌, ◌∷◌, [], ap, arith}
use Rattle.std.specs.List.{range_with_len}
use Rattle.platform_file.proofs.Growing.{numbers_more, numbers_count, numbers_distinct, numbers_small}
use Rattle.platform_file.proofs.head.numbers_below.Goals as goal

pub loop-number-preserved : goal.loop-number-preserved
loop-number-preserved c = record {
  so_far = c.in_ok-push.ensures.items ∙ ap (λ xs. xs ++ c.loop-number.number ∷ []) c.loop-number.invariant.so_far ∙ numbers_more c.loop-number.number;
  within = omega (arith, c.loop-number-test.true);
}

pub returns-clause-numbers : goal.returns-clause-numbers
returns-clause-numbers c =
    let all : c.loop-number.number ≡ c.args.count = omega (arith, c.loop-number-test.false, c.loop-number.invariant.within) in
    c.loop-number.invariant.so_far ∙ ap (λ n. range_with_len 0 n) all

pub returns-clause-count : goal.returns-clause-count
returns-clause-count c =
    let all : c.loop-number.number ≡ c.args.count = omega (arith, c.loop-number-test.false, c.loop-number.invariant.within) in
    numbers_count c.loop-number.numbers.items c.args.count (c.loop-number.invariant.so_far ∙ ap (λ n. range_with_len 0 n) all)

pub returns-clause-distinct : goal.returns-clause-distinct
returns-clause-distinct c = numbers_distinct c.loop-number.numbers.items c.loop-number.number c.loop-number.invariant.so_far

pub returns-clause-small : goal.returns-clause-small
returns-clause-small c = numbers_small c.loop-number.numbers.items c.loop-number.number 9223372036854775808 (omega (arith, c.loop-number.invariant.within, c.ranges.count)) c.loop-number.invariant.so_far
