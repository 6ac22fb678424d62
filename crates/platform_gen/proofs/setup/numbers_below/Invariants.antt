use Rattle.std.proofs.Common.{◌≡◌, ◌<◌, All}
use Rattle.std.specs.List.{range_with_len}
use Rattle.platform_gen.proofs.setup.numbers_below.Given as goal

abbrev pub invariant-loop-number : goal.invariant-loop-number
invariant-loop-number l = record {
  below : l.numbers.items ≡ range_with_len 0 l.number;
  small : All (λ id. id < 9223372036854775808) l.numbers.items;
}
