-- Whom a loop over processors goes on with.
use Rattle.std.proofs.Common.{◌≡◌, ℕ, zero, suc, ◌+◌, ◌-◌, ◌<◌, ◌≤◌, ◌==◌, Bool, true, false, IsTrue, cond, Option, Some, None, refl, arith}
use Rattle.std.specs.Prelude.{IfSome}
use Rattle.std.specs.List.{find, range_with_len}
use Rattle.sync_words.specs.declared.row.Row.{Row}
use Rattle.sync_words.specs.Steps.{next_below, row_or}

abbrev IsBelow : (ℕ → Bool) → ℕ → ℕ → Type 0
IsBelow test n j = (j < n) × IsTrue (test j)

weaken : (o : Option ℕ) (p q : ℕ → Type 0) → IfSome o p → ((j : ℕ) → p j → q j) → IfSome o q
weaken None p q s h = tt
weaken (Some j) p q s h = h j s

below_more : (test : ℕ → Bool) (m n j : ℕ) → m ≤ n → IsBelow test m j → IsBelow test n j
below_more test m n j le k = let a = k.0 in (omega arith, k.1)

in_step : (test : ℕ → Bool) (from count : ℕ) (b : Bool) → test from ≡ b → IfSome (find test (range_with_len (from + 1) count)) (IsBelow test (from + 1 + count)) → IfSome (cond b (Some from) (find test (range_with_len (from + 1) count))) (IsBelow test (from + suc count))
in_step test from count true e h = (omega arith, e)
in_step test from count false e h =
    weaken (find test (range_with_len (from + 1) count)) (IsBelow test (from + 1 + count)) (IsBelow test (from + suc count)) h
    (λ j k. below_more test (from + 1 + count) (from + suc count) j (omega arith) k)

found_in : (test : ℕ → Bool) (from count : ℕ) → IfSome (find test (range_with_len from count)) (λ j. (j < from + count) × IsTrue (test j))
found_in test from zero = tt
found_in test from (suc count) = in_step test from count (test from) refl (found_in test (from + 1) count)

next_by : (n : ℕ) (test : ℕ → Bool) (from count : ℕ) → n - from ≡ count → IfSome (find test (range_with_len from count)) (IsBelow test n)
next_by n test from zero e = tt
next_by n test from (suc count) e =
    weaken (find test (range_with_len from (suc count))) (IsBelow test (from + suc count)) (IsBelow test n) (found_in test from (suc count))
    (λ j k. below_more test (from + suc count) n j (omega arith) k)

-- the number found is below n and passes the test
pub next_is : (n : ℕ) (test : ℕ → Bool) (from : ℕ) → IfSome (next_below n test from) (λ j. (j < n) × IsTrue (test j))
next_is n test from = next_by n test from (n - from) refl

-- a property of the row that a loop goes on with
pub row_or_is : (q : Row → Type 0) (at : ℕ → Row) (after : Row) (p : ℕ → Type 0) (o : Option ℕ) → IfSome o p → ((j : ℕ) → p j → q (at j)) → q after → q (row_or at after o)
row_or_is q at after p None s h a = a
row_or_is q at after p (Some j) s h a = h j s

pub some_left : (n : ℕ) → (n == 0) ≡ false → 1 ≤ n
some_left n e = grind arith
