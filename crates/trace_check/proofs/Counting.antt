-- Numbers of processors.
use Rattle.std.proofs.Common.{◌≡◌, ◌+◌, ◌-◌, ℕ, List, refl, ap, inl, inr, arith, add-one}
use Rattle.std.proofs.lemmas.Bool.{lt-ltb, le-ltb, cases_lt}
use Rattle.std.specs.Prelude.{nat_lt, slice_get}
use Rattle.std.specs.List.{count_by}
use Rattle.cpu_table.specs.declared.waves.Wave.{Wave}
use Rattle.cpu_table.specs.Waves.{arrivals_in, is_blocked, blocked_in}

pub fewer_than : (n e p : ℕ) → nat_lt (n + e) p ≡ nat_lt n (p - e)
fewer_than n e p = elim (cases_lt (n + e) p) [
  | inl h ↦ rw (lt-ltb (n + e) p h, lt-ltb n (p - e) (omega (arith, h))) refl
  | inr h ↦ rw (le-ltb (n + e) p h, le-ltb n (p - e) (omega (arith, h))) refl
]

-- how many the wave after these blocks
pub next_blocked : (waves : List Wave) (n : ℕ) → blocked_in waves (n + 1) ≡ count_by is_blocked (arrivals_in (slice_get waves n))
next_blocked waves n = ap (blocked_in waves) (add-one n)
