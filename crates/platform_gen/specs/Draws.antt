-- The numbers that are drawn from a seed, by a linear congruential generator modulo 2^31.
use Rattle.std.specs.Prelude.{ℕ, zero, suc, ◌+◌, ◌*◌, ◌%◌, ◌/◌}

-- the generator's state before the first draw
abbrev pub first_state : ℕ → ℕ
first_state seed = seed % 2147483648

-- the state after a draw
unfoldable pub next_state : ℕ → ℕ
next_state x = (x * 1103515245 + 12345) % 2147483648

-- what the draw gave that left this state
unfoldable pub drawn : ℕ → ℕ
drawn x = x / 65536

-- the state after this many draws
abbrev pub state_after : ℕ → ℕ → ℕ
state_after x zero = x
state_after x (suc k) = next_state (state_after x k)

-- what draw k gives, counted from 0, of those that follow the state x
abbrev pub draw : ℕ → ℕ → ℕ
draw x k = drawn (next_state (state_after x k))
