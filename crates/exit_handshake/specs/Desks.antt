-- Whose desks a BSP holds.
use Rattle.std.specs.Prelude.{ℕ, ◌==◌, Bool, false, List, map, slice_index_or}
use Rattle.std.specs.List.{range_with_len}
use Rattle.std.specs.Int.{bit_at}

-- a bit of a set of bits is 1
abbrev pub is_set : ℕ → ℕ → Bool
is_set bits cpu = bit_at bits cpu == 1

-- the desks of a set of 64 bits: for each of 64 processors, whether its bit is 1
unfoldable pub desks_of : ℕ → List Bool
desks_of bits = map (is_set bits) (range_with_len 0 64)

-- the desk of a processor is among them
abbrev pub holds : List Bool → ℕ → Bool
holds desks cpu = slice_index_or desks cpu false
