-- What a wave's interrupt does at each processor.
use Rattle.std.specs.Prelude.{ℕ, zero, suc, Bool, true, false, List, [], Option, Some, None, slice_get}
use Rattle.std.specs.List.{count_by}
use Rattle.cpu_table.specs.declared.waves.Arrival.{Arrival}
use Rattle.cpu_table.specs.declared.waves.Arrival.TheVariants.{Blocked}
use Rattle.cpu_table.specs.declared.waves.Wave.{Wave}

-- what each processor does as the interrupt of this wave comes, the waves counted from 1
abbrev pub arrivals_in : Option Wave → List Arrival
arrivals_in None = []
arrivals_in (Some wave) = wave.status

abbrev pub arrivals_of : List Wave → ℕ → List Arrival
arrivals_of waves zero = []
arrivals_of waves (suc n) = arrivals_in (slice_get waves n)

abbrev pub is_blocked : Arrival → Bool
is_blocked Blocked = true
is_blocked _ = false

-- how many processors the wave blocks
abbrev pub blocked_in : List Wave → ℕ → ℕ
blocked_in waves w = count_by is_blocked (arrivals_of waves w)
