-- What a set of desks says of a processor is what its bit says.
use Rattle.std.proofs.Common.{◌≡◌, ℕ, ◌<◌, ◌≤◌, false, map, arith}
use Rattle.std.specs.List.{range_with_len}
use Rattle.std.proofs.lemmas.List.{get_or_past}
use Rattle.std.proofs.lemmas.List.FromFn.{get_or-map-range_with_len, length-map-range_with_len}
use Rattle.exit_handshake.specs.Desks.{is_set, desks_of, holds}

pub holds-desks_of : (bits cpu : ℕ) → cpu < 64 → holds (desks_of bits) cpu ≡ is_set bits cpu
unfolding desks_of
holds-desks_of bits cpu h = get_or-map-range_with_len (is_set bits) 0 64 cpu cpu false h (omega arith)

pub holds_none : (bits cpu : ℕ) → 64 ≤ cpu → holds (desks_of bits) cpu ≡ false
unfolding desks_of
holds_none bits cpu h = get_or_past (map (is_set bits) (range_with_len 0 64)) cpu false (rw (length-map-range_with_len (is_set bits) 0 64) h)
