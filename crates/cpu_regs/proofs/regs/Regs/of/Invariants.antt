use Rattle.std.proofs.Common.{◌≡◌, ◌<◌, ℕ, get_or, length}
use Rattle.std.specs.Prelude.{map}
use Rattle.save_state_map.specs.declared.field.TheConstants.{FIELDS}
use Rattle.cpu_regs.specs.Registers.{kept_number}
use Rattle.cpu_regs.proofs.regs.Regs.of.Given as goal

abbrev pub invariant-loop-i : goal.invariant-loop-i
invariant-loop-i l = record {
  size : length l.numbers ≡ length FIELDS;
  so_far : (k : ℕ) → k < l.i → get_or l.numbers k 0 ≡ get_or (map (kept_number l.image) FIELDS) k 0;
}
