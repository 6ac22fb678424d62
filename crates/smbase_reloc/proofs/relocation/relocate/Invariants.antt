use Rattle.std.proofs.Common.{◌≡◌, ℕ, ◌≤◌, ◌<◌, length}
use Rattle.std.specs.Prelude.{slice_index_or}
use Rattle.cpu_regs.specs.Registers.{Registers}
use Rattle.smbase_reloc.specs.Areas.{smbase_of}
use Rattle.smbase_reloc.specs.Relocation.{with_smbase}
use Rattle.smbase_reloc.proofs.relocation.relocate.Given as goal

abbrev pub invariant-loop-i : goal.invariant-loop-i
invariant-loop-i l = record {
  size : length l.regs ≡ length l.fn.regs;
  done : (k : ℕ) (d : Registers) → k < l.i → slice_index_or l.regs k d ≡ with_smbase (smbase_of l.layout.area k) (slice_index_or l.fn.regs k d);
  left : (k : ℕ) (d : Registers) → l.i ≤ k → slice_index_or l.regs k d ≡ slice_index_or l.fn.regs k d;
  area : l.area ≡ l.fn.area;
}
