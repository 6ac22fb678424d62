-- At the start there is a member for each processor.
use Rattle.std.proofs.Common.{◌≡◌, ◌∙◌, List, length, sym, ap}
use Rattle.save_state_map.specs.Images.{ImageContents}
use Rattle.cpu_regs.specs.Registers.{Registers}
use Rattle.cpu_table.specs.Data.{SetupData}
use Rattle.trace_members.proofs.FirstMembers.{first_size}
use Rattle.trace_check.specs.declared.kept.Kept.{Kept}
use Rattle.trace_check.specs.Judged.{Judged, setup_of, first_judged}
use Rattle.trace_check.specs.Kept.{judged_in, IsKept}

pub first_is_kept : (d : SetupData) (rs : List Registers) (images : List ImageContents) (k : Kept) → length rs ≡ d.processors → length images ≡ d.processors
    → judged_in k ≡ first_judged d rs images → IsKept k
first_is_kept d rs images k e f is =
    record {
      size = first_size d rs images k.members.items e f (ap (λ (j : Judged). j.members) is) ∙ ap (λ (j : Judged). (setup_of j).processors) (sym is);
    }
