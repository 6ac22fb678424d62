use Rattle.std.proofs.Common.{◌≡◌, drop}
use Rattle.save_state_map.specs.declared.field.TheConstants.{FIELDS}
use Rattle.cpu_regs.specs.Entering.{entered, with_fields}
use Rattle.cpu_regs.proofs.switch.enter.Given as goal

abbrev pub invariant-loop-field : goal.invariant-loop-field
invariant-loop-field l = record {
  kind : l.image.kind ≡ l.fn.image.kind;
  so_far : with_fields (entered l.regs l.cause) (drop l.field-index FIELDS) l.image ≡ with_fields (entered l.regs l.cause) FIELDS l.fn.image;
}
