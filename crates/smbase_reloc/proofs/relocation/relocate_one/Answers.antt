-- What is loaded is what was saved, with another SMBASE.
use Rattle.std.proofs.Common.{◌≡◌, sym, ap, ◌∙◌}
use Rattle.save_state_map.specs.Images.{ImageContents}
use Rattle.cpu_regs.specs.Registers.{Registers, loaded}
use Rattle.cpu_regs.specs.Entering.{saved}
use Rattle.cpu_table.specs.Causes.{no_cause}
use Rattle.smbase_reloc.specs.Relocation.{with_smbase}
use Rattle.smbase_reloc.proofs.Registers.{accepts, loaded_with_smbase}
use Rattle.smbase_reloc.proofs.relocation.relocate_one.Goals as goal

pub returns-clause-registers : goal.returns-clause-registers
returns-clause-registers c =
    let before : ImageContents = c.image-state.result in
    let own : Registers = c.args.regs.now in
    let x = c.args.smbase in
    let kinds : own.kind ≡ before.kind = sym (ap (λ (m : ImageContents). m.kind) c.image-state.ensures ∙ c.kind.ensures.kind) in
    let laws = c.switch_laws.ensures in
    c.resume-goes_on_by.ensures.registers
    ∙ ap (λ (m : ImageContents). loaded m) (c.carry.ensures.image ∙ c.save_with_smbase.ensures)
    ∙ loaded_with_smbase c.field_laws.ensures.reads_back c.field_laws.ensures.other_fields_stay (saved own no_cause before) x (laws.saved_image own no_cause before c.kind-kind.ensures.image) (accepts (saved own no_cause before) x c.requires)
    ∙ ap (with_smbase x) (laws.registers_back own no_cause before c.kind.ensures.registers c.kind-kind.ensures.image kinds tt)
