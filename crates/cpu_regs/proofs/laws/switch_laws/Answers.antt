use Rattle.save_state_map.specs.declared.field.TheConstants.{FIELDS}
use Rattle.cpu_regs.specs.Entering.{entered}
use Rattle.cpu_regs.proofs.Loading as loading
use Rattle.cpu_regs.proofs.Saving as saving
use Rattle.cpu_regs.proofs.laws.switch_laws.Goals as goal

pub returns-clause-registers_back : goal.returns-clause-registers_back
returns-clause-registers_back c = λ registers cause m are image kinds ports. saving.registers_back registers cause m are image kinds (saving.state_fits cause.io ports)

pub returns-clause-loaded_registers : goal.returns-clause-loaded_registers
returns-clause-loaded_registers c = loading.loaded_registers

pub returns-clause-saved_image : goal.returns-clause-saved_image
returns-clause-saved_image c = λ registers cause m image. saving.image_stays (entered registers cause) FIELDS m image

pub returns-clause-saved_kind : goal.returns-clause-saved_kind
returns-clause-saved_kind c = λ registers cause m. saving.kind_stays (entered registers cause) FIELDS m

pub returns-clause-loaded_fields : goal.returns-clause-loaded_fields
returns-clause-loaded_fields c = loading.loaded_fields
