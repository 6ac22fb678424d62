use Rattle.save_state_access.specs.Table.{parts_numbered}
use Rattle.save_state_access.proofs.Numbers.{width_of_parts}
use Rattle.save_state_access.proofs.RoundTrip.{all_bytes, written_is_read}
use Rattle.save_state_access.proofs.laws.service_laws.Goals as goal

pub returns-clause-widths : goal.returns-clause-widths
returns-clause-widths c = λ m number. width_of_parts m (parts_numbered number)

pub returns-clause-written_is_read : goal.returns-clause-written_is_read
returns-clause-written_is_read c = λ m parts new image each can fits. written_is_read m parts new image (all_bytes new each) can fits
