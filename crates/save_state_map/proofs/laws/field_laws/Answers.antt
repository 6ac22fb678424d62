use Rattle.save_state_map.proofs.Apart.{fields_within, fields_apart}
use Rattle.save_state_map.proofs.Places as places
use Rattle.save_state_map.proofs.laws.field_laws.Goals as goal

pub returns-clause-within : goal.returns-clause-within
returns-clause-within c = fields_within

pub returns-clause-apart : goal.returns-clause-apart
returns-clause-apart c = fields_apart

pub returns-clause-reads_back : goal.returns-clause-reads_back
returns-clause-reads_back c = places.field_reads_back

pub returns-clause-other_fields_stay : goal.returns-clause-other_fields_stay
returns-clause-other_fields_stay c = places.other_field_stays

pub returns-clause-other_bytes_stay : goal.returns-clause-other_bytes_stay
returns-clause-other_bytes_stay c = places.other_byte_stays

pub returns-clause-stays_image : goal.returns-clause-stays_image
returns-clause-stays_image c = places.stays_image

pub returns-clause-takes_own : goal.returns-clause-takes_own
returns-clause-takes_own c = places.takes_own
