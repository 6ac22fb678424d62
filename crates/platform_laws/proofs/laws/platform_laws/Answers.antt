use Rattle.platform_laws.proofs.Whole as whole
use Rattle.platform_laws.proofs.Files as files
use Rattle.platform_laws.proofs.Guids.{guid_written, guid_printed}
use Rattle.platform_laws.proofs.JudgedSetup as judged
use Rattle.platform_laws.proofs.laws.platform_laws.Goals as goal

pub returns-clause-said : goal.returns-clause-said
returns-clause-said c = λ t d is. (whole.setup_said t d is).0

pub returns-clause-fits : goal.returns-clause-fits
returns-clause-fits c = λ t d is. (whole.setup_said t d is).1

pub returns-clause-read : goal.returns-clause-read
returns-clause-read c = whole.setup_is_read

pub returns-clause-one : goal.returns-clause-one
returns-clause-one c = whole.setup_is_one

pub returns-clause-file_stands : goal.returns-clause-file_stands
returns-clause-file_stands c = files.read_is_said

pub returns-clause-file_read : goal.returns-clause-file_read
returns-clause-file_read c = files.said_is_read

pub returns-clause-file_one : goal.returns-clause-file_one
returns-clause-file_one c = files.stands_for_one

pub returns-clause-fault : goal.returns-clause-fault
returns-clause-fault c = judged.fault_is

pub returns-clause-faulty : goal.returns-clause-faulty
returns-clause-faulty c = judged.fault_clash

pub returns-clause-faultless : goal.returns-clause-faultless
returns-clause-faultless c = judged.faultless

pub returns-clause-file_fault : goal.returns-clause-file_fault
returns-clause-file_fault c = files.stop_is_wrong

pub returns-clause-file_faulty : goal.returns-clause-file_faulty
returns-clause-file_faulty c = files.wrong_clash

pub returns-clause-file_faultless : goal.returns-clause-file_faultless
returns-clause-file_faultless c = files.stands_unless_wrong

pub returns-clause-guid_written : goal.returns-clause-guid_written
returns-clause-guid_written c = guid_written

pub returns-clause-guid_printed : goal.returns-clause-guid_printed
returns-clause-guid_printed c = guid_printed
