-- How a status is printed, and read.
use Rattle.std.specs.Prelude.{ℕ, List, Option, codes, find}
use Rattle.std.specs.Str.{bytes_eq}
use Rattle.smm_base.specs.declared.status.TheConstants.{STATUSES}
use Rattle.smm_base.specs.declared.status.Status.{Status}
use Rattle.smm_base.specs.declared.status.Status.TheVariants.{Success, InvalidParameter, Unsupported, NotReady, OutOfResources, AccessDenied, NotFound, Timeout, Aborted, InterruptPending, SourcePending, SourceQuiesced}

abbrev pub status_text : Status → List ℕ
status_text Success = codes "SUCCESS"
status_text InvalidParameter = codes "INVALID_PARAMETER"
status_text Unsupported = codes "UNSUPPORTED"
status_text NotReady = codes "NOT_READY"
status_text OutOfResources = codes "OUT_OF_RESOURCES"
status_text AccessDenied = codes "ACCESS_DENIED"
status_text NotFound = codes "NOT_FOUND"
status_text Timeout = codes "TIMEOUT"
status_text Aborted = codes "ABORTED"
status_text InterruptPending = codes "INTERRUPT_PENDING"
status_text SourcePending = codes "SOURCE_PENDING"
status_text SourceQuiesced = codes "SOURCE_QUIESCED"

-- the status with this printed name, where there is one
abbrev pub status_named : List ℕ → Option Status
status_named text = find (λ status. bytes_eq (status_text status) text) STATUSES
