-- The answer of a walk, as a function of the statuses that its handlers returned (EDK II).
use Rattle.std.specs.Prelude.{Bool, true, false, ◌||◌, cond, List, [], ◌∷◌}
use Rattle.std.specs.List.{list_any}
use Rattle.smm_base.specs.declared.kinds.HandlerType.{HandlerType}
use Rattle.smm_base.specs.declared.kinds.HandlerType.TheVariants.{Root, Typed}
use Rattle.smm_base.specs.declared.status.Status.{Status}
use Rattle.smm_base.specs.declared.status.Status.TheVariants.{Success, NotFound, InterruptPending, SourceQuiesced}
use Rattle.smi_manage.specs.declared.running.Running.{Running}

-- a walk over a GUID's list stops at INTERRUPT_PENDING and at SUCCESS, one over the root list at none
abbrev pub stops : HandlerType → Status → Bool
stops Root _ = false
stops (Typed guid) InterruptPending = true
stops (Typed guid) Success = true
stops (Typed guid) _ = false

-- SOURCE_QUIESCED makes the answer SUCCESS, and on the root list SUCCESS does
abbrev pub settles : HandlerType → Status → Bool
settles _ SourceQuiesced = true
settles Root Success = true
settles _ _ = false

-- the last of the statuses, or this one where there is none
abbrev pub last_or : Status → List Status → Status
last_or status [] = status
last_or status (next ∷ rest) = last_or next rest

-- The answer is the status that stopped the walk, which is the last one. A walk that was not stopped has the answer
-- SUCCESS where a status settled it, else the last status, or NOT_FOUND where no handler was called.
abbrev pub answer_of : HandlerType → List Status → Status
answer_of kind statuses =
    cond (stops kind (last_or NotFound statuses)) (last_or NotFound statuses)
    (cond (list_any (settles kind) statuses) Success (last_or NotFound statuses))

-- The same by what a walk keeps: the last status, and whether one settled the answer.

-- no handler was called yet
abbrev pub fresh : Running
fresh = record { last = NotFound; settled = false }

-- one more status
abbrev pub plus : HandlerType → Running → Status → Running
plus kind running status = record { last = status; settled = running.settled || settles kind status }

-- after all of these
abbrev pub run : HandlerType → Running → List Status → Running
run kind running [] = running
run kind running (status ∷ rest) = run kind (plus kind running status) rest

-- the answer of what was kept
abbrev pub ended_with : HandlerType → Running → Status
ended_with kind running = cond (stops kind running.last) running.last (cond running.settled Success running.last)
