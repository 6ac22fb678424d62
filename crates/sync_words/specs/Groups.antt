-- Groups of labels, and the accesses that have numbers.
use Rattle.std.specs.Prelude.{Bool, true, false, ◌||◌}
use Rattle.sync_words.specs.declared.access.Access.{Access}
use Rattle.sync_words.specs.declared.access.Access.TheVariants.{Put, Claim, Await, Seek, Raise}
use Rattle.sync_words.specs.declared.label.Label.{Label}
use Rattle.sync_words.specs.declared.label.Label.TheVariants.{Begin, Manage, Deep, Call, Return, Answer, Set, Read, Write, Check, Wait, Alloc, Free, Register, Unregister, Refuse, Start, Run, Collect, Spent, Done}

-- a handler called a service that isn't about procedures
abbrev pub is_of_service : Label → Bool
is_of_service (Set variable value) = true
is_of_service (Read cpu register width value status) = true
is_of_service (Write cpu register width value status) = true
is_of_service (Alloc size place status) = true
is_of_service (Free place status) = true
is_of_service (Register handler serial status) = true
is_of_service (Unregister handle status) = true
is_of_service _ = false

-- a procedure was started, refused, run, asked for, waited for or collected
abbrev pub is_of_procedure : Label → Bool
is_of_procedure (Check job status) = true
is_of_procedure (Wait job value status) = true
is_of_procedure (Refuse cpu cause) = true
is_of_procedure (Start cpu job procedure arg) = true
is_of_procedure (Run job value status) = true
is_of_procedure (Collect cpu) = true
is_of_procedure _ = false

-- serving began, went over handlers, or ended
abbrev pub is_of_walk : Label → Bool
is_of_walk (Begin wave) = true
is_of_walk (Manage kind) = true
is_of_walk (Deep kind) = true
is_of_walk (Call handler) = true
is_of_walk (Return handler status) = true
is_of_walk (Answer status) = true
is_of_walk Spent = true
is_of_walk Done = true
is_of_walk _ = false

-- any of these
abbrev pub is_served : Label → Bool
is_served label = is_of_walk label || is_of_procedure label || is_of_service label

-- the access has numbers
abbrev pub has_numbers : Access → Bool
has_numbers (Put new) = true
has_numbers (Claim from new) = true
has_numbers (Await from new) = true
has_numbers (Seek below) = true
has_numbers (Raise signal) = true
has_numbers _ = false
