-- Which label this is, as a test.
use Rattle.std.specs.Prelude.{ℕ, ◌==◌, ◌&&◌, Bool, true, false}
use Rattle.smm_base.specs.declared.kinds.HandlerType.{HandlerType}
use Rattle.smm_base.specs.declared.registers.Register.{Register}
use Rattle.smm_base.specs.declared.status.Status.{Status}
use Rattle.smm_base.specs.declared.status.Status.TheVariants as status
use Rattle.smm_base.specs.Register.{register_number}
use Rattle.sync_words.specs.declared.label.Label.{Label}
use Rattle.sync_words.specs.declared.label.Label.TheVariants as say
use Rattle.handler_registry.specs.Registrations.{is_same_list}

-- a number for each status
abbrev pub status_number : Status → ℕ
status_number status.Success = 0
status_number status.InvalidParameter = 1
status_number status.Unsupported = 2
status_number status.NotReady = 3
status_number status.OutOfResources = 4
status_number status.AccessDenied = 5
status_number status.NotFound = 6
status_number status.Timeout = 7
status_number status.Aborted = 8
status_number status.InterruptPending = 9
status_number status.SourcePending = 10
status_number status.SourceQuiesced = 11

abbrev pub is_status : Status → Status → Bool
is_status S T = status_number T == status_number S

abbrev pub is_register : Register → Register → Bool
is_register r q = register_number q == register_number r

abbrev pub is_spent : Label → Bool
is_spent say.Spent = true
is_spent _ = false

abbrev pub is_begin : ℕ → Label → Bool
is_begin w (say.Begin v) = v == w
is_begin w _ = false

abbrev pub is_manage : HandlerType → Label → Bool
is_manage kind (say.Manage k) = is_same_list k kind
is_manage kind _ = false

abbrev pub is_deep : HandlerType → Label → Bool
is_deep kind (say.Deep k) = is_same_list k kind
is_deep kind _ = false

abbrev pub is_call : ℕ → Label → Bool
is_call h (say.Call g) = g == h
is_call h _ = false

abbrev pub is_return : ℕ → Status → Label → Bool
is_return h S (say.Return g T) = g == h && is_status S T
is_return h S _ = false

abbrev pub is_answer : Status → Label → Bool
is_answer S (say.Answer T) = is_status S T
is_answer S _ = false

abbrev pub is_collect : ℕ → Label → Bool
is_collect c (say.Collect k) = k == c
is_collect c _ = false

-- the labels that are due by themselves
abbrev pub is_label : Label → Label → Bool
is_label say.Spent l = is_spent l
is_label (say.Begin w) l = is_begin w l
is_label (say.Manage kind) l = is_manage kind l
is_label (say.Call h) l = is_call h l
is_label (say.Return h S) l = is_return h S l
is_label (say.Answer S) l = is_answer S l
is_label _ l = false
