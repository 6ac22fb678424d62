-- What is due, as the code tells it, and what a rule asks of it beside the label.
use Rattle.std.specs.Prelude.{◌<◌, ℕ, true, false, Option, Some, None, slice_get}
use Rattle.cpu_table.specs.declared.handlers.OpDef.{OpDef}
use Rattle.cpu_table.specs.declared.handlers.OpDef.TheVariants as op
use Rattle.sync_words.specs.declared.label.Label.{Label}
use Rattle.sync_words.specs.declared.label.Label.TheVariants as say
use Rattle.serving_place.specs.Serving.{Serving}
use Rattle.serving_place.specs.Operations.{procedure_place}
use Rattle.serving_place.specs.Forms.{Program, operations_of}
use Rattle.serving_place.specs.Due.{Due, Nothing, Saying, Awaiting, Doing}
use Rattle.serving_place.specs.Setting.{Setting, first_cause}
use Rattle.serving_place.specs.declared.saying.Saying.{Saying as Said}
use Rattle.serving_place.specs.declared.saying.Saying.TheVariants.{Known, Allocation, Release}
use Rattle.serving_place.specs.Sayings.{HasRoom}
use Rattle.serving_judge.specs.declared.next.Next.{Next}
use Rattle.serving_judge.specs.declared.next.Next.TheVariants as next
use Rattle.serving_judge.specs.declared.next.StartDue.{StartDue}

abbrev pub doing : ℕ → Option OpDef → Due
doing n None = Nothing
doing n (Some o) = Doing n o

-- what the code tells, where so many levels are left
abbrev pub due_as : Program → ℕ → Next → Due
due_as program n next.Nothing = Nothing
due_as program n (next.Say l) = Saying l
due_as program n (next.Collect c) = Awaiting c
due_as program n (next.Operation c) = doing n (slice_get (operations_of program c.handler) c.at)

-- the start that an operation is, and why it is refused, as far as serving knows
abbrev pub start_of : Setting → Serving → OpDef → Option StartDue
start_of t s (op.Start cpu name arg into) =
    Some (record { cpu = cpu; is_launch = false; cause = first_cause t s false cpu (procedure_place t.program.procedures name) })
start_of t s (op.Launch cpu name arg into) =
    Some (record { cpu = cpu; is_launch = true; cause = first_cause t s true cpu (procedure_place t.program.procedures name) })
start_of t s _ = None

abbrev pub start_due : Setting → Serving → Due → Option StartDue
start_due t s (Doing n o) = start_of t s o
start_due t s _ = None

-- the width of the read that is due
abbrev pub width_of : OpDef → Option ℕ
width_of (op.Read cpu reg width into) = Some width
width_of _ = None

abbrev pub width_due : Due → Option ℕ
width_due (Doing n o) = width_of o
width_due _ = None

-- a job with a token has room for it
abbrev pub HasTokenRoom : Label → Option OpDef → ℕ → Type 0
HasTokenRoom (say.Start c j p a) (Some o) tokens = HasRoom o tokens
HasTokenRoom _ o tokens = Unit {0}

-- a label, as serving says it: that of a call of the pool is what the pool answers
abbrev pub saying_of : Label → Said
saying_of (say.Alloc n x S) = Allocation n
saying_of (say.Free n S) = Release n
saying_of l = Known l
