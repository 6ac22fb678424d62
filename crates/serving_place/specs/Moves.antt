-- What a label makes of the parts of a progress.
use Rattle.std.specs.Prelude.{ℕ, List, [], ◌∷◌, Option, Some, None}
use Rattle.smm_base.specs.declared.kinds.HandlerType.{HandlerType}
use Rattle.cpu_table.specs.declared.handlers.OpDef.{OpDef}
use Rattle.cpu_table.specs.declared.handlers.OpDef.TheVariants as op
use Rattle.sync_words.specs.declared.label.Label.{Label}
use Rattle.sync_words.specs.declared.label.Label.TheVariants as say
use Rattle.serving_place.specs.declared.progress.Called.{Called}
use Rattle.serving_place.specs.declared.progress.Pending.{Pending}
use Rattle.serving_place.specs.declared.progress.Pending.TheVariants as pending
use Rattle.serving_place.specs.Serving.{Serving, collected}
use Rattle.serving_place.specs.Operations.{after}
use Rattle.serving_place.specs.Places.{Place, ended, at_left, with_walk}

-- what a label of an operation changes: its own, or the collect of a job before it
abbrev pub operated : OpDef → Serving → Label → Serving
operated o s (say.Collect c) = collected c s
operated o s l = after o s l

-- what is to be said after it: the operation's own label after a collect, the collect after a start
abbrev pub awaited_by : OpDef → Pending
awaited_by (op.Start cpu name arg into) = pending.Awaited cpu into
awaited_by _ = pending.Nothing

abbrev pub pending_by : Called → OpDef → Label → Pending
pending_by called o (say.Collect c) = pending.Started called
pending_by called o (say.Start c j p a) = awaited_by o
pending_by called o _ = pending.Nothing

-- the list that a manage walks
abbrev pub manage_kind : OpDef → Option HandlerType
manage_kind (op.Manage kind) = Some kind
manage_kind _ = None

-- the next of these walks begins, where no walk is open
abbrev pub entered : List HandlerType → Serving → Place
entered [] s = ended s
entered (kind ∷ kinds) s = at_left s.left (ended s) (λ m. with_walk 4 kinds [] kind (record s { left = m }))
