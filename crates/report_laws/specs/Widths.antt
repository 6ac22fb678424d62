-- That the numbers of a platform fit the types that they have in a setup. The rest of their ranges is known of every setup.
use Rattle.std.specs.Prelude.{ℕ, ◌<◌, ◌^◌, List, [], ◌∷◌}
use Rattle.cpu_table.specs.Data.{SetupData}
use Rattle.cpu_table.specs.declared.handlers.HandlerDef.{HandlerDef}
use Rattle.cpu_table.specs.declared.handlers.Operand.{Operand}
use Rattle.cpu_table.specs.declared.handlers.Operand.TheVariants.{Number, Variable}
use Rattle.cpu_table.specs.declared.handlers.OpDef.{OpDef}
use Rattle.cpu_table.specs.declared.handlers.OpDef.TheVariants as op
use Rattle.cpu_table.specs.declared.waves.Wave.{Wave}
use Rattle.smm_base.specs.declared.kinds.HandlerType.{HandlerType}
use Rattle.trace_text.specs.Spelling.{IsKind}

-- a number of an operation has 64 bits
abbrev pub HasWidth : Operand → Type 0
HasWidth (Number n) = n < 2 ^ 64
HasWidth (Variable v) = Unit {0}

-- a processor's number has 16 bits, and a GUID 128
abbrev pub HasWidths : OpDef → Type 0
HasWidths (op.Set into value) = HasWidth value
HasWidths (op.Read cpu reg width into) = cpu < 2 ^ 16
HasWidths (op.Write cpu reg width value) = (cpu < 2 ^ 16) × HasWidth value
HasWidths (op.Start cpu procedure arg into) = (cpu < 2 ^ 16) × HasWidth arg
HasWidths (op.Launch cpu procedure arg into) = (cpu < 2 ^ 16) × HasWidth arg
HasWidths (op.Check token) = HasWidth token
HasWidths (op.Wait token into) = HasWidth token
HasWidths (op.Alloc size into) = HasWidth size
HasWidths (op.Free place) = HasWidth place
HasWidths (op.Register handler kind into) = Unit {0}
HasWidths (op.Unregister handle) = HasWidth handle
HasWidths (op.Manage kind) = IsKind kind

-- each operation of a handler
abbrev pub OperationsFit : List OpDef → Type 0
OperationsFit [] = Unit {0}
OperationsFit (o ∷ os) = HasWidths o × OperationsFit os

abbrev pub HandlersFit : List HandlerDef → Type 0
HandlersFit [] = Unit {0}
HandlersFit (h ∷ hs) = OperationsFit h.ops × HandlersFit hs

-- each walk of a wave
abbrev pub KindsFit : List HandlerType → Type 0
KindsFit [] = Unit {0}
KindsFit (kind ∷ kinds) = IsKind kind × KindsFit kinds

abbrev pub WavesFit : List Wave → Type 0
WavesFit [] = Unit {0}
WavesFit (wave ∷ waves) = KindsFit wave.manage × WavesFit waves

-- of a platform
pub record NumbersFit (d : SetupData) : Type 0 where
  pub handlers : HandlersFit d.handlers
  pub waves : WavesFit d.waves
