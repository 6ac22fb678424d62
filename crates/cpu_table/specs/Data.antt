-- A setup as its data alone, without the facts that its type keeps.
use Rattle.std.specs.Prelude.{ℕ, List, Option}
use Rattle.smm_base.specs.declared.kinds.MapKind.{MapKind}
use Rattle.smm_base.specs.declared.kinds.Policy.{Policy}
use Rattle.cpu_table.specs.declared.handlers.HandlerDef.{HandlerDef}
use Rattle.cpu_table.specs.declared.handlers.ProcedureDef.{ProcedureDef}
use Rattle.cpu_table.specs.declared.setup.CauseAt.{CauseAt}
use Rattle.cpu_table.specs.declared.setup.Mode.{Mode}
use Rattle.cpu_table.specs.declared.setup.Setup.{Setup}
use Rattle.cpu_table.specs.declared.setup.Smram.{Smram}
use Rattle.cpu_table.specs.declared.waves.Wave.{Wave}

pub record SetupData : Type 0 where
  pub processors : ℕ
  pub kind : MapKind
  pub policy : Policy
  pub mode : Mode
  pub t1 : ℕ
  pub t2 : ℕ
  pub visits : ℕ
  pub ops : ℕ
  pub ids : List ℕ
  pub smram : Option Smram
  pub waves : List Wave
  pub handlers : List HandlerDef
  pub procedures : List ProcedureDef
  pub causes : List CauseAt

abbrev pub data_of : Setup → SetupData
data_of s =
    record {
      processors = s.processors;
      kind = s.kind;
      policy = s.policy;
      mode = s.mode;
      t1 = s.t1;
      t2 = s.t2;
      visits = s.visits;
      ops = s.ops;
      ids = s.ids;
      smram = s.smram;
      waves = s.waves;
      handlers = s.handlers;
      procedures = s.procedures;
      causes = s.causes;
    }
