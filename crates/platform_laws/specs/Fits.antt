-- The ranges and limits of a platform, over its data alone.
use Rattle.std.specs.Prelude.{◌≡◌, ℕ, ◌≤◌, ◌==◌, nat_lt, nat_le, Bool, true, IsTrue, length, Option, Some, None}
use Rattle.std.specs.List.{list_all}
use Rattle.smm_base.specs.declared.kinds.IoCause.{IoCause}
use Rattle.cpu_table.specs.Data.{SetupData}
use Rattle.cpu_table.specs.Distinct.{are_distinct}
use Rattle.cpu_table.specs.Layout.{layout_fits}
use Rattle.cpu_table.specs.Ranges.{events_at_most, policy_fits, smram_fits, waves_fit, handlers_fit, procedures_fit, causes_fit}
use Rattle.cpu_table.specs.declared.handlers.OpDef.{OpDef}
use Rattle.cpu_table.specs.declared.handlers.OpDef.TheVariants as op
use Rattle.cpu_table.specs.declared.handlers.HandlerDef.{HandlerDef}
use Rattle.cpu_table.specs.declared.setup.CauseAt.{CauseAt}

-- a processor that an operation names is a number of 16 bits
abbrev pub names_word : OpDef → Bool
names_word (op.Read cpu reg width into) = nat_le cpu 65535
names_word (op.Write cpu reg width value) = nat_le cpu 65535
names_word (op.Start cpu procedure arg into) = nat_le cpu 65535
names_word (op.Launch cpu procedure arg into) = nat_le cpu 65535
names_word (op.Set into value) = true
names_word (op.Check token) = true
names_word (op.Wait token into) = true
names_word (op.Alloc size into) = true
names_word (op.Free place) = true
names_word (op.Register handler kind into) = true
names_word (op.Unregister handle) = true
names_word (op.Manage kind) = true

abbrev pub names_words : HandlerDef → Bool
names_words handler = list_all names_word handler.ops

-- a port is a number of 16 bits
abbrev pub port_is_word : Option IoCause → Bool
port_is_word None = true
port_is_word (Some io) = nat_le io.port 65535

abbrev pub has_port : CauseAt → Bool
has_port cause = port_is_word cause.cause.io

-- a number that an integer of a file writes is below 2^63
abbrev pub is_integer : ℕ → Bool
is_integer n = nat_lt n 9223372036854775808

-- each part has its range, the areas find room, and a schedule makes few enough events
pub record Fits (d : SetupData) : Type 0 where
  pub processors_fit : (1 ≤ d.processors) × (d.processors ≤ 64)
  pub policy_fit : IsTrue (policy_fits d.processors d.policy)
  pub polls_fit : (1 ≤ d.t1) × (d.t1 ≤ 4096) × (1 ≤ d.t2) × (d.t2 ≤ 4096)
  pub visits_fit : (1 ≤ d.visits) × (d.visits ≤ 256)
  pub ops_fit : (1 ≤ d.ops) × (d.ops ≤ 4096)
  pub ids_for_each : length d.ids ≡ d.processors
  pub ids_distinct : IsTrue (are_distinct (λ a b. a == b) d.ids)
  pub ids_small : IsTrue (list_all is_integer d.ids)
  pub smram_fit : IsTrue (smram_fits d.smram)
  pub smram_room : IsTrue (layout_fits d.processors d.smram)
  pub waves_fits : IsTrue (waves_fit d.processors d.visits d.waves)
  pub handlers_fits : IsTrue (handlers_fit d.handlers)
  pub handlers_words : IsTrue (list_all names_words d.handlers)
  pub procedures_fits : IsTrue (procedures_fit d.procedures)
  pub causes_fits : IsTrue (causes_fit d.processors d.visits d.causes)
  pub causes_ports : IsTrue (list_all has_port d.causes)
  pub events_few : events_at_most d.processors d.t1 d.t2 d.visits d.ops ≤ 4194304
