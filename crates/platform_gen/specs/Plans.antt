-- What is drawn for a platform, and the setup that it makes.
use Rattle.std.specs.Prelude.{ℕ, ◌%◌, ◌==◌, ◌≡◌, ◌≤◌, nat_lt, List, [], ◌∷◌, length, map, None, Some, codes, if◌then◌else◌}
use Rattle.std.specs.List.{range_with_len}
use Rattle.smm_base.specs.declared.kinds.HandlerType.TheVariants.{Root}
use Rattle.smm_base.specs.declared.kinds.MapKind.TheVariants.{Intel64}
use Rattle.smm_base.specs.declared.kinds.Policy.TheVariants.{Elected}
use Rattle.smm_base.specs.declared.status.Status.TheVariants.{Success}
use Rattle.cpu_table.specs.Data.{SetupData}
use Rattle.cpu_table.specs.declared.handlers.HandlerDef.{HandlerDef}
use Rattle.cpu_table.specs.declared.handlers.OpDef.{OpDef}
use Rattle.cpu_table.specs.declared.handlers.OpDef.TheVariants.{Write}
use Rattle.cpu_table.specs.declared.handlers.Operand.TheVariants.{Number}
use Rattle.cpu_table.specs.declared.setup.Mode.{Mode}
use Rattle.cpu_table.specs.declared.setup.Mode.TheVariants.{Traditional, Relaxed}
use Rattle.cpu_table.specs.declared.waves.Arrival.{Arrival}
use Rattle.cpu_table.specs.declared.waves.Arrival.TheVariants.{Prompt, Delayed, Blocked, Absent}
use Rattle.cpu_table.specs.declared.waves.Wave.{Wave}
use Rattle.platform_gen.specs.Draws.{first_state, next_state, state_after, draw}
use Rattle.platform_gen.specs.declared.plan.Plan.{Plan}
use Rattle.platform_gen.specs.declared.plan.RaxWrite.{RaxWrite}

-- the mode by a draw
abbrev pub mode_by : ℕ → Mode
mode_by d = if d % 2 == 0 then Traditional else Relaxed

-- how a wave finds a processor, by the last three bits of a draw
abbrev pub arrival_by_bits : ℕ → Arrival
arrival_by_bits bits = if bits == 0 then Delayed else if bits == 1 then Blocked else if bits == 2 then Absent else Prompt

-- processor 0 is always prompt
abbrev pub arrival_by : ℕ → ℕ → Arrival
arrival_by cpu d = if cpu == 0 then Prompt else arrival_by_bits (d % 8)

-- how a wave finds the n processors, by the n draws that follow a state
abbrev pub statuses_from : ℕ → ℕ → List Arrival
statuses_from x n = map (λ cpu. arrival_by cpu (draw x cpu)) (range_with_len 0 n)

-- what the handler writes to the first k processors, by the k draws that follow a state
abbrev pub writes_from : ℕ → ℕ → List RaxWrite
writes_from x k = map (λ cpu. record { cpu = cpu; value = draw x cpu }) (range_with_len 0 k)

-- the handler writes to so many of the n processors
abbrev pub writes_of : ℕ → ℕ
writes_of n = if nat_lt n 8 then n else 8

-- the draws that follow a state: one for the mode, n for each of the two waves, and those of the writes
abbrev pub plan_from : ℕ → ℕ → Plan
plan_from n x =
    record {
      processors = n;
      mode = mode_by (draw x 0);
      first = statuses_from (next_state x) n;
      second = statuses_from (state_after (next_state x) n) n;
      writes = writes_from (state_after (state_after (next_state x) n) n) (writes_of n);
    }

-- the plan of n processors that a seed makes
abbrev pub generated_plan : ℕ → ℕ → Plan
generated_plan seed n = plan_from n (first_state seed)

-- a wave in whose session the root list is walked over
abbrev pub wave_of : List Arrival → Wave
wave_of status = record { status = status; manage = Root ∷ [] }

-- register 38 is RAX; all its 8 bytes are written
abbrev pub op_of : RaxWrite → OpDef
op_of write = Write write.cpu 38 8 (Number write.value)

-- the one handler, on the root list
abbrev pub handler_of : List RaxWrite → HandlerDef
handler_of writes = record { name = codes "h0"; kind = Some Root; answer = Success; ops = map op_of writes }

-- the setup that a plan makes
abbrev pub setup_of : Plan → SetupData
setup_of plan =
    record {
      processors = plan.processors;
      kind = Intel64;
      policy = Elected;
      mode = plan.mode;
      t1 = 16;
      t2 = 16;
      visits = 8;
      ops = 64;
      ids = range_with_len 0 plan.processors;
      smram = None;
      waves = wave_of plan.first ∷ wave_of plan.second ∷ [];
      handlers = handler_of plan.writes ∷ [];
      procedures = [];
      causes = [];
    }

-- the setup of n processors that a seed makes
abbrev pub generated_setup : ℕ → ℕ → SetupData
generated_setup seed n = setup_of (generated_plan seed n)

-- a plan has 1 to 64 processors, a status for each in both waves, and at most 64 writes
pub record PlanFits (plan : Plan) : Type 0 where
  pub some : 1 ≤ plan.processors
  pub few : plan.processors ≤ 64
  pub first_count : length plan.first ≡ plan.processors
  pub second_count : length plan.second ≡ plan.processors
  pub few_writes : length plan.writes ≤ 64
