-- What a check works on.
use Rattle.std.specs.Prelude.{ℕ, ◌≤◌, ◌<◌, ◌^◌, List, length}
use Rattle.save_state_map.specs.Images.{ImageContents}
use Rattle.cpu_table.specs.Data.{SetupData, data_of}
use Rattle.rendezvous_core.specs.Starts.{AreImagesOf}
use Rattle.smm_player.specs.declared.trace.TraceInputs.{TraceInputs}

-- the platform's setup; an image for each processor; the bytes of a trace
pub record TracePlan : Type 0 where
  pub setup : SetupData
  pub images : List ImageContents
  pub bytes : List ℕ

abbrev pub trace_plan : SetupData → List ImageContents → List ℕ → TracePlan
trace_plan setup images bytes = record { setup = setup; images = images; bytes = bytes }

abbrev pub trace_plan_of : TraceInputs → TracePlan
trace_plan_of inputs = trace_plan (data_of inputs.setup) inputs.images.items inputs.bytes.items

-- the platform has at most 64 processors, there is an image of its kind for each, and the trace has fewer than 2^64 bytes
pub record IsJudgeable (p : TracePlan) : Type 0 where
  pub few : p.setup.processors ≤ 64
  pub images : AreImagesOf p.setup p.images
  pub small : length p.bytes < 2 ^ 64
