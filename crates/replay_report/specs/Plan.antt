-- What a replay works on.
use Rattle.std.specs.Prelude.{ℕ, ◌≡◌, ◌<◌, ◌≤◌, IsTrue, List, All, None}
use Rattle.save_state_map.specs.Images.{ImageContents}
use Rattle.cpu_table.specs.Data.{SetupData, data_of}
use Rattle.cpu_table.specs.Ranges.{policy_fits, waves_fit, handlers_fit}
use Rattle.rendezvous_core.specs.Starts.{start_refusal, AreImagesOf}
use Rattle.replay_report.specs.declared.inputs.Inputs.{Inputs}

-- the platform's setup; an image for each processor; the schedule's actors
pub record Plan : Type 0 where
  pub setup : SetupData
  pub images : List ImageContents
  pub actors : List ℕ

abbrev pub plan : SetupData → List ImageContents → List ℕ → Plan
plan setup images actors = record { setup = setup; images = images; actors = actors }

-- the plan of the inputs that were read
abbrev pub plan_of : Inputs → Plan
plan_of inputs = plan (data_of inputs.setup) inputs.images.items inputs.actors.items

-- the platform has 1 to 64 processors and a visit, and its policy, waves and handlers are in their ranges; there is an image of
-- its kind for each processor, with which the processor can begin; and it has each actor
pub record IsPlayable (p : Plan) : Type 0 where
  pub some : 1 ≤ p.setup.processors
  pub few : p.setup.processors ≤ 64
  pub visits : 0 < p.setup.visits
  pub policy : IsTrue (policy_fits p.setup.processors p.setup.policy)
  pub waves : IsTrue (waves_fit p.setup.processors p.setup.visits p.setup.waves)
  pub handlers : IsTrue (handlers_fit p.setup.handlers)
  pub images : AreImagesOf p.setup p.images
  pub relocatable : start_refusal p.setup p.images ≡ None
  pub known : All (λ actor. actor ≤ p.setup.processors) p.actors
