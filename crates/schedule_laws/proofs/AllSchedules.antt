-- Every schedule of every platform is a run of the rendezvous machine.
use Rattle.std.proofs.Common.{ℕ, ◌≡◌, ◌<◌, ◌≤◌, List, length, true}
use Rattle.std.specs.Prelude.{nat_le}
use Rattle.std.specs.List.{list_all}
use Rattle.std.proofs.lemmas.Bool.{and_parts, leb-true}
use Rattle.std.proofs.lemmas.List.Elements.{All-get_or}
use Rattle.save_state_map.specs.Images.{ImageContents}
use Rattle.cpu_regs.specs.Registers.{Registers}
use Rattle.cpu_table.specs.Data.{SetupData, data_of}
use Rattle.cpu_table.specs.declared.setup.Setup.{Setup}
use Rattle.cpu_table.specs.Ranges.{is_between, policy_fits, wave_fits, waves_fit, handlers_fit}
use Rattle.rendezvous_core.specs.Starts.{AreImagesOf}
use Rattle.rendezvous_machine.specs.Machines.{no_image}
use Rattle.schedule_laws.proofs.Invariant.{IsPlatform}
use Rattle.schedule_laws.proofs.Schedules.{IsReplayed, replayed}
use Rattle.schedule_laws.proofs.Turns.{all_turns}

-- what is asked of a platform follows from the ranges of its parts
pub platform_of : (d : SetupData) → 1 ≤ d.processors → d.processors ≤ 64 → 1 ≤ d.visits → policy_fits d.processors d.policy ≡ true → waves_fit d.processors d.visits d.waves ≡ true
    → handlers_fit d.handlers ≡ true → IsPlatform d
platform_of d some few visits policy waves handlers =
    let count = and_parts (is_between 1 d.visits (length d.waves)) (list_all (wave_fits d.processors) d.waves) waves in
    record {
      some = some;
      few = few;
      visits = visits;
      waves = leb-true 1 (length d.waves) (and_parts (nat_le 1 (length d.waves)) (nat_le (length d.waves) d.visits) count.0).0;
      policy = policy;
      handlers = handlers;
    }

-- a platform with registers and an image for each processor
pub every : (d : SetupData) (registers : List Registers) (images : List ImageContents) (schedule : List ℕ) → IsPlatform d → length registers ≡ d.processors → AreImagesOf d images
    → IsReplayed d registers images schedule
every d registers images schedule platform count serve =
    replayed d registers images schedule (all_turns d)
    (record { platform = platform; count = count; many = serve.count; kinds = λ i l. All-get_or (λ image. image.kind ≡ d.kind) images i no_image l serve.kind })

-- a setup keeps these ranges
pub setup_replayed : (setup : Setup) (registers : List Registers) (images : List ImageContents) (schedule : List ℕ) → length registers ≡ setup.processors → AreImagesOf (data_of setup) images
    → IsReplayed (data_of setup) registers images schedule
setup_replayed setup registers images schedule count serve =
    every (data_of setup) registers images schedule
    (platform_of (data_of setup) setup.processors_in_range.0 setup.processors_in_range.1 setup.visits_in_range.0 setup.policy_in_range setup.waves_in_range setup.handlers_in_range)
    count serve
