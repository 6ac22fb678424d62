-- What a command leaves: the bytes that it writes, and what it saves.
use Rattle.std.specs.Prelude.{ℕ, ◌≡◌, List, [], ◌∷◌, ◌++◌, codes, Option, None, Some, IfSome, Ok}
use Rattle.smm_base.specs.Store.{FileMap, ChangesOnly}
use Rattle.save_state_map.specs.Images.{ImageContents}
use Rattle.image_file.specs.Spelling.{spelling}
use Rattle.smm_base.specs.declared.kinds.MapKind.{MapKind}
use Rattle.platform_document.specs.Reading.{read_then}
use Rattle.smm_command.specs.declared.command.Step.{Step}
use Rattle.smm_command.specs.declared.command.Command.{Command}
use Rattle.smm_command.specs.declared.command.Command.TheVariants as command
use Rattle.smm_player.specs.Due.{Finding, plan_due, trace_plan_due, trace_judged}
use Rattle.replay_report.specs.Plan.{Plan}
use Rattle.generated_rounds.specs.Rounds.{platform_text, sum_plan, last_line_of}
use Rattle.replay_report.specs.Replays.{replayed, report_of}
use Rattle.finished_replay.specs.Finished.{finished}

-- a content under a name
pub record Saving : Type 0 where
  pub name : List ℕ
  pub content : List ℕ

-- what a command writes, and what it saves, if anything
pub record Outcome : Type 0 where
  pub bytes : List ℕ
  pub saving : Option Saving

-- images are saved as the image file of them
abbrev pub images_saving : List ℕ → MapKind → List ImageContents → Saving
images_saving name kind images = record { name = name; content = spelling kind images }

-- what a step saves: the images that the processors last resumed from, in the platform's kind
abbrev pub saving_of : Step → Plan → Saving
saving_of names p = images_saving names.after p.setup.kind (replayed p).images

-- a step writes the report of the replay, and saves the images after
abbrev pub step_outcome : Step → Plan → Outcome
step_outcome names p = record { bytes = report_of p; saving = Some (saving_of names p) }

-- a command that only writes
abbrev pub written_outcome : List ℕ → Outcome
written_outcome bytes = record { bytes = bytes; saving = None }

-- what a check writes of the trace of a run
abbrev pub run_line : List ℕ
run_line = codes "run" ++ 10 ∷ []

-- what is due for a command and the held files: its outcome, or the first refusal in the order of work
abbrev pub due : Command → FileMap → Finding Outcome
due (command.Step names) held = read_then (plan_due names held) (λ p. Ok (step_outcome names p))
due (command.Finish names) held = read_then (plan_due names held) (λ p. Ok (step_outcome names (finished p)))
due (command.Check names) held = read_then (trace_plan_due names held) (λ p. read_then (trace_judged p) (λ _. Ok (written_outcome run_line)))
due (command.Make recipe) held = Ok (written_outcome (platform_text recipe))
due (command.Sum recipe) held = Ok (written_outcome (last_line_of (sum_plan recipe)))

-- the name under which a command saves, if it saves anything
abbrev pub saved_name : Command → Option (List ℕ)
saved_name (command.Step names) = Some names.after
saved_name (command.Finish names) = Some names.after
saved_name (command.Check names) = None
saved_name (command.Make recipe) = None
saved_name (command.Sum recipe) = None

-- no name but this one changes, and none where there is no name
abbrev pub ChangesOnlyNamed : Option (List ℕ) → Option FileMap → Option FileMap → Type 0
ChangesOnlyNamed None files files' = files' ≡ files
ChangesOnlyNamed (Some name) files files' = ChangesOnly name files files'

-- the saved name holds its content, where the store tells its files
abbrev pub IsSaved : Option Saving → Option FileMap → Type 0
IsSaved saving files = IfSome files (λ held. IfSome saving (λ s. held s.name ≡ Some s.content))
