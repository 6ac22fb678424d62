-- What `play` promises at each exit status.
use Rattle.std.specs.Prelude.{ℕ, ◌≡◌, ◌≢◌, ◌==◌, ◌⊎◌, Bool, ◌||◌, List, Option, None, Some, Ok, Err, IsOk, IfSome, true}
use Rattle.smm_base.specs.Sink.{appended, GainsPrefix}
use Rattle.smm_base.specs.Store.{FileMap}
use Rattle.rendezvous_core.specs.Starts.{first_registers}
use Rattle.rendezvous_machine.specs.Machines.{beginning}
use Rattle.trace_judge.specs.Traces.{IsTrace}
use Rattle.smm_command.specs.declared.command.Step.{Step}
use Rattle.smm_command.specs.declared.command.Check.{Check}
use Rattle.smm_command.specs.declared.command.Command.{Command}
use Rattle.smm_command.specs.declared.command.Command.TheVariants as command
use Rattle.smm_player.specs.declared.refusal.Refusal.{Refusal}
use Rattle.smm_player.specs.Due.{Finding, plan_due, trace_plan_due, IsDue, RefusalCause}
use Rattle.smm_player.specs.Ending.{GainsBoth, Tells}
use Rattle.smm_player.specs.Outcome.{Outcome, saving_of, run_line, due, saved_name, ChangesOnlyNamed, IsSaved}
use Rattle.replay_report.specs.Plan.{Plan, IsPlayable}
use Rattle.smm_player.specs.Traces.{TracePlan}
use Rattle.generated_rounds.specs.Rounds.{platform_text, sum_plan, last_line_of}
use Rattle.smm_command.specs.declared.recipe.Recipe.{Recipe}
use Rattle.smm_player.specs.Refusal.{refusal_status, refusal_line, usage_line, memory_line}
use Rattle.finished_replay.specs.Finished.{finished, ReachesEnd}
use Rattle.replay_report.specs.Replays.{replayed, report_of, AreImagesAfter, FollowsLabels}

-- done, usage, a file that is no platform, an image file that doesn't serve, a file that is no schedule, a trace that is none of a run, a file that isn't read,
-- a failed write or save, want of memory
abbrev pub is_exit_status : ℕ → Bool
is_exit_status n = (n == 0) || (n == 1) || (n == 2) || (n == 3) || (n == 4) || (n == 5) || (n == 6) || (n == 7) || (n == 8)

-- status 0: the outcome that is due was written and saved
pub record IsDone (asked : Command) (files files' : Option FileMap) (before after : Option (List ℕ)) : Type 0 where
  pub outcome : Outcome
  pub is_due : IsDue (due asked) files outcome
  pub written : after ≡ appended before outcome.bytes
  pub saved : IsSaved outcome.saving files'

-- A step was done: the plan that is due, the report of its replay, and under AFTER the image that each processor last resumed
-- from, in the platform's kind. The report's labels are a run of the rendezvous machine, and the images follow from them.
pub record IsStepped (names : Step) (files files' : Option FileMap) (before after : Option (List ℕ)) : Type 0 where
  pub plan : Plan
  pub playable : IsPlayable plan
  pub is_due : IsDue (plan_due names) files plan
  pub written : after ≡ appended before (report_of plan)
  pub images : AreImagesAfter plan (replayed plan).images
  pub saved : IsSaved (Some (saving_of names plan)) files'
  pub follows : FollowsLabels plan

-- A finish was done: as a step, of the plan that is due with rounds of all actors behind its schedule. At the end every actor is off, the
-- first events are those of the schedule that is due, and it is the replay of the actors of its own events.
pub record IsFinished (names : Step) (files files' : Option FileMap) (before after : Option (List ℕ)) : Type 0 where
  pub plan : Plan
  pub playable : IsPlayable plan
  pub is_due : IsDue (plan_due names) files plan
  pub ends : ReachesEnd plan
  pub written : after ≡ appended before (report_of (finished plan))
  pub images : AreImagesAfter (finished plan) (replayed (finished plan)).images
  pub saved : IsSaved (Some (saving_of names (finished plan))) files'
  pub follows : FollowsLabels (finished plan)

-- A check was done: the trace that is due has lines of events whose labels are a run of the rendezvous machine of the platform
-- that is due, from the images that are due, and a last line with their numbers; and `run` was written.
pub record IsChecked (names : Check) (files : Option FileMap) (before after : Option (List ℕ)) : Type 0 where
  pub plan : TracePlan
  pub is_due : IsDue (trace_plan_due names) files plan
  pub written : after ≡ appended before run_line
  pub is_trace : IsTrace plan.setup (beginning plan.setup (first_registers plan.setup plan.images) plan.images) plan.bytes

-- A sum was done: the last line of the replay's report alone, whose labels are a run of the rendezvous machine.
pub record IsSummed (recipe : Recipe) (before after : Option (List ℕ)) : Type 0 where
  pub playable : IsPlayable (sum_plan recipe)
  pub written : after ≡ appended before (last_line_of (sum_plan recipe))
  pub follows : FollowsLabels (sum_plan recipe)

-- what each command has done; a make has written the text of the generated platform
abbrev pub IsPlayed : Command → Option FileMap → Option FileMap → Option (List ℕ) → Option (List ℕ) → Type 0
IsPlayed (command.Step names) files files' before after = IsStepped names files files' before after
IsPlayed (command.Finish names) files files' before after = IsFinished names files files' before after
IsPlayed (command.Check names) files files' before after = IsChecked names files before after
IsPlayed (command.Make recipe) files files' before after = after ≡ appended before (platform_text recipe)
IsPlayed (command.Sum recipe) files files' before after = IsSummed recipe before after

-- a front part of the outcome that is due, where the files are told
abbrev pub WritesPart : Command → Option FileMap → Option (List ℕ) → Option (List ℕ) → Type 0
WritesPart asked files before after = (outcome : Outcome) × IsDue (due asked) files outcome × GainsPrefix before after outcome.bytes

-- all that is due to be written, where the files are told
abbrev pub WritesAll : Command → Option FileMap → Option (List ℕ) → Option (List ℕ) → Type 0
WritesAll asked files before after = (outcome : Outcome) × IsDue (due asked) files outcome × (after ≡ appended before outcome.bytes)

-- a status of a refusal has its cause, and its line was told
pub record IsFaulted (asked : Command) (files : Option FileMap) (load_failed write_failed : Type 0) (before after : Option (List ℕ)) (status : ℕ) : Type 0 where
  pub refusal : Refusal
  pub status_is : refusal_status refusal ≡ status
  pub cause : RefusalCause (due asked) files load_failed refusal
  pub line : Tells write_failed before after (refusal_line refusal)

-- Status 7: the write failed, a front part of the output was written, and all files stay; or the save failed, and the
-- whole output was written.
abbrev pub FailsOutside : Command → Option FileMap → Type 0 → Type 0 → Type 0 → Option (List ℕ) → Option (List ℕ) → Type 0
FailsOutside asked files write_failed save_failed files_stay before after =
    (write_failed × files_stay × WritesPart asked files before after) ⊎ (save_failed × WritesAll asked files before after)

-- what may be written in part before the line for want of memory: the output that is due, or the line of the refusal that
-- has its cause
abbrev pub CanPrecede : Command → Option FileMap → Type 0 → List ℕ → Type 0
CanPrecede asked files load_failed piece =
    ((outcome : Outcome) × IsDue (due asked) files outcome × (piece ≡ outcome.bytes)) ⊎ ((refusal : Refusal) × RefusalCause (due asked) files load_failed refusal × (piece ≡ refusal_line refusal))

-- Status 8: a front part of the line for want of memory, and before it nothing, or a front part of what can precede it.
abbrev pub RunsOut : Command → Option FileMap → Type 0 → Option (List ℕ) → Option (List ℕ) → Type 0
RunsOut asked files load_failed before after =
    GainsPrefix before after memory_line ⊎ ((piece : List ℕ) × CanPrecede asked files load_failed piece × GainsBoth before after piece memory_line)

-- the status that is due, or want of memory: an outcome ends with 0 or a fault of the outside, a refused file with its status
abbrev pub IsDueStatus : Finding Outcome → ℕ → Type 0
IsDueStatus (Ok outcome) status = (status ≡ 0) ⊎ (status ≡ 7) ⊎ (status ≡ 8)
IsDueStatus (Err refusal) status = (status ≡ refusal_status refusal) ⊎ (status ≡ 8)

-- no name but the one under which the command saves changes, and none without one
abbrev pub ChangesOnlySaved : Option Command → Option FileMap → Option FileMap → Type 0
ChangesOnlySaved None files files' = files' ≡ files
ChangesOnlySaved (Some asked) files files' = ChangesOnlyNamed (saved_name asked) files files'

-- status 8 without a command: a front part of the line for want of memory, and before it one of the usage line
abbrev pub UsageRunsOut : Option (List ℕ) → Option (List ℕ) → Type 0
UsageRunsOut before after = GainsPrefix before after memory_line ⊎ GainsBoth before after usage_line memory_line

-- what a command promises of its status, taken together
pub record Obeys (asked : Command) (files files' : Option FileMap) (load_failed write_failed save_failed : Type 0) (before after : Option (List ℕ)) (status : ℕ) : Type 0 where
  pub exits : is_exit_status status ≡ true
  pub not_usage : status ≢ 1
  pub done : status ≡ 0 → IsDone asked files files' before after
  pub played : status ≡ 0 → IsPlayed asked files files' before after
  pub faulted : (status ≡ 2) ⊎ (status ≡ 3) ⊎ (status ≡ 4) ⊎ (status ≡ 5) ⊎ (status ≡ 6) → IsFaulted asked files load_failed write_failed before after status
  pub is_due : (load_failed → ⊥) → IfSome files (λ held. IsDueStatus (due asked held) status)
  pub complete : (load_failed → ⊥) → (write_failed → ⊥) → (save_failed → ⊥) → IfSome files (λ held. IsOk (due asked held) → (status ≡ 0) ⊎ (status ≡ 8))
  pub outside : status ≡ 7 → FailsOutside asked files write_failed save_failed (files' ≡ files) before after
  pub runs_out : status ≡ 8 → RunsOut asked files load_failed before after
  pub unsaved : status ≢ 0 → status ≢ 7 → files' ≡ files
  pub others_stay : ChangesOnlyNamed (saved_name asked) files files'
