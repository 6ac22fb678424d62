-- How a command comes to its end, or stops at a fault.
use Rattle.std.specs.Prelude.{ℕ, ◌≡◌, ◌⊎◌, List, Option, Some, Ok}
use Rattle.smm_base.specs.Sink.{appended}
use Rattle.smm_base.specs.Store.{FileMap}
use Rattle.smm_command.specs.declared.command.Step.{Step}
use Rattle.smm_command.specs.declared.command.Check.{Check}
use Rattle.smm_command.specs.declared.command.Command.{Command}
use Rattle.smm_command.specs.declared.command.Command.TheVariants as command
use Rattle.smm_player.specs.declared.fault.Fault.{Fault}
use Rattle.smm_player.specs.declared.fault.Fault.TheVariants.{Refused, Write, Save, Memory}
use Rattle.smm_player.specs.Due.{plan_due, trace_plan_due, trace_judged, IsDue, RefusalCause}
use Rattle.smm_player.specs.Outcome.{saving_of, run_line, due, IsSaved}
use Rattle.replay_report.specs.Plan.{Plan, IsPlayable}
use Rattle.smm_player.specs.Traces.{TracePlan, IsJudgeable}
use Rattle.smm_player.specs.Play.{WritesPart, WritesAll}
use Rattle.generated_rounds.specs.Rounds.{platform_text, sum_plan, last_line_of}
use Rattle.smm_command.specs.declared.recipe.Recipe.{Recipe}
use Rattle.finished_replay.specs.Finished.{finished, ReachesEnd}
use Rattle.replay_report.specs.Replays.{replayed, report_of, AreImagesAfter}

-- what a step has done: the plan that is due, the report of its replay, and the saved images
pub record Steps (names : Step) (files files' : Option FileMap) (before after : Option (List ℕ)) : Type 0 where
  pub plan : Plan
  pub playable : IsPlayable plan
  pub is_due : IsDue (plan_due names) files plan
  pub written : after ≡ appended before (report_of plan)
  pub images : AreImagesAfter plan (replayed plan).images
  pub saved : IsSaved (Some (saving_of names plan)) files'

-- what a finish has done: the report of the replay that is carried on until every actor is off, and the saved images
pub record Ends (names : Step) (files files' : Option FileMap) (before after : Option (List ℕ)) : Type 0 where
  pub plan : Plan
  pub playable : IsPlayable plan
  pub is_due : IsDue (plan_due names) files plan
  pub ends : ReachesEnd plan
  pub written : after ≡ appended before (report_of (finished plan))
  pub images : AreImagesAfter (finished plan) (replayed (finished plan)).images
  pub saved : IsSaved (Some (saving_of names (finished plan))) files'

-- what a check has done: the trace that is due was judged as one of a run
pub record Checks (names : Check) (files : Option FileMap) (before after : Option (List ℕ)) : Type 0 where
  pub plan : TracePlan
  pub judgeable : IsJudgeable plan
  pub is_due : IsDue (trace_plan_due names) files plan
  pub judged : trace_judged plan ≡ Ok tt
  pub written : after ≡ appended before run_line

-- what a sum has done: the last line of the replay
pub record Sums (recipe : Recipe) (before after : Option (List ℕ)) : Type 0 where
  pub playable : IsPlayable (sum_plan recipe)
  pub written : after ≡ appended before (last_line_of (sum_plan recipe))

abbrev pub Performs : Command → Option FileMap → Option FileMap → Option (List ℕ) → Option (List ℕ) → Type 0
Performs (command.Step names) files files' before after = Steps names files files' before after
Performs (command.Finish names) files files' before after = Ends names files files' before after
Performs (command.Check names) files files' before after = Checks names files before after
Performs (command.Make recipe) files files' before after = after ≡ appended before (platform_text recipe)
Performs (command.Sum recipe) files files' before after = Sums recipe before after

-- the cause of each fault of a command
abbrev pub StopsAt : Command → Option FileMap → Type 0 → Type 0 → Type 0 → Fault → Type 0
StopsAt asked files load_failed write_failed save_failed (Refused refusal) = RefusalCause (due asked) files load_failed refusal
StopsAt asked files load_failed write_failed save_failed Write = write_failed
StopsAt asked files load_failed write_failed save_failed Save = save_failed
StopsAt asked files load_failed write_failed save_failed Memory = Unit {0}

-- what was written when a fault came, before its line
abbrev pub WroteBefore : Command → Option FileMap → Option (List ℕ) → Option (List ℕ) → Fault → Type 0
WroteBefore asked files before after (Refused refusal) = after ≡ before
WroteBefore asked files before after Write = WritesPart asked files before after
WroteBefore asked files before after Save = WritesAll asked files before after
WroteBefore asked files before after Memory = (after ≡ before) ⊎ WritesPart asked files before after
