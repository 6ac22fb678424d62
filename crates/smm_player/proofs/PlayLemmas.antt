-- What a command's end comes to: status by status, fault by fault.
use Rattle.std.proofs.Common.{◌≡◌, ◌≢◌, ◌↔◌, ℕ, ◌^◌, ◌<◌, ◌≤◌, length, ◌⊎◌, true, List, Option, None, Some, Result, Ok, Err, IfSome, IfErr, OnOk, IsOk, refl, ap, sym, subst, ◌∙◌, arith, inl, inr}
use Rattle.std.specs.Prelude.{IsSomeAnd, MatchOption}
use Rattle.smm_base.specs.Sink.{appended, GainsPrefix}
use Rattle.smm_base.specs.Store.{FileMap, ChangesOnly}
use Rattle.platform_document.specs.Reading.{read_then}
use Rattle.save_state_map.specs.Images.{ImageContents}
use Rattle.cpu_regs.specs.Registers.{Registers}
use Rattle.cpu_table.specs.Data.{SetupData}
use Rattle.rendezvous_core.specs.Starts.{first_registers}
use Rattle.rendezvous_machine.specs.Machines.{beginning}
use Rattle.trace_check.specs.Judged.{first_judged}
use Rattle.trace_judge.specs.Traces.{IsTrace}
use Rattle.trace_judge.specs.Verdicts.{verdict}
use Rattle.smm_command.specs.declared.command.Step.{Step}
use Rattle.smm_command.specs.declared.command.Check.{Check}
use Rattle.smm_command.specs.declared.command.Command.{Command}
use Rattle.smm_command.specs.declared.command.Command.TheVariants as command
use Rattle.smm_player.specs.declared.fault.Fault.{Fault}
use Rattle.smm_player.specs.declared.fault.Fault.TheVariants.{Refused, Write, Save, Memory}
use Rattle.smm_player.specs.declared.refusal.Refusal.{Refusal}
use Rattle.smm_player.specs.declared.refusal.Refusal.TheVariants.{Read, TooLong, Platform, Images, Schedule, Trace}
use Rattle.smm_player.specs.Due.{Finding, plan_due, IsDue, RefusalCause}
use Rattle.smm_player.specs.Ending.{GainsBoth, Tells, TellsOrRunsOut, Finishes, EndsReplay, EndsWriting, UnlessSaved}
use Rattle.smm_player.specs.Loading.{LoadCause}
use Rattle.smm_player.specs.Outcome.{Outcome, saving_of, step_outcome, written_outcome, due, saved_name, ChangesOnlyNamed, IsSaved, run_line}
use Rattle.smm_player.specs.Performing.{Steps, Ends, Sums, Performs, StopsAt, WroteBefore, Checks}
use Rattle.replay_report.specs.Plan.{Plan, IsPlayable}
use Rattle.generated_rounds.specs.Rounds.{platform_text, sum_plan, last_line_of}
use Rattle.smm_command.specs.declared.recipe.Recipe.{Recipe}
use Rattle.smm_player.specs.Play.{is_exit_status, IsDone, IsStepped, IsFinished, IsSummed, IsPlayed, WritesPart, WritesAll, IsFaulted, FailsOutside, RunsOut, UsageRunsOut, IsDueStatus, ChangesOnlySaved, Obeys, IsChecked}
use Rattle.smm_player.specs.Refusal.{refusal_status, refusal_line, usage_line, memory_line}
use Rattle.finished_replay.specs.Finished.{finished, ReachesEnd}
use Rattle.replay_report.specs.Replays.{replayed, report_of, AreImagesAfter}
use Rattle.smm_player.proofs.CheckLemmas.{check_due, judged_verdict}
use Rattle.smm_player.proofs.LoadLemmas.{cause_first}
use Rattle.replay_report.proofs.ReplayLemmas.{follows_labels}

-- the status of a refusal

record IsRefusalStatus (n : ℕ) : Type 0 where
  pub exits : is_exit_status n ≡ true
  pub above : 1 < n
  pub not_7 : n ≢ 7
  pub not_8 : n ≢ 8

refusal_status_is : (refusal : Refusal) → IsRefusalStatus (refusal_status refusal)
refusal_status_is (Read name) = record { exits = refl; above = omega arith; not_7 = λ e. omega (arith, e); not_8 = λ e. omega (arith, e) }
refusal_status_is (TooLong name limit) = record { exits = refl; above = omega arith; not_7 = λ e. omega (arith, e); not_8 = λ e. omega (arith, e) }
refusal_status_is (Platform error) = record { exits = refl; above = omega arith; not_7 = λ e. omega (arith, e); not_8 = λ e. omega (arith, e) }
refusal_status_is (Images fault) = record { exits = refl; above = omega arith; not_7 = λ e. omega (arith, e); not_8 = λ e. omega (arith, e) }
refusal_status_is (Schedule error) = record { exits = refl; above = omega arith; not_7 = λ e. omega (arith, e); not_8 = λ e. omega (arith, e) }
refusal_status_is (Trace error) = record { exits = refl; above = omega arith; not_7 = λ e. omega (arith, e); not_8 = λ e. omega (arith, e) }

-- a status that is none of those of the refusals
unfaulted : (n : ℕ) {P : Type 0} → (n ≢ 2) → (n ≢ 3) → (n ≢ 4) → (n ≢ 5) → (n ≢ 6) → (n ≡ 2) ⊎ (n ≡ 3) ⊎ (n ≡ 4) ⊎ (n ≡ 5) ⊎ (n ≡ 6) → P
unfaulted n a b c d e is =
    elim is [
      | inl x ↦ absurd (a x)
      | inr is ↦ elim is [
        | inl x ↦ absurd (b x)
        | inr is ↦ elim is [ inl x ↦ absurd (c x) | inr is ↦ elim is [ inl x ↦ absurd (d x) | inr x ↦ absurd (e x) ] ]
      ]
    ]

-- the status that is due

at_outcome : (finding : Finding Outcome) (outcome : Outcome) (n : ℕ) → finding ≡ Ok outcome → (n ≡ 0) ⊎ (n ≡ 7) ⊎ (n ≡ 8) → IsDueStatus finding n
at_outcome finding outcome n is ends = let P : Finding Outcome → Type 0 = λ x. IsDueStatus x n in subst P (sym is) ends

outcome_due : (judge : FileMap → Finding Outcome) (files : Option FileMap) (outcome : Outcome) (n : ℕ) → IsDue judge files outcome → (n ≡ 0) ⊎ (n ≡ 7) ⊎ (n ≡ 8) → IfSome files (λ held. IsDueStatus (judge held) n)
outcome_due judge None outcome n is ends = tt
outcome_due judge (Some held) outcome n is ends = at_outcome (judge held) outcome n is ends

at_refusal : (finding : Finding Outcome) (refusal : Refusal) → finding ≡ Err refusal → IsDueStatus finding (refusal_status refusal)
at_refusal finding refusal is = let P : Finding Outcome → Type 0 = λ x. IsDueStatus x (refusal_status refusal) in subst P (sym is) (inl refl)

-- where no load failed, a refusal is what is due
refusal_is_due : (judge : FileMap → Finding Outcome) (held : FileMap) (l : Type 0) (refusal : Refusal) → (l → ⊥) → RefusalCause judge (Some held) l refusal → judge held ≡ Err refusal
refusal_is_due judge held l (Read name) unfailed cause = elim cause [ inl is ↦ is | inr x ↦ absurd (unfailed x.0) ]
refusal_is_due judge held l (TooLong name limit) unfailed cause = cause
refusal_is_due judge held l (Platform error) unfailed cause = cause
refusal_is_due judge held l (Images fault) unfailed cause = cause
refusal_is_due judge held l (Schedule error) unfailed cause = cause
refusal_is_due judge held l (Trace error) unfailed cause = cause

refusal_due : (judge : FileMap → Finding Outcome) (files : Option FileMap) (l : Type 0) (refusal : Refusal) → RefusalCause judge files l refusal → (l → ⊥) → IfSome files (λ held. IsDueStatus (judge held) (refusal_status refusal))
refusal_due judge None l refusal cause unfailed = tt
refusal_due judge (Some held) l refusal cause unfailed = at_refusal (judge held) refusal (refusal_is_due judge held l refusal unfailed cause)

memory_status : (finding : Finding Outcome) → IsDueStatus finding 8
memory_status (Ok outcome) = inr (inr refl)
memory_status (Err refusal) = inr refl

memory_due : (judge : FileMap → Finding Outcome) (files : Option FileMap) → IfSome files (λ held. IsDueStatus (judge held) 8)
memory_due judge None = tt
memory_due judge (Some held) = memory_status (judge held)

-- where nothing failed and an outcome is due

complete_with : (judge : FileMap → Finding Outcome) (files : Option FileMap) (n : ℕ) → (n ≡ 0) ⊎ (n ≡ 8) → IfSome files (λ held. IsOk (judge held) → (n ≡ 0) ⊎ (n ≡ 8))
complete_with judge None n ends = tt
complete_with judge (Some held) n ends = λ ok. ends

ok_apart : (finding : Finding Outcome) (refusal : Refusal) → IsOk finding → finding ≡ Err refusal → ⊥
ok_apart (Ok outcome) refusal ok is = cc
ok_apart (Err other) refusal ok is = cc

refused_complete : (judge : FileMap → Finding Outcome) (files : Option FileMap) (l : Type 0) (refusal : Refusal) (n : ℕ) → RefusalCause judge files l refusal → (l → ⊥) → IfSome files (λ held. IsOk (judge held) → (n ≡ 0) ⊎ (n ≡ 8))
refused_complete judge None l refusal n cause unfailed = tt
refused_complete judge (Some held) l refusal n cause unfailed = λ ok. absurd (ok_apart (judge held) refusal ok (refusal_is_due judge held l refusal unfailed cause))

-- status by status

at_0 : (asked : Command) (files files' : Option FileMap) (l w s : Type 0) (before after : Option (List ℕ)) → IsDone asked files files' before after → IsPlayed asked files files' before after → ChangesOnlyNamed (saved_name asked) files files' → Obeys asked files files' l w s before after 0
at_0 asked files files' l w s before after done played others = record {
  exits = refl;
  not_usage = λ e. omega (arith, e);
  done = λ _. done;
  played = λ _. played;
  faulted = λ is. unfaulted 0 (λ e. omega (arith, e)) (λ e. omega (arith, e)) (λ e. omega (arith, e)) (λ e. omega (arith, e)) (λ e. omega (arith, e)) is;
  is_due = λ _. outcome_due (due asked) files done.outcome 0 done.is_due (inl refl);
  complete = λ _ _ _. complete_with (due asked) files 0 (inl refl);
  outside = λ e. absurd (omega (arith, e));
  runs_out = λ e. absurd (omega (arith, e));
  unsaved = λ apart _. absurd (apart refl);
  others_stay = others;
}

at_refused : (asked : Command) (files files' : Option FileMap) (l w s : Type 0) (before after : Option (List ℕ)) (refusal : Refusal) → RefusalCause (due asked) files l refusal → Tells w before after (refusal_line refusal) → files' ≡ files → ChangesOnlyNamed (saved_name asked) files files' →
    Obeys asked files files' l w s before after (refusal_status refusal)
at_refused asked files files' l w s before after refusal cause line stay others =
    let known = refusal_status_is refusal in
    record {
      exits = known.exits;
      not_usage = λ e. omega (arith, e, known.above);
      done = λ e. absurd (omega (arith, e, known.above));
      played = λ e. absurd (omega (arith, e, known.above));
      faulted = λ _. record { refusal = refusal; status_is = refl; cause = cause; line = line };
      is_due = λ unfailed. refusal_due (due asked) files l refusal cause unfailed;
      complete = λ loads _ _. refused_complete (due asked) files l refusal (refusal_status refusal) cause loads;
      outside = λ e. absurd (known.not_7 e);
      runs_out = λ e. absurd (known.not_8 e);
      unsaved = λ _ _. stay;
      others_stay = others;
    }

outside_due : (asked : Command) (files : Option FileMap) (w s stays : Type 0) (before after : Option (List ℕ)) → FailsOutside asked files w s stays before after → IfSome files (λ held. IsDueStatus (due asked held) 7)
outside_due asked files w s stays before after fails =
    elim fails [
      | inl x ↦ outcome_due (due asked) files x.2.0 7 x.2.1 (inr (inl refl))
      | inr x ↦ outcome_due (due asked) files x.1.0 7 x.1.1 (inr (inl refl))
    ]

at_7 : (asked : Command) (files files' : Option FileMap) (l w s : Type 0) (before after : Option (List ℕ)) → FailsOutside asked files w s (files' ≡ files) before after → ChangesOnlyNamed (saved_name asked) files files' → Obeys asked files files' l w s before after 7
at_7 asked files files' l w s before after fails others = record {
  exits = refl;
  not_usage = λ e. omega (arith, e);
  done = λ e. absurd (omega (arith, e));
  played = λ e. absurd (omega (arith, e));
  faulted = λ is. unfaulted 7 (λ e. omega (arith, e)) (λ e. omega (arith, e)) (λ e. omega (arith, e)) (λ e. omega (arith, e)) (λ e. omega (arith, e)) is;
  is_due = λ _. outside_due asked files w s (files' ≡ files) before after fails;
  complete = λ _ writes saves. absurd (elim fails [ inl x ↦ writes x.0 | inr x ↦ saves x.0 ]);
  outside = λ _. fails;
  runs_out = λ e. absurd (omega (arith, e));
  unsaved = λ _ apart. absurd (apart refl);
  others_stay = others;
}

at_8 : (asked : Command) (files files' : Option FileMap) (l w s : Type 0) (before after : Option (List ℕ)) → RunsOut asked files l before after → files' ≡ files → ChangesOnlyNamed (saved_name asked) files files' → Obeys asked files files' l w s before after 8
at_8 asked files files' l w s before after out stay others = record {
  exits = refl;
  not_usage = λ e. omega (arith, e);
  done = λ e. absurd (omega (arith, e));
  played = λ e. absurd (omega (arith, e));
  faulted = λ is. unfaulted 8 (λ e. omega (arith, e)) (λ e. omega (arith, e)) (λ e. omega (arith, e)) (λ e. omega (arith, e)) (λ e. omega (arith, e)) is;
  is_due = λ _. memory_due (due asked) files;
  complete = λ _ _ _. complete_with (due asked) files 8 (inr refl);
  outside = λ e. absurd (omega (arith, e));
  runs_out = λ _. out;
  unsaved = λ _ _. stay;
  others_stay = others;
}

-- fault by fault

-- a line that is told after nothing was written
tells_all : (f g : Type 0) → (f → g) → (before middle after : Option (List ℕ)) (line : List ℕ) → middle ≡ before → Tells f middle after line → Tells g before after line
tells_all f g wider before middle after line is tells =
    let P : Option (List ℕ) → Type 0 = λ x. GainsPrefix x after line in
    (subst P is tells.0, elim tells.1 [ inl e ↦ inl (e ∙ ap (λ x. appended x line) is) | inr h ↦ inr (wider h) ])

-- there was no memory: before its line nothing was written, or a front part of the output that is due
memory_runs_out : (asked : Command) (files : Option FileMap) (l : Type 0) (before middle after : Option (List ℕ)) → (middle ≡ before) ⊎ WritesPart asked files before middle → GainsPrefix middle after memory_line → RunsOut asked files l before after
memory_runs_out asked files l before middle after wrote line =
    let P : Option (List ℕ) → Type 0 = λ x. GainsPrefix x after memory_line in
    elim wrote [ inl is ↦ inl (subst P is line) | inr x ↦ inr (x.0.bytes, inl (x.0, x.1, refl), (middle, x.2, line)) ]

refused_runs_out : (asked : Command) (files : Option FileMap) (l : Type 0) (before middle after : Option (List ℕ)) (refusal : Refusal) → RefusalCause (due asked) files l refusal → middle ≡ before → GainsBoth middle after (refusal_line refusal) memory_line → RunsOut asked files l before after
refused_runs_out asked files l before middle after refusal cause is both =
    let P : Option (List ℕ) → Type 0 = λ x. GainsBoth x after (refusal_line refusal) memory_line in
    inr (refusal_line refusal, inr (refusal, cause, refl), subst P is both)

-- What was asked, at a fault.
fault_obeys : (asked : Command) (files files' : Option FileMap) (l v f w s : Type 0) → (v → w) → (f → w) → (before middle after : Option (List ℕ)) (n : ℕ) (fault : Fault) → StopsAt asked files l v s fault → WroteBefore asked files before middle fault →
    UnlessSaved (files' ≡ files) fault → ChangesOnlyNamed (saved_name asked) files files' → Finishes f middle after n fault → Obeys asked files files' l w s before after n
fault_obeys asked files files' l v f w s early late before middle after n (Refused refusal) stops wrote stay others ends =
    let P : ℕ → Type 0 = λ m. Obeys asked files files' l w s before after m in
    elim ends [
      | inl x ↦ subst P (sym x.0) (at_refused asked files files' l w s before after refusal stops (tells_all f w late before middle after (refusal_line refusal) wrote x.1) stay others)
      | inr x ↦ subst P (sym x.0) (at_8 asked files files' l w s before after (refused_runs_out asked files l before middle after refusal stops wrote x.1) stay others)
    ]
fault_obeys asked files files' l v f w s early late before middle after n Write stops wrote stay others ends =
    let P : ℕ → Type 0 = λ m. Obeys asked files files' l w s before after m in
    let Q : Option (List ℕ) → Type 0 = λ x. WritesPart asked files before x in
    subst P (sym ends.0) (at_7 asked files files' l w s before after (inl (early stops, stay, subst Q (sym ends.1) wrote)) others)
fault_obeys asked files files' l v f w s early late before middle after n Save stops wrote stay others ends =
    let P : ℕ → Type 0 = λ m. Obeys asked files files' l w s before after m in
    let Q : Option (List ℕ) → Type 0 = λ x. WritesAll asked files before x in
    subst P (sym ends.0) (at_7 asked files files' l w s before after (inr (stops, subst Q (sym ends.1) wrote)) others)
fault_obeys asked files files' l v f w s early late before middle after n Memory stops wrote stay others ends =
    let P : ℕ → Type 0 = λ m. Obeys asked files files' l w s before after m in
    subst P (sym ends.0) (at_8 asked files files' l w s before after (memory_runs_out asked files l before middle after wrote ends.1) stay others)

-- no memory before the command began
changes_nothing : (name : List ℕ) (files : Option FileMap) → ChangesOnly name files files
changes_nothing name None = refl
changes_nothing name (Some held) = λ other apart. refl

changes_none : (name : Option (List ℕ)) (files : Option FileMap) → ChangesOnlyNamed name files files
changes_none None files = refl
changes_none (Some name) files = changes_nothing name files

memory_obeys : (asked : Command) (files : Option FileMap) (l w s : Type 0) (before after : Option (List ℕ)) → GainsPrefix before after memory_line → Obeys asked files files l w s before after 8
memory_obeys asked files l w s before after line = at_8 asked files files l w s before after (inl line) refl (changes_none (saved_name asked) files)

-- a command that was done

outcome_of_plan : (names : Step) (files : Option FileMap) (plan : Plan) → IsDue (plan_due names) files plan → IsDue (due (command.Step names)) files (step_outcome names plan)
outcome_of_plan names None plan is = tt
outcome_of_plan names (Some held) plan is = ap (λ r. read_then r (λ p. Ok (step_outcome names p))) is

-- what a step has done is an outcome that is due
step_done : (names : Step) (files files' : Option FileMap) (before after : Option (List ℕ)) → Steps names files files' before after → IsDone (command.Step names) files files' before after
step_done names files files' before after steps = record {
  outcome = step_outcome names steps.plan;
  is_due = outcome_of_plan names files steps.plan steps.is_due;
  written = steps.written;
  saved = steps.saved;
}

-- and a play
step_played : (names : Step) (files files' : Option FileMap) (before after : Option (List ℕ)) → Steps names files files' before after → IsStepped names files files' before after
step_played names files files' before after steps = record {
  plan = steps.plan;
  playable = steps.playable;
  is_due = steps.is_due;
  written = steps.written;
  images = steps.images;
  saved = steps.saved;
  follows = follows_labels steps.plan steps.playable;
}

-- the same of a finish

outcome_of_finish : (names : Step) (files : Option FileMap) (plan : Plan) → IsDue (plan_due names) files plan → IsDue (due (command.Finish names)) files (step_outcome names (finished plan))
outcome_of_finish names None plan is = tt
outcome_of_finish names (Some held) plan is = ap (λ r. read_then r (λ p. Ok (step_outcome names (finished p)))) is

finish_done : (names : Step) (files files' : Option FileMap) (before after : Option (List ℕ)) → Ends names files files' before after → IsDone (command.Finish names) files files' before after
finish_done names files files' before after ends = record {
  outcome = step_outcome names (finished ends.plan);
  is_due = outcome_of_finish names files ends.plan ends.is_due;
  written = ends.written;
  saved = ends.saved;
}

finish_played : (names : Step) (files files' : Option FileMap) (before after : Option (List ℕ)) → Ends names files files' before after → IsFinished names files files' before after
finish_played names files files' before after ends = record {
  plan = ends.plan;
  playable = ends.playable;
  is_due = ends.is_due;
  ends = ends.ends;
  written = ends.written;
  images = ends.images;
  saved = ends.saved;
  follows = follows_labels (finished ends.plan) ends.ends.playable;
}

-- a command that only writes has an outcome that is due whatever the files are
only_writes : (asked : Command) (outcome : Outcome) → ((held : FileMap) → due asked held ≡ Ok outcome) → (files : Option FileMap) → IsDue (due asked) files outcome
only_writes asked outcome is None = tt
only_writes asked outcome is (Some held) = is held

make_due : (recipe : Recipe) (files : Option FileMap) → IsDue (due (command.Make recipe)) files (written_outcome (platform_text recipe))
make_due recipe files = only_writes (command.Make recipe) (written_outcome (platform_text recipe)) (λ held. refl) files

sum_due : (recipe : Recipe) (files : Option FileMap) → IsDue (due (command.Sum recipe)) files (written_outcome (last_line_of (sum_plan recipe)))
sum_due recipe files = only_writes (command.Sum recipe) (written_outcome (last_line_of (sum_plan recipe))) (λ held. refl) files

-- and saves nothing
saves_nothing : (files : Option FileMap) → IsSaved None files
saves_nothing None = tt
saves_nothing (Some held) = tt

make_done : (recipe : Recipe) (files files' : Option FileMap) (before after : Option (List ℕ)) → after ≡ appended before (platform_text recipe) → IsDone (command.Make recipe) files files' before after
make_done recipe files files' before after written =
    record { outcome = written_outcome (platform_text recipe); is_due = make_due recipe files; written = written; saved = saves_nothing files' }

sum_done : (recipe : Recipe) (files files' : Option FileMap) (before after : Option (List ℕ)) → Sums recipe before after → IsDone (command.Sum recipe) files files' before after
sum_done recipe files files' before after sums =
    record { outcome = written_outcome (last_line_of (sum_plan recipe)); is_due = sum_due recipe files; written = sums.written; saved = saves_nothing files' }

sum_played : (recipe : Recipe) (before after : Option (List ℕ)) → Sums recipe before after → IsSummed recipe before after
sum_played recipe before after sums = record { playable = sums.playable; written = sums.written; follows = follows_labels (sum_plan recipe) sums.playable }

-- a check that was done
check_done : (names : Check) (files files' : Option FileMap) (before after : Option (List ℕ)) → Checks names files before after → IsDone (command.Check names) files files' before after
check_done names files files' before after checks =
    record { outcome = written_outcome run_line; is_due = check_due names files checks.plan checks.is_due checks.judged; written = checks.written; saved = saves_nothing files' }

-- what it judged is a trace of a run, by the law of the judgement
abbrev pub AcceptsTraces : Type 0
AcceptsTraces = (d : SetupData) (registers : List Registers) (images : List ImageContents) (bytes : List ℕ) → d.processors < 2 ^ 16 → length bytes < 2 ^ 64 →
    (verdict d.processors (first_judged d registers images) bytes ≡ Ok tt) ↔ IsTrace d (beginning d registers images) bytes

check_played : AcceptsTraces → (names : Check) (files : Option FileMap) (before after : Option (List ℕ)) → Checks names files before after → IsChecked names files before after
check_played accepts names files before after checks =
    let p = checks.plan in
    record {
      plan = p;
      is_due = checks.is_due;
      written = checks.written;
      is_trace = (accepts p.setup (first_registers p.setup p.images) p.images p.bytes (omega (arith, checks.judgeable.few)) checks.judgeable.small).0 (judged_verdict p checks.judged);
    }

done_obeys : AcceptsTraces → (asked : Command) (files files' : Option FileMap) (l w s : Type 0) (before after : Option (List ℕ)) → Performs asked files files' before after → ChangesOnlyNamed (saved_name asked) files files' →
    Obeys asked files files' l w s before after 0
done_obeys accepts (command.Step names) files files' l w s before after steps others =
    at_0 (command.Step names) files files' l w s before after (step_done names files files' before after steps) (step_played names files files' before after steps) others
done_obeys accepts (command.Finish names) files files' l w s before after ends others =
    at_0 (command.Finish names) files files' l w s before after (finish_done names files files' before after ends) (finish_played names files files' before after ends) others
done_obeys accepts (command.Check names) files files' l w s before after checks others =
    at_0 (command.Check names) files files' l w s before after (check_done names files files' before after checks) (check_played accepts names files before after checks) others
done_obeys accepts (command.Make recipe) files files' l w s before after written others =
    at_0 (command.Make recipe) files files' l w s before after (make_done recipe files files' before after written) written others
done_obeys accepts (command.Sum recipe) files files' l w s before after sums others =
    at_0 (command.Sum recipe) files files' l w s before after (sum_done recipe files files' before after sums) (sum_played recipe before after sums) others

-- What was asked, once it was done or a fault came. The write of the fault's line is a later part of the call.
pub command_obeys : {T : Type 0} → AcceptsTraces → (r : Result T Fault) (asked : Command) (files files' : Option FileMap) (l v f w s : Type 0) → (v → w) → (f → w) → (before middle after : Option (List ℕ)) (n : ℕ) →
    OnOk r (Performs asked files files' before middle) → IfErr r (StopsAt asked files l v s) → IfErr r (WroteBefore asked files before middle) → IfErr r (UnlessSaved (files' ≡ files)) →
    ChangesOnlyNamed (saved_name asked) files files' → OnOk r ((n ≡ 0) × (after ≡ middle)) → IfErr r (Finishes f middle after n) → Obeys asked files files' l w s before after n
command_obeys accepts (Ok x) asked files files' l v f w s early late before middle after n done stops wrote stay others ends finishes =
    let P : Option (List ℕ) → Type 0 = λ x. Performs asked files files' before x in
    let Q : ℕ → Type 0 = λ m. Obeys asked files files' l w s before after m in
    subst Q (sym ends.0) (done_obeys accepts asked files files' l w s before after (subst P (sym ends.1) done) others)
command_obeys accepts (Err fault) asked files files' l v f w s early late before middle after n done stops wrote stay others ends finishes =
    fault_obeys asked files files' l v f w s early late before middle after n fault stops wrote stay others finishes

-- the faults of a step and of a finish

-- at a fault of the inputs nothing was written
pub inputs_wrote : (asked : Command) (names : Step) (l : Type 0) (files : Option FileMap) (before : Option (List ℕ)) (fault : Fault) → LoadCause (plan_due names) files l fault → WroteBefore asked files before before fault
inputs_wrote asked names l files before (Refused refusal) cause = refl
inputs_wrote asked names l files before Write cause = absurd cause
inputs_wrote asked names l files before Save cause = absurd cause
inputs_wrote asked names l files before Memory cause = inl refl

-- and its cause is one of the command
inputs_stop : (asked : Command) (names : Step) (files : Option FileMap) (l w s : Type 0) → ((refusal : Refusal) → RefusalCause (plan_due names) files l refusal → RefusalCause (due asked) files l refusal) → (fault : Fault) → LoadCause (plan_due names) files l fault →
    StopsAt asked files l w s fault
inputs_stop asked names files l w s judged (Refused refusal) cause = judged refusal cause
inputs_stop asked names files l w s judged Write cause = absurd cause
inputs_stop asked names files l w s judged Save cause = absurd cause
inputs_stop asked names files l w s judged Memory cause = tt

pub step_stops : (names : Step) (files : Option FileMap) (l w s : Type 0) (fault : Fault) → LoadCause (plan_due names) files l fault → StopsAt (command.Step names) files l w s fault
step_stops names files l w s fault cause =
    inputs_stop (command.Step names) names files l w s (λ refusal cause. cause_first (plan_due names) (λ p _. Ok (step_outcome names p)) files l refusal cause) fault cause

pub finish_stops : (names : Step) (files : Option FileMap) (l w s : Type 0) (fault : Fault) → LoadCause (plan_due names) files l fault → StopsAt (command.Finish names) files l w s fault
finish_stops names files l w s fault cause =
    inputs_stop (command.Finish names) names files l w s (λ refusal cause. cause_first (plan_due names) (λ p _. Ok (step_outcome names (finished p))) files l refusal cause) fault cause

pub inputs_unsaved : {A : Type 0} (judge : FileMap → Finding A) (l : Type 0) (files : Option FileMap) (stays : Type 0) (fault : Fault) → LoadCause judge files l fault → stays → UnlessSaved stays fault
inputs_unsaved judge l files stays (Refused refusal) cause stay = stay
inputs_unsaved judge l files stays Write cause stay = stay
inputs_unsaved judge l files stays Save cause stay = tt
inputs_unsaved judge l files stays Memory cause stay = stay

-- the cause of a fault of the replay
pub replay_stops : {T : Type 0} (r : Result T Fault) (asked : Command) (files : Option FileMap) (l w s v : Type 0) → (s → v) → (before after : Option (List ℕ)) (report : List ℕ) → IfErr r (EndsReplay w s before after report) → IfErr r (StopsAt asked files l w v)
replay_stops (Ok x) asked files l w s v wider before after report ends = tt
replay_stops (Err (Refused refusal)) asked files l w s v wider before after report ends = absurd ends
replay_stops (Err Write) asked files l w s v wider before after report ends = ends.0
replay_stops (Err Save) asked files l w s v wider before after report ends = wider ends.0
replay_stops (Err Memory) asked files l w s v wider before after report ends = tt

-- what was written when a fault of the replay came
replay_wrote : {T : Type 0} (r : Result T Fault) (asked : Command) (files : Option FileMap) (w s : Type 0) (before after : Option (List ℕ)) (outcome : Outcome) → IsDue (due asked) files outcome → IfErr r (EndsReplay w s before after outcome.bytes) →
    IfErr r (WroteBefore asked files before after)
replay_wrote (Ok x) asked files w s before after outcome is ends = tt
replay_wrote (Err (Refused refusal)) asked files w s before after outcome is ends = absurd ends
replay_wrote (Err Write) asked files w s before after outcome is ends = (outcome, is, ends.1)
replay_wrote (Err Save) asked files w s before after outcome is ends = (outcome, is, ends.1)
replay_wrote (Err Memory) asked files w s before after outcome is ends = inr (outcome, is, ends)

pub step_wrote : {T : Type 0} (r : Result T Fault) (names : Step) (files : Option FileMap) (w s : Type 0) (before after : Option (List ℕ)) (p : Plan) → IsDue (plan_due names) files p → IfErr r (EndsReplay w s before after (report_of p)) →
    IfErr r (WroteBefore (command.Step names) files before after)
step_wrote r names files w s before after p is ends = replay_wrote r (command.Step names) files w s before after (step_outcome names p) (outcome_of_plan names files p is) ends

pub finish_wrote : {T : Type 0} (r : Result T Fault) (names : Step) (files : Option FileMap) (w s : Type 0) (before after : Option (List ℕ)) (p : Plan) → IsDue (plan_due names) files p → IfErr r (EndsReplay w s before after (report_of (finished p))) →
    IfErr r (WroteBefore (command.Finish names) files before after)
finish_wrote r names files w s before after p is ends = replay_wrote r (command.Finish names) files w s before after (step_outcome names (finished p)) (outcome_of_finish names files p is) ends

-- what a replay that came to its end has done
pub step_performed : {T : Type 0} (r : Result T Fault) (names : Step) (files files' : Option FileMap) (before after : Option (List ℕ)) (p : Plan) → IsPlayable p → IsDue (plan_due names) files p → OnOk r (AreImagesAfter p (replayed p).images) →
    OnOk r (after ≡ appended before (report_of p)) → OnOk r (IsSaved (Some (saving_of names p)) files') → OnOk r (Performs (command.Step names) files files' before after)
step_performed (Ok x) names files files' before after p playable is images written saved = record { plan = p; playable = playable; is_due = is; written = written; images = images; saved = saved }
step_performed (Err fault) names files files' before after p playable is images written saved = tt

pub finish_performed : {T : Type 0} (r : Result T Fault) (names : Step) (files files' : Option FileMap) (before after : Option (List ℕ)) (p : Plan) → IsPlayable p → IsDue (plan_due names) files p → ReachesEnd p →
    OnOk r (AreImagesAfter (finished p) (replayed (finished p)).images) → OnOk r (after ≡ appended before (report_of (finished p))) → OnOk r (IsSaved (Some (saving_of names (finished p))) files') → OnOk r (Performs (command.Finish names) files files' before after)
finish_performed (Ok x) names files files' before after p playable is ends images written saved = record { plan = p; playable = playable; is_due = is; ends = ends; written = written; images = images; saved = saved }
finish_performed (Err fault) names files files' before after p playable is ends images written saved = tt

pub unsaved_from : {T : Type 0} (r : Result T Fault) (P Q : Type 0) → (P → Q) → IfErr r (UnlessSaved P) → IfErr r (UnlessSaved Q)
unsaved_from (Ok x) P Q step holds = tt
unsaved_from (Err (Refused refusal)) P Q step holds = step holds
unsaved_from (Err Write) P Q step holds = step holds
unsaved_from (Err Save) P Q step holds = tt
unsaved_from (Err Memory) P Q step holds = step holds

-- a command that only writes: the cause of its fault, what was written then, and that nothing was saved

writing_stops : {T : Type 0} (r : Result T Fault) (asked : Command) (files : Option FileMap) (l w s : Type 0) (before after : Option (List ℕ)) (bytes : List ℕ) → IfErr r (EndsWriting w before after bytes) → IfErr r (StopsAt asked files l w s)
writing_stops (Ok x) asked files l w s before after bytes ends = tt
writing_stops (Err (Refused refusal)) asked files l w s before after bytes ends = absurd ends
writing_stops (Err Write) asked files l w s before after bytes ends = ends.0
writing_stops (Err Save) asked files l w s before after bytes ends = absurd ends
writing_stops (Err Memory) asked files l w s before after bytes ends = tt

writing_wrote : {T : Type 0} (r : Result T Fault) (asked : Command) (files : Option FileMap) (w : Type 0) (before after : Option (List ℕ)) (outcome : Outcome) → IsDue (due asked) files outcome → IfErr r (EndsWriting w before after outcome.bytes) →
    IfErr r (WroteBefore asked files before after)
writing_wrote (Ok x) asked files w before after outcome is ends = tt
writing_wrote (Err (Refused refusal)) asked files w before after outcome is ends = absurd ends
writing_wrote (Err Write) asked files w before after outcome is ends = (outcome, is, ends.1)
writing_wrote (Err Save) asked files w before after outcome is ends = absurd ends
writing_wrote (Err Memory) asked files w before after outcome is ends = inr (outcome, is, ends)

make_wrote : {T : Type 0} (r : Result T Fault) (recipe : Recipe) (files : Option FileMap) (w : Type 0) (before after : Option (List ℕ)) → IfErr r (EndsWriting w before after (platform_text recipe)) → IfErr r (WroteBefore (command.Make recipe) files before after)
make_wrote r recipe files w before after ends = writing_wrote r (command.Make recipe) files w before after (written_outcome (platform_text recipe)) (make_due recipe files) ends

sum_wrote : {T : Type 0} (r : Result T Fault) (recipe : Recipe) (files : Option FileMap) (w : Type 0) (before after : Option (List ℕ)) → IfErr r (EndsWriting w before after (last_line_of (sum_plan recipe))) → IfErr r (WroteBefore (command.Sum recipe) files before after)
sum_wrote r recipe files w before after ends = writing_wrote r (command.Sum recipe) files w before after (written_outcome (last_line_of (sum_plan recipe))) (sum_due recipe files) ends

sum_performed : {T : Type 0} (r : Result T Fault) (recipe : Recipe) (before after : Option (List ℕ)) → OnOk r (IsPlayable (sum_plan recipe)) → OnOk r (after ≡ appended before (last_line_of (sum_plan recipe))) → OnOk r (Sums recipe before after)
sum_performed (Ok x) recipe before after playable written = record { playable = playable; written = written }
sum_performed (Err fault) recipe before after playable written = tt

-- what is said of the answer of a command that only writes
pub record Works {T : Type 0} (r : Result T Fault) (asked : Command) (files : Option FileMap) (l w s : Type 0) (before after : Option (List ℕ)) : Type 0 where
  pub done : OnOk r (Performs asked files files before after)
  pub cause : IfErr r (StopsAt asked files l w s)
  pub wrote : IfErr r (WroteBefore asked files before after)
  pub others_stay : ChangesOnlyNamed (saved_name asked) files files

pub make_works : {T : Type 0} (r : Result T Fault) (asked : Command) (recipe : Recipe) (files : Option FileMap) (l w s : Type 0) (before after : Option (List ℕ)) → asked ≡ command.Make recipe → OnOk r (after ≡ appended before (platform_text recipe)) →
    IfErr r (EndsWriting w before after (platform_text recipe)) → Works r asked files l w s before after
make_works r asked recipe files l w s before after is written ends =
    let P : Command → Type 0 = λ a. Works r a files l w s before after in
    subst P (sym is) (record {
      done = written;
      cause = writing_stops r (command.Make recipe) files l w s before after (platform_text recipe) ends;
      wrote = make_wrote r recipe files w before after ends;
      others_stay = refl;
    })

pub sum_works : {T : Type 0} (r : Result T Fault) (asked : Command) (recipe : Recipe) (files : Option FileMap) (l w s : Type 0) (before after : Option (List ℕ)) → asked ≡ command.Sum recipe → OnOk r (IsPlayable (sum_plan recipe)) →
    OnOk r (after ≡ appended before (last_line_of (sum_plan recipe))) → IfErr r (EndsWriting w before after (last_line_of (sum_plan recipe))) → Works r asked files l w s before after
sum_works r asked recipe files l w s before after is playable written ends =
    let P : Command → Type 0 = λ a. Works r a files l w s before after in
    subst P (sym is) (record {
      done = sum_performed r recipe before after playable written;
      cause = writing_stops r (command.Sum recipe) files l w s before after (last_line_of (sum_plan recipe)) ends;
      wrote = sum_wrote r recipe files w before after ends;
      others_stay = refl;
    })

pub writing_saves_nothing : {T : Type 0} (r : Result T Fault) (files : Option FileMap) → IfErr r (UnlessSaved (files ≡ files))
writing_saves_nothing (Ok x) files = tt
writing_saves_nothing (Err (Refused refusal)) files = refl
writing_saves_nothing (Err Write) files = refl
writing_saves_nothing (Err Save) files = tt
writing_saves_nothing (Err Memory) files = refl

-- what a play promises, by the command that the words stand for, if any
pub record Plays (o : Option Command) (files files' : Option FileMap) (l w s : Type 0) (before after : Option (List ℕ)) (n : ℕ) : Type 0 where
  pub status : is_exit_status n ≡ true
  pub done : n ≡ 0 → IsSomeAnd o (λ asked. IsDone asked files files' before after)
  pub played : n ≡ 0 → IsSomeAnd o (λ asked. IsPlayed asked files files' before after)
  pub usage_only : n ≡ 1 → o ≡ None
  pub usage : o ≡ None → (n ≡ 1) ⊎ (n ≡ 8)
  pub usage_told : n ≡ 1 → Tells w before after usage_line
  pub faulted : (n ≡ 2) ⊎ (n ≡ 3) ⊎ (n ≡ 4) ⊎ (n ≡ 5) ⊎ (n ≡ 6) → IsSomeAnd o (λ asked. IsFaulted asked files l w before after n)
  pub is_due : (l → ⊥) → IfSome o (λ asked. IfSome files (λ held. IsDueStatus (due asked held) n))
  pub complete : (l → ⊥) → (w → ⊥) → (s → ⊥) → IfSome o (λ asked. IfSome files (λ held. IsOk (due asked held) → (n ≡ 0) ⊎ (n ≡ 8)))
  pub outside : n ≡ 7 → IsSomeAnd o (λ asked. FailsOutside asked files w s (files' ≡ files) before after)
  pub runs_out : n ≡ 8 → MatchOption o (UsageRunsOut before after) (λ asked. RunsOut asked files l before after)
  pub unsaved : n ≢ 0 → n ≢ 7 → files' ≡ files
  pub others_stay : ChangesOnlySaved o files files'

plays_asked : (asked : Command) (files files' : Option FileMap) (l w s : Type 0) (before after : Option (List ℕ)) (n : ℕ) → Obeys asked files files' l w s before after n → Plays (Some asked) files files' l w s before after n
plays_asked asked files files' l w s before after n obeys = record {
  status = obeys.exits;
  done = obeys.done;
  played = obeys.played;
  usage_only = λ one. absurd (obeys.not_usage one);
  usage = λ none. absurd cc;
  usage_told = λ one. absurd (obeys.not_usage one);
  faulted = obeys.faulted;
  is_due = obeys.is_due;
  complete = obeys.complete;
  outside = obeys.outside;
  runs_out = obeys.runs_out;
  unsaved = obeys.unsaved;
  others_stay = obeys.others_stay;
}

pub some_plays : (o : Option Command) (asked : Command) (files files' : Option FileMap) (l w s : Type 0) (before after : Option (List ℕ)) (n : ℕ) → o ≡ Some asked → Obeys asked files files' l w s before after n → Plays o files files' l w s before after n
some_plays o asked files files' l w s before after n is obeys =
    let P : Option Command → Type 0 = λ x. Plays x files files' l w s before after n in subst P (sym is) (plays_asked asked files files' l w s before after n obeys)

usage_at_1 : (files : Option FileMap) (l w s : Type 0) (before after : Option (List ℕ)) → Tells w before after usage_line → Plays None files files l w s before after 1
usage_at_1 files l w s before after line = record {
  status = refl;
  done = λ e. absurd (omega (arith, e));
  played = λ e. absurd (omega (arith, e));
  usage_only = λ _. refl;
  usage = λ _. inl refl;
  usage_told = λ _. line;
  faulted = λ is. unfaulted 1 (λ e. omega (arith, e)) (λ e. omega (arith, e)) (λ e. omega (arith, e)) (λ e. omega (arith, e)) (λ e. omega (arith, e)) is;
  is_due = λ _. tt;
  complete = λ _ _ _. tt;
  outside = λ e. absurd (omega (arith, e));
  runs_out = λ e. absurd (omega (arith, e));
  unsaved = λ _ _. refl;
  others_stay = refl;
}

usage_at_8 : (files : Option FileMap) (l w s : Type 0) (before after : Option (List ℕ)) → UsageRunsOut before after → Plays None files files l w s before after 8
usage_at_8 files l w s before after out = record {
  status = refl;
  done = λ e. absurd (omega (arith, e));
  played = λ e. absurd (omega (arith, e));
  usage_only = λ e. absurd (omega (arith, e));
  usage = λ _. inr refl;
  usage_told = λ e. absurd (omega (arith, e));
  faulted = λ is. unfaulted 8 (λ e. omega (arith, e)) (λ e. omega (arith, e)) (λ e. omega (arith, e)) (λ e. omega (arith, e)) (λ e. omega (arith, e)) is;
  is_due = λ _. tt;
  complete = λ _ _ _. tt;
  outside = λ e. absurd (omega (arith, e));
  runs_out = λ _. out;
  unsaved = λ _ _. refl;
  others_stay = refl;
}

usage_plays : (files : Option FileMap) (l w s : Type 0) (before after : Option (List ℕ)) (n : ℕ) → TellsOrRunsOut w before after usage_line 1 n → Plays None files files l w s before after n
usage_plays files l w s before after n ends =
    let P : ℕ → Type 0 = λ m. Plays None files files l w s before after m in
    elim ends [ inl x ↦ subst P (sym x.0) (usage_at_1 files l w s before after x.1) | inr x ↦ subst P (sym x.0) (usage_at_8 files l w s before after (inr x.1)) ]

pub none_plays : (o : Option Command) (files : Option FileMap) (l w s : Type 0) (before after : Option (List ℕ)) (n : ℕ) → o ≡ None → TellsOrRunsOut w before after usage_line 1 n → Plays o files files l w s before after n
none_plays o files l w s before after n is ends = let P : Option Command → Type 0 = λ x. Plays x files files l w s before after n in subst P (sym is) (usage_plays files l w s before after n ends)

memory_at_8 : (o : Option Command) (files : Option FileMap) (l w s : Type 0) (before after : Option (List ℕ)) → GainsPrefix before after memory_line → Plays o files files l w s before after 8
memory_at_8 None files l w s before after line = usage_at_8 files l w s before after (inl line)
memory_at_8 (Some asked) files l w s before after line = plays_asked asked files files l w s before after 8 (memory_obeys asked files l w s before after line)

pub memory_plays : (o : Option Command) (files : Option FileMap) (l w s : Type 0) (before after : Option (List ℕ)) (n : ℕ) → n ≡ 8 → GainsPrefix before after memory_line → Plays o files files l w s before after n
memory_plays o files l w s before after n is line = let P : ℕ → Type 0 = λ m. Plays o files files l w s before after m in subst P (sym is) (memory_at_8 o files l w s before after line)

-- nothing of the store changed
pub inputs_others : (name : List ℕ) (files files' : Option FileMap) → files' ≡ files → ChangesOnly name files files'
inputs_others name files files' stay = let P : Option FileMap → Type 0 = λ fs. ChangesOnly name files fs in subst P (sym stay) (changes_nothing name files)

-- where an outcome is due and nothing failed, all is done
pub all_is_done : (o : Option Command) (held : FileMap) (n : ℕ) → IsSomeAnd o (λ asked. IsOk (due asked held)) → IfSome o (λ asked. IsOk (due asked held) → (n ≡ 0) ⊎ (n ≡ 8)) → (n ≡ 0) ⊎ (n ≡ 8)
all_is_done None held n good done = absurd good
all_is_done (Some asked) held n good done = done good
