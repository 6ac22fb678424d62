-- The verdict on a label tells that its rule holds, in a state whose serving list its place stands for.
use Rattle.std.proofs.Common.{◌≡◌, ◌≢◌, ◌<◌, ◌≤◌, ◌+◌, ◌↔◌, ◌⊎◌, ℕ, Bool, true, false, List, [], ◌∷◌, length, Option, Some, None, IsSome, IsSomeAnd, is_some, refl, ap, subst, ◌∙◌}
use Rattle.std.proofs.lemmas.Bool.{leb-true, le-leb}
use Rattle.std.specs.Prelude.{◌==◌, nat_lt, nat_le, ◌&&◌, ◌||◌, not, is_none, if◌then◌else◌}
use Rattle.std.specs.Option.{option_map}
use Rattle.smm_base.specs.declared.kinds.Policy.{Policy}
use Rattle.smm_base.specs.declared.kinds.Policy.TheVariants.{Elected, Fixed}
use Rattle.cpu_regs.specs.Entering.{after}
use Rattle.cpu_table.specs.Data.{SetupData}
use Rattle.cpu_table.specs.declared.handlers.OpDef.{OpDef}
use Rattle.cpu_table.specs.declared.handlers.OpDef.TheVariants as op
use Rattle.cpu_table.specs.declared.setup.Mode.{Mode}
use Rattle.cpu_table.specs.declared.setup.Mode.TheVariants.{Traditional, Relaxed}
use Rattle.cpu_table.specs.Waves.{blocked_in}
use Rattle.sync_words.specs.declared.label.Label.{Label}
use Rattle.sync_words.specs.declared.label.Label.TheVariants as say
use Rattle.sync_words.specs.declared.label.StartRefusal.{StartRefusal}
use Rattle.sync_words.specs.declared.label.StartRefusal.TheVariants as cause
use Rattle.serving_place.specs.Serving.{Serving}
use Rattle.serving_place.specs.Forms.{Event, Own}
use Rattle.serving_place.specs.Beginning.{program_of, walks_of}
use Rattle.serving_place.specs.Places.{Place}
use Rattle.serving_place.specs.Due.{Due, Nothing, Saying, Awaiting, Doing, due}
use Rattle.serving_judge.specs.Dues.{start_due}
use Rattle.serving_judge.specs.Tests.{accepts_own, is_nothing}
use Rattle.serving_judge.proofs.Telling.{Tells, never, nothing, always, both, three, four, either, isnt, along, number_tells, below_tells}
use Rattle.serving_judge.proofs.Placing.{own_tells, over_tells}
use Rattle.rendezvous_machine.specs.Platforms.{MayLead}
use Rattle.rendezvous_machine.specs.Machines.{Machine, member, count_of, IsBsp, IsLed, IsClosed, IsAtWork, HasWaited, AllReleased, AllCollected}
use Rattle.rendezvous_machine.specs.Machines as machine
use Rattle.rendezvous_machine.specs.Listed.{first_serving, place_by, place_in, place_of, CanSay, IsServed}
use Rattle.rendezvous_machine.specs.Services.{setting}
use Rattle.rendezvous_machine.specs.Refusals.{refusal_due, refusal}
use Rattle.rendezvous_machine.specs.Rules.{Rule, Announces, MayClose, MayBegin, IsLeast}
use Rattle.rendezvous_machine.proofs.Lists.{Standing, Jobs, FitsList, FitsJobs, JobsFit, jobs_of, CanFollow, IsAll}
use Rattle.trace_check.specs.Judged.{Session, session_of, speaker_by, speaker_of, seen}
use Rattle.trace_members.specs.Members.{each_other, reports, is_let, all_collected, is_least, count_in}
use Rattle.trace_check.specs.Verdicts.{in_session, leads, is_led, is_closed, is_at_work, are_enough, are_too_few, is_wave, has_list, can_say, refusal_by, refusal_in, is_cause, is_traditional, may_lead, announces, may_close, may_begin, verdict}
use Rattle.trace_members.proofs.Processors.{out_tells, in_tells, waiting_tells, here_tells, gone_tells, after_tells, flag_tells, unset_tells, none_tells, some_tells, reported_tells, released_tells, departed_tells, collected_tells, least_tells, answers_tell, finished_tells, reads_tell, writes_tell}

at_most_tells : (a b : ℕ) → Tells (nat_le a b) (a ≤ b)
at_most_tells a b = (λ e. leb-true a b e, λ e. le-leb a b e)

-- a second test that tells its fact where the first one's holds
both_with : (a b : Bool) {A B : Type 0} → Tells a A → (A → Tells b B) → Tells (a && b) (A × B)
both_with true b h k = (λ e. (h.0 refl, (k (h.0 refl)).0 e), λ x. (k x.0).1 x.1)
both_with false b h k = (λ e. absurd cc, λ x. let e : false ≡ true = h.1 x.0 in absurd cc)

-- WORDS OF THE PLATFORM

cause_tells : (o : Option StartRefusal) (x : StartRefusal) → Tells (is_cause o x) (o ≡ Some x)
cause_tells None x = never (λ e. cc)
cause_tells (Some cause.OutOfRange) cause.OutOfRange = (λ e. refl, λ e. refl)
cause_tells (Some cause.BootProcessor) cause.BootProcessor = (λ e. refl, λ e. refl)
cause_tells (Some cause.UnknownProcedure) cause.UnknownProcedure = (λ e. refl, λ e. refl)
cause_tells (Some cause.Tokens) cause.Tokens = (λ e. refl, λ e. refl)
cause_tells (Some cause.Busy) cause.Busy = (λ e. refl, λ e. refl)
cause_tells (Some cause.Absent) cause.Absent = (λ e. refl, λ e. refl)
cause_tells (Some cause.OutOfRange) _ = never (λ e. cc)
cause_tells (Some cause.BootProcessor) _ = never (λ e. cc)
cause_tells (Some cause.UnknownProcedure) _ = never (λ e. cc)
cause_tells (Some cause.Tokens) _ = never (λ e. cc)
cause_tells (Some cause.Busy) _ = never (λ e. cc)
cause_tells (Some cause.Absent) _ = never (λ e. cc)

traditional_tells : (mode : Mode) → Tells (is_traditional mode) (mode ≡ Traditional)
traditional_tells Traditional = (λ e. refl, λ e. refl)
traditional_tells Relaxed = never (λ e. cc)

lead_tells : (p : Policy) (i : ℕ) → Tells (may_lead p i) (MayLead p i)
lead_tells Elected i = always
lead_tells (Fixed bsp) i = number_tells i bsp

enough_tells : (o : Option ℕ) (n processors : ℕ) → Tells (are_enough o n processors) (IsSomeAnd o (λ e. processors ≤ n + e))
enough_tells None n processors = nothing
enough_tells (Some e) n processors = at_most_tells processors (n + e)

few_tells : (o : Option ℕ) (n processors : ℕ) → Tells (are_too_few o n processors) (IsSomeAnd o (λ e. n + e < processors))
few_tells None n processors = nothing
few_tells (Some e) n processors = below_tells (n + e) processors

wave_tells : (o : Option ℕ) (w : ℕ) → Tells (is_wave o w) (o ≡ Some w)
wave_tells None w = never (λ e. cc)
wave_tells (Some v) w = along (λ (e : v ≡ w). ap Some e) (λ e. cc) (number_tells v w)

unbegun_tells : {A : Type 0} (o : Option A) → Tells (not (is_some o)) (o ≡ None)
unbegun_tells None = (λ e. refl, λ e. refl)
unbegun_tells (Some x) = never (λ e. cc)

-- SESSIONS

any_tells : (o : Option machine.Session) (test : Session → Bool) (P : machine.Session → Type 0) → ((s : machine.Session) → Tells (test (session_of s)) (P s))
    → Tells (in_session (option_map session_of o) test) (IsSomeAnd o P)
any_tells None test P h = nothing
any_tells (Some s) test P h = h s

no_session : (o : Option machine.Session) → Tells (is_none (option_map session_of o)) (o ≡ None)
no_session None = (λ e. refl, λ e. refl)
no_session (Some s) = never (λ e. cc)

closed_tells : (m : Machine) (d : SetupData) → Tells (is_closed (seen d m)) (IsClosed m)
closed_tells m d = any_tells m.session (λ s. s.is_closed) (λ s. s.is_closed ≡ true) (λ s. flag_tells s.is_closed)

led_tells : (m : Machine) (d : SetupData) (i : ℕ) → Tells (is_led (seen d m) i) (IsLed m i)
led_tells m d i = any_tells m.session (λ s. s.bsp == i) (λ s. s.bsp ≡ i) (λ s. number_tells s.bsp i)

work_tells : (m : Machine) (d : SetupData) → Tells (is_at_work (seen d m)) (IsAtWork m)
work_tells m d =
    any_tells m.session (λ s. is_some s.served && not s.is_done) (λ s. IsSome s.served × (s.is_done ≡ false))
    (λ s. both (is_some s.served) (not s.is_done) (some_tells s.served) (unset_tells s.is_done))

-- the session that the actor leads, with what its place stands for
leads_by : (d : SetupData) (begin : Serving) (jobs : Jobs) (o : Option machine.Session) (i : ℕ) (test : Place → Session → Bool) (P : machine.Session → Type 0)
    → ((s : machine.Session) → FitsList d 0 begin jobs s.served s.serving s.is_done → Tells (test (place_by d begin s.served s.serving) (session_of s)) (P s))
    → FitsJobs d 0 begin jobs o
    → Tells (in_session (option_map session_of o) (λ s. s.bsp == i && test (place_in d begin o) s)) (IsSomeAnd o (λ s. (s.bsp ≡ i) × P s))
leads_by d begin jobs None i test P h f = nothing
leads_by d begin jobs (Some s) i test P h f = both (s.bsp == i) (test (place_by d begin s.served s.serving) (session_of s)) (number_tells s.bsp i) (h s f)

leads_tell : (d : SetupData) (m : Machine) (i : ℕ) (test : Place → Session → Bool) (P : machine.Session → Type 0)
    → ((s : machine.Session) → FitsList d 0 (first_serving d m) (jobs_of m) s.served s.serving s.is_done → Tells (test (place_by d (first_serving d m) s.served s.serving) (session_of s)) (P s))
    → JobsFit d 0 m → Tells (leads (seen d m) i (test (place_of d m))) (IsBsp m i P)
leads_tell d m i test P h f = leads_by d (first_serving d m) (jobs_of m) m.session i test P h f

-- SERVING

abbrev lists : Option ℕ → Option (List Event) → Bool
lists served serving = is_some served && is_some serving

can_tells : (std : Standing) (d : SetupData) (begin : Serving) (jobs : Jobs) (l : Label) (served : Option ℕ) (serving : Option (List Event)) (done : Bool)
    → FitsList d 0 begin jobs served serving done
    → Tells (lists served serving && accepts_own (program_of d) (place_by d begin served serving) l) (CanFollow d begin l served serving)
can_tells std d begin jobs l None None done h = nothing
can_tells std d begin jobs l (Some w) None done h = nothing
can_tells std d begin jobs l None (Some es) done h = nothing
can_tells std d begin jobs l (Some w) (Some es) done h =
    let p = place_by d begin (Some w) (Some es) in
    let exact = (std.follows (program_of d) w (walks_of d.waves w) begin p es (Own l) h.stands).exact in
    along exact.0 exact.1 (own_tells (program_of d) p l)

served_tells : (std : Standing) (d : SetupData) (begin : Serving) (jobs : Jobs) (served : Option ℕ) (serving : Option (List Event)) (done : Bool)
    → FitsList d 0 begin jobs served serving done
    → Tells (lists served serving && is_nothing (due (program_of d) (place_by d begin served serving))) (IsAll d begin served serving)
served_tells std d begin jobs None None done h = nothing
served_tells std d begin jobs (Some w) None done h = nothing
served_tells std d begin jobs None (Some es) done h = nothing
served_tells std d begin jobs (Some w) (Some es) done h =
    let p = place_by d begin (Some w) (Some es) in
    let whole = std.whole (program_of d) w (walks_of d.waves w) begin p es h.stands in
    along whole.0 whole.1 (over_tells (program_of d) p)

-- what can be said, and that the list is whole, by the place
abbrev says : SetupData → Label → Place → Session → Bool
says d l p s = has_list s && accepts_own (program_of d) p l

abbrev ends : SetupData → Place → Session → Bool
ends d p s = has_list s && is_nothing (due (program_of d) p)

say_tells : (std : Standing) (d : SetupData) (m : Machine) (l : Label) (s : machine.Session) → FitsList d 0 (first_serving d m) (jobs_of m) s.served s.serving s.is_done
    → Tells (says d l (place_by d (first_serving d m) s.served s.serving) (session_of s)) (CanSay d m l s)
say_tells std d m l s h = can_tells std d (first_serving d m) (jobs_of m) l s.served s.serving s.is_done h

end_tells : (std : Standing) (d : SetupData) (m : Machine) (s : machine.Session) → FitsList d 0 (first_serving d m) (jobs_of m) s.served s.serving s.is_done
    → Tells (ends d (place_by d (first_serving d m) s.served s.serving) (session_of s)) (IsServed d m s)
end_tells std d m s h = served_tells std d (first_serving d m) (jobs_of m) s.served s.serving s.is_done h

-- the boot processor can say it
goes_tells : (std : Standing) (d : SetupData) (m : Machine) (i : ℕ) (l : Label) → JobsFit d 0 m → Tells (leads (seen d m) i (can_say (seen d m) l)) (IsBsp m i (CanSay d m l))
goes_tells std d m i l f = leads_tell d m i (says d l) (CanSay d m l) (say_tells std d m l) f

-- REFUSALS

refusal_at : (d : SetupData) (m : Machine) (bsp : ℕ) (s : Serving) (x : Due) → refusal_by (seen d m) (start_due (setting d bsp) s x) ≡ refusal_due d m bsp s x
refusal_at d m bsp s Nothing = refl
refusal_at d m bsp s (Saying l) = refl
refusal_at d m bsp s (Awaiting c) = refl
refusal_at d m bsp s (Doing n o) = at_operation o
  where
    at_operation : (o : OpDef) → refusal_by (seen d m) (start_due (setting d bsp) s (Doing n o)) ≡ refusal_due d m bsp s (Doing n o)
    at_operation (op.Start cpu name arg into) = refl
    at_operation (op.Launch cpu name arg into) = refl
    at_operation _ = refl

-- the one that speaks is the boot processor
speaker_by_list : (d : SetupData) (begin : Serving) (l : Label) (i bsp : ℕ) (served : Option ℕ) (serving : Option (List Event)) → bsp ≡ i → CanFollow d begin l served serving
    → speaker_by bsp serving ≡ i
speaker_by_list d begin l i bsp None None e h = absurd h
speaker_by_list d begin l i bsp (Some w) None e h = absurd h
speaker_by_list d begin l i bsp served (Some es) e h = e

speaker_is : (d : SetupData) (m : Machine) (i : ℕ) (l : Label) (o : Option machine.Session) → IsSomeAnd o (λ s. (s.bsp ≡ i) × CanSay d m l s) → speaker_of o ≡ i
speaker_is d m i l None h = absurd h
speaker_is d m i l (Some s) h = speaker_by_list d (first_serving d m) l i s.bsp s.served s.serving h.0 h.1

refusal_same : (d : SetupData) (m : Machine) (i : ℕ) (l : Label) → IsBsp m i (CanSay d m l) → refusal_in (seen d m) ≡ refusal d m i
refusal_same d m i l h =
    ap (λ (k : ℕ). refusal_by (seen d m) (start_due (setting d k) (place_of d m).state (due (program_of d) (place_of d m)))) (speaker_is d m i l m.session h)
    ∙ refusal_at d m i (place_of d m).state (due (program_of d) (place_of d m))

-- THE RULES

-- a label of serving that the list alone decides, and one with a condition beside
abbrev pub Verdict : SetupData → Machine → ℕ → Label → Type 0
Verdict d m i l = Tells (verdict (seen d m) i l) (Rule d m i l)

mode_closes : (std : Standing) (d : SetupData) (m : Machine) (i : ℕ) (mode : Mode) → JobsFit d 0 m
    → Tells (leads (seen d m) i (λ s. not s.is_closed && may_close (seen d m) mode s)) (IsBsp m i (λ s. (s.is_closed ≡ false) × MayClose d m mode s))
mode_closes std d m i Traditional f =
    leads_tell d m i (λ p s. not s.is_closed && (s.is_ready || s.expired == 2)) (λ s. (s.is_closed ≡ false) × HasWaited s)
    (λ s h. both (not s.is_closed) _ (unset_tells s.is_closed) (either s.is_ready (s.expired == 2) (flag_tells s.is_ready) (number_tells s.expired 2))) f
mode_closes std d m i Relaxed f =
    leads_tell d m i (λ p s. not s.is_closed && (ends d p s && all_collected m.members)) (λ s. (s.is_closed ≡ false) × (IsServed d m s × AllCollected m))
    (λ s h. both (not s.is_closed) _ (unset_tells s.is_closed) (both _ (all_collected m.members) (end_tells std d m s h) (collected_tells m))) f

mode_begins : (d : SetupData) (m : Machine) (mode : Mode) (s : machine.Session) → Tells (may_begin (seen d m) mode (session_of s)) (MayBegin m mode s)
mode_begins d m Traditional s = both s.is_closed (each_other m.members s.bsp reports) (flag_tells s.is_closed) (reported_tells m s.bsp)
mode_begins d m Relaxed s = unset_tells s.is_closed

announce_tells : (d : SetupData) (m : Machine) (i : ℕ) → Tells (announces (seen d m) i) (Announces d m i)
announce_tells d m i = both (i == d.processors) (nat_lt m.waves (length d.waves)) (number_tells i d.processors) (below_tells m.waves (length d.waves))

pub rule_tells : (std : Standing) (d : SetupData) (m : Machine) (i : ℕ) (l : Label) → JobsFit d 0 m → Verdict d m i l
rule_tells std d m i say.Silent f = always
rule_tells std d m i (say.Excepted e) f =
    three (both (announces (seen d m) i) _ (announce_tells d m i)
    (both (m.excepted == m.waves) (e == blocked_in d.waves (m.waves + 1)) (number_tells m.excepted m.waves) (number_tells e (blocked_in d.waves (m.waves + 1)))))
rule_tells std d m i (say.Wave w) f =
    three (both (announces (seen d m) i) _ (announce_tells d m i)
    (both (m.excepted == m.waves + 1) (w == m.waves + 1) (number_tells m.excepted (m.waves + 1)) (number_tells w (m.waves + 1))))
rule_tells std d m i say.Enter f =
    three (both _ _ (out_tells (member m i).phase)
    (both (nat_lt (member m i).visits d.visits) (nat_lt 0 m.waves) (below_tells (member m i).visits d.visits) (below_tells 0 m.waves)))
rule_tells std d m i say.Turn f = both _ _ (in_tells (member m i).phase) (isnt (is_at_work (seen d m)) (work_tells m d))
rule_tells std d m i say.Arrive f = both _ _ (in_tells (member m i).phase) (isnt (is_closed (seen d m)) (closed_tells m d))
rule_tells std d m i say.Late f = both _ _ (in_tells (member m i).phase) (closed_tells m d)
rule_tells std d m i say.Elect f =
    three (both _ _ (waiting_tells (member m i).phase)
    (both (is_none (option_map session_of m.session)) (may_lead d.policy i) (no_session m.session) (lead_tells d.policy i)))
rule_tells std d m i (say.Served w) f =
    leads_tell d m i (λ p s. is_none s.served && w == m.source) (λ s. (s.served ≡ None) × (w ≡ m.source))
    (λ s h. both (is_none s.served) (w == m.source) (none_tells s.served) (number_tells w m.source)) f
rule_tells std d m i (say.Gather e) f =
    both _ (is_traditional d.mode)
    (leads_tell d m i (λ p s. is_some s.served && (is_none s.gathered && e == m.last_excepted)) (λ s. IsSome s.served × (s.gathered ≡ None) × (e ≡ m.last_excepted))
    (λ s h. three (both (is_some s.served) _ (some_tells s.served) (both (is_none s.gathered) (e == m.last_excepted) (none_tells s.gathered) (number_tells e m.last_excepted)))) f)
    (traditional_tells d.mode)
rule_tells std d m i (say.Ready n) f =
    both _ (n == count_in m.members)
    (leads_tell d m i (λ p s. not s.is_ready && (nat_le s.expired 1 && are_enough s.gathered n d.processors))
    (λ s. (s.is_ready ≡ false) × (s.expired ≤ 1) × IsSomeAnd s.gathered (λ e. d.processors ≤ n + e))
    (λ s h. three (both (not s.is_ready) _ (unset_tells s.is_ready)
    (both (nat_le s.expired 1) (are_enough s.gathered n d.processors) (at_most_tells s.expired 1) (enough_tells s.gathered n d.processors)))) f)
    (number_tells n (count_of m))
rule_tells std d m i (say.Expire k) f =
    leads_tell d m i (λ p s. not s.is_ready && (s.expired + 1 == k && (nat_le k 2 && are_too_few s.gathered (count_in m.members) d.processors)))
    (λ s. (s.is_ready ≡ false) × (s.expired + 1 ≡ k) × (k ≤ 2) × IsSomeAnd s.gathered (λ e. count_of m + e < d.processors))
    (λ s h. four (both (not s.is_ready) _ (unset_tells s.is_ready)
    (both (s.expired + 1 == k) _ (number_tells (s.expired + 1) k)
    (both (nat_le k 2) (are_too_few s.gathered (count_in m.members) d.processors) (at_most_tells k 2) (few_tells s.gathered (count_of m) d.processors))))) f
rule_tells std d m i say.Quit f =
    three (both _ _ (waiting_tells (member m i).phase)
    (both (not (is_led (seen d m) i)) (not (is_closed (seen d m))) (isnt (is_led (seen d m) i) (led_tells m d i)) (isnt (is_closed (seen d m)) (closed_tells m d))))
rule_tells std d m i say.Report f =
    both _ _ (waiting_tells (member m i).phase)
    (any_tells m.session (λ s. not (s.bsp == i)) (λ s. s.bsp ≢ i) (λ s. isnt (s.bsp == i) (number_tells s.bsp i)))
rule_tells std d m i (say.Close n) f = both _ (n == count_in m.members) (mode_closes std d m i d.mode f) (number_tells n (count_of m))
rule_tells std d m i (say.Begin w) f =
    leads_tell d m i (λ p s. is_wave s.served w && (not s.has_begun && may_begin (seen d m) d.mode s))
    (λ s. (s.served ≡ Some w) × (s.serving ≡ None) × MayBegin m d.mode s)
    (λ s h. three (both (is_wave s.served w) _ (wave_tells s.served w)
    (both (not (is_some s.serving)) _ (unbegun_tells s.serving) (mode_begins d m d.mode s)))) f
rule_tells std d m i (say.Read c register width x S) f =
    both _ _ (goes_tells std d m i (say.Read c register width x S) f) (reads_tell d m i c register width x S)
rule_tells std d m i (say.Write c register width x S) f =
    both _ _ (goes_tells std d m i (say.Write c register width x S) f) (writes_tell d m i c register width x S)
rule_tells std d m i (say.Refuse c x) f =
    both_with _ _ (goes_tells std d m i (say.Refuse c x) f)
    (λ h. subst (λ (o : Option StartRefusal). Tells (is_cause (refusal_in (seen d m)) x) (o ≡ Some x)) (refusal_same d m i (say.Refuse c x) h) (cause_tells (refusal_in (seen d m)) x))
rule_tells std d m i (say.Start c n p a) f =
    three (both_with _ _ (goes_tells std d m i (say.Start c n p a) f)
    (λ h. both (is_none (refusal_in (seen d m))) (is_none (member m c).job)
    (subst (λ (o : Option StartRefusal). Tells (is_none (refusal_in (seen d m))) (o ≡ None)) (refusal_same d m i (say.Start c n p a) h) (none_tells (refusal_in (seen d m))))
    (none_tells (member m c).job)))
rule_tells std d m i (say.Run n result S) f = both _ _ (here_tells (member m i).phase) (answers_tell d (member m i) n result S)
rule_tells std d m i (say.Collect c) f =
    both _ _
    (leads_tell d m i (λ p s. says d (say.Collect c) p s || (ends d p s && is_least m.members c)) (λ s. CanSay d m (say.Collect c) s ⊎ (IsServed d m s × IsLeast m c))
    (λ s h. either _ _ (say_tells std d m (say.Collect c) s h) (both _ (is_least m.members c) (end_tells std d m s h) (least_tells m c))) f)
    (finished_tells (member m c))
rule_tells std d m i say.Done f =
    three (both _ _
    (leads_tell d m i (λ p s. not s.is_done && (ends d p s && s.is_closed)) (λ s. (s.is_done ≡ false) × IsServed d m s × (s.is_closed ≡ true))
    (λ s h. three (both (not s.is_done) _ (unset_tells s.is_done) (both _ s.is_closed (end_tells std d m s h) (flag_tells s.is_closed)))) f)
    (both _ _ (reported_tells m i) (collected_tells m)))
rule_tells std d m i (say.Release c) f =
    four (both _ _ (leads_tell d m i (λ p s. s.is_done) (λ s. s.is_done ≡ true) (λ s h. flag_tells s.is_done) f)
    (both (not (c == i)) _ (isnt (c == i) (number_tells c i))
    (both (member m c).in_closed_set (not (member m c).is_released) (flag_tells (member m c).in_closed_set) (unset_tells (member m c).is_released))))
rule_tells std d m i say.Depart f =
    three (both _ _ (here_tells (member m i).phase)
    (both _ (member m i).is_released
    (any_tells m.session (λ s. each_other m.members s.bsp is_let) (λ s. AllReleased m s.bsp) (λ s. released_tells m s.bsp))
    (flag_tells (member m i).is_released)))
rule_tells std d m i say.End f = both _ _ (leads_tell d m i (λ p s. s.is_done) (λ s. s.is_done ≡ true) (λ s h. flag_tells s.is_done) f) (departed_tells m i)
rule_tells std d m i (say.Resume how) f = both _ _ (gone_tells (member m i).phase) (after_tells how (after (member m i).image))
rule_tells std d m i say.Off f =
    both _ _ (out_tells (member m i).phase)
    (either (m.waves == length d.waves) ((member m i).visits == d.visits) (number_tells m.waves (length d.waves)) (number_tells (member m i).visits d.visits))
rule_tells std d m i l f = goes_tells std d m i l f
