-- The rules as tests of the machine that is kept, and their numbers.
use Rattle.std.specs.Prelude.{ℕ, ◌+◌, ◌==◌, nat_lt, nat_le, ◌&&◌, ◌||◌, not, if◌then◌else◌, Bool, true, false, length, Option, Some, None, is_none, is_some}
use Rattle.smm_base.specs.declared.kinds.Policy.{Policy}
use Rattle.smm_base.specs.declared.kinds.Policy.TheVariants.{Elected, Fixed}
use Rattle.cpu_regs.specs.Entering.{after}
use Rattle.cpu_table.specs.declared.setup.Mode.{Mode}
use Rattle.cpu_table.specs.declared.setup.Mode.TheVariants.{Traditional, Relaxed}
use Rattle.cpu_table.specs.Waves.{blocked_in}
use Rattle.sync_words.specs.declared.label.Label.{Label}
use Rattle.sync_words.specs.declared.label.Label.TheVariants as say
use Rattle.sync_words.specs.declared.label.StartRefusal.{StartRefusal}
use Rattle.sync_words.specs.declared.label.StartRefusal.TheVariants as refusal
use Rattle.serving_place.specs.Beginning.{program_of}
use Rattle.serving_place.specs.Due.{due}
use Rattle.serving_judge.specs.declared.next.StartDue.{StartDue}
use Rattle.serving_judge.specs.Dues.{start_due}
use Rattle.serving_judge.specs.Judging.{setting_of}
use Rattle.serving_judge.specs.Tests.{accepts_own, is_nothing}
use Rattle.rendezvous_machine.specs.Machines.{is_here}
use Rattle.rendezvous_machine.specs.Refusals.{is_open, or_else}
use Rattle.trace_check.specs.Judged.{Judged, Session, setup_of, member}
use Rattle.trace_members.specs.Members.{is_out, is_in, is_waiting, is_gone, is_after, each_other, reports, is_let, has_left, all_collected, is_least, count_in, answers, is_finished, reads, writes}

-- THE SESSION

-- there is a session with this property
abbrev pub in_session : Option Session → (Session → Bool) → Bool
in_session None test = false
in_session (Some s) test = test s

-- there is a session, the actor is its boot processor, and the session has the property
abbrev pub leads : Judged → ℕ → (Session → Bool) → Bool
leads j i test = in_session j.session (λ s. s.bsp == i && test s)

abbrev pub is_led : Judged → ℕ → Bool
is_led j i = in_session j.session (λ s. s.bsp == i)

abbrev pub is_closed : Judged → Bool
is_closed j = in_session j.session (λ s. s.is_closed)

abbrev pub is_at_work : Judged → Bool
is_at_work j = in_session j.session (λ s. is_some s.served && not s.is_done)

-- the processors that are taken as blocked, with others, are all that there are
abbrev pub are_enough : Option ℕ → ℕ → ℕ → Bool
are_enough None n processors = false
are_enough (Some e) n processors = nat_le processors (n + e)

abbrev pub are_too_few : Option ℕ → ℕ → ℕ → Bool
are_too_few None n processors = false
are_too_few (Some e) n processors = nat_lt (n + e) processors

abbrev pub is_wave : Option ℕ → ℕ → Bool
is_wave None w = false
is_wave (Some v) w = v == w

-- SERVING

abbrev pub has_list : Session → Bool
has_list s = is_some s.served && s.has_begun

abbrev pub can_say : Judged → Label → Session → Bool
can_say j l s = has_list s && accepts_own (program_of (setup_of j)) j.judging.place l

abbrev pub is_over : Judged → Bool
is_over j = is_nothing (due (program_of (setup_of j)) j.judging.place)

abbrev pub is_served : Judged → Session → Bool
is_served j s = has_list s && is_over j

-- why a job isn't given: what serving itself knows, and then that the processor's job is open, or that it isn't there
abbrev pub cause_later : Bool → Bool → Bool → Option StartRefusal
cause_later is_launch has_open here = if is_launch && has_open then Some refusal.Busy else (if here then None else Some refusal.Absent)

abbrev pub refusal_by : Judged → Option StartDue → Option StartRefusal
refusal_by j None = None
refusal_by j (Some start) =
    or_else start.cause (cause_later start.is_launch (is_open (member j start.cpu).job) (is_here (member j start.cpu).phase))

abbrev pub refusal_in : Judged → Option StartRefusal
refusal_in j = refusal_by j (start_due (setting_of j.judging) j.judging.place.state (due (program_of (setup_of j)) j.judging.place))

abbrev pub is_cause : Option StartRefusal → StartRefusal → Bool
is_cause (Some refusal.OutOfRange) refusal.OutOfRange = true
is_cause (Some refusal.BootProcessor) refusal.BootProcessor = true
is_cause (Some refusal.UnknownProcedure) refusal.UnknownProcedure = true
is_cause (Some refusal.Tokens) refusal.Tokens = true
is_cause (Some refusal.Busy) refusal.Busy = true
is_cause (Some refusal.Absent) refusal.Absent = true
is_cause _ _ = false

-- THE RULES

abbrev pub is_traditional : Mode → Bool
is_traditional Traditional = true
is_traditional Relaxed = false

abbrev pub may_lead : Policy → ℕ → Bool
may_lead Elected i = true
may_lead (Fixed bsp) i = i == bsp

-- the chipset announces the next wave, if there is one
abbrev pub announces : Judged → ℕ → Bool
announces j i = i == (setup_of j).processors && nat_lt j.waves (length (setup_of j).waves)

abbrev pub may_close : Judged → Mode → Session → Bool
may_close j Traditional s = s.is_ready || s.expired == 2
may_close j Relaxed s = is_served j s && all_collected j.members

abbrev pub may_begin : Judged → Mode → Session → Bool
may_begin j Traditional s = s.is_closed && each_other j.members s.bsp reports
may_begin j Relaxed s = not s.is_closed

-- what is said while serving; all that isn't named is decided by the place alone
abbrev pub serves : Judged → ℕ → Label → Bool
serves j i (say.Read c register width x S) =
    leads j i (can_say j (say.Read c register width x S)) && reads (setup_of j) j.members i c register width x S
serves j i (say.Write c register width x S) =
    leads j i (can_say j (say.Write c register width x S)) && writes (setup_of j) j.members i c register width x S
serves j i (say.Refuse c cause) = leads j i (can_say j (say.Refuse c cause)) && is_cause (refusal_in j) cause
serves j i (say.Start c n p a) =
    leads j i (can_say j (say.Start c n p a)) && (is_none (refusal_in j) && is_none (member j c).job)
serves j i (say.Collect c) =
    leads j i (λ s. can_say j (say.Collect c) s || (is_served j s && is_least j.members c)) && is_finished (member j c).job
serves j i l = leads j i (can_say j l)

-- what the boot processor says beside that
abbrev pub heads : Judged → ℕ → Label → Bool
heads j i say.Elect = is_waiting (member j i).phase && (is_none j.session && may_lead (setup_of j).policy i)
heads j i (say.Served w) = leads j i (λ s. is_none s.served && w == j.source)
heads j i (say.Gather e) =
    leads j i (λ s. is_some s.served && (is_none s.gathered && e == j.last_excepted)) && is_traditional (setup_of j).mode
heads j i (say.Ready n) =
    leads j i (λ s. not s.is_ready && (nat_le s.expired 1 && are_enough s.gathered n (setup_of j).processors)) && n == count_in j.members
heads j i (say.Expire k) =
    leads j i (λ s. not s.is_ready && (s.expired + 1 == k && (nat_le k 2 && are_too_few s.gathered (count_in j.members) (setup_of j).processors)))
heads j i (say.Close n) = leads j i (λ s. not s.is_closed && may_close j (setup_of j).mode s) && n == count_in j.members
heads j i (say.Begin w) = leads j i (λ s. is_wave s.served w && (not s.has_begun && may_begin j (setup_of j).mode s))
heads j i say.Done =
    leads j i (λ s. not s.is_done && (is_served j s && s.is_closed)) && (each_other j.members i reports && all_collected j.members)
heads j i (say.Release c) = leads j i (λ s. s.is_done) && (not (c == i) && ((member j c).in_closed_set && not (member j c).is_released))
heads j i say.End = leads j i (λ s. s.is_done) && each_other j.members i has_left
heads j i l = serves j i l

-- what the chipset says, and each processor for itself
abbrev pub verdict : Judged → ℕ → Label → Bool
verdict j i say.Silent = true
verdict j i (say.Excepted e) = announces j i && (j.excepted == j.waves && e == blocked_in (setup_of j).waves (j.waves + 1))
verdict j i (say.Wave w) = announces j i && (j.excepted == j.waves + 1 && w == j.waves + 1)
verdict j i say.Enter = is_out (member j i).phase && (nat_lt (member j i).visits (setup_of j).visits && nat_lt 0 j.waves)
verdict j i say.Turn = is_in (member j i).phase && not (is_at_work j)
verdict j i say.Arrive = is_in (member j i).phase && not (is_closed j)
verdict j i say.Late = is_in (member j i).phase && is_closed j
verdict j i say.Quit = is_waiting (member j i).phase && (not (is_led j i) && not (is_closed j))
verdict j i say.Report = is_waiting (member j i).phase && in_session j.session (λ s. not (s.bsp == i))
verdict j i (say.Run n result S) = is_here (member j i).phase && answers (setup_of j).procedures (member j i) n result S
verdict j i say.Depart =
    is_here (member j i).phase && (in_session j.session (λ s. each_other j.members s.bsp is_let) && (member j i).is_released)
verdict j i (say.Resume how) = is_gone (member j i).phase && is_after how (after (member j i).image)
verdict j i say.Off = is_out (member j i).phase && (j.waves == length (setup_of j).waves || (member j i).visits == (setup_of j).visits)
verdict j i l = heads j i l

-- NUMBERS

abbrev pub rule_of : Label → ℕ
rule_of say.Silent = 0
rule_of (say.Excepted e) = 1
rule_of (say.Wave w) = 2
rule_of say.Enter = 3
rule_of say.Turn = 4
rule_of say.Arrive = 5
rule_of say.Late = 6
rule_of say.Elect = 7
rule_of (say.Served w) = 8
rule_of (say.Gather e) = 9
rule_of (say.Ready n) = 10
rule_of (say.Expire k) = 11
rule_of say.Quit = 12
rule_of say.Report = 13
rule_of (say.Close n) = 14
rule_of (say.Begin w) = 15
rule_of (say.Manage kind) = 16
rule_of (say.Deep kind) = 16
rule_of (say.Call h) = 17
rule_of (say.Return h S) = 18
rule_of (say.Answer S) = 19
rule_of (say.Refuse c cause) = 21
rule_of (say.Start c n p a) = 22
rule_of (say.Run n result S) = 23
rule_of (say.Collect c) = 24
rule_of say.Spent = 25
rule_of say.Done = 26
rule_of (say.Release c) = 27
rule_of say.Depart = 28
rule_of say.End = 29
rule_of (say.Resume how) = 30
rule_of say.Off = 31
rule_of _ = 20
