-- What a label makes of the machine that is kept.
use Rattle.std.specs.Prelude.{◌≡◌, ℕ, ◌+◌, Bool, true, false, if◌then◌else◌, List, map, Some, None}
use Rattle.std.specs.Option.{option_map}
use Rattle.smm_base.specs.declared.status.Status.{Status}
use Rattle.cpu_table.specs.Causes.{cause_of}
use Rattle.sync_words.specs.declared.label.Label.{Label}
use Rattle.sync_words.specs.declared.label.Label.TheVariants as say
use Rattle.serving_place.specs.Due.{due}
use Rattle.serving_place.specs.Sayings.{operation_due}
use Rattle.serving_place.specs.Serving.{ran, tokens_out}
use Rattle.serving_place.specs.Forms.{Own}
use Rattle.serving_place.specs.Beginning.{program_of}
use Rattle.serving_place.specs.Places.{next}
use Rattle.serving_judge.specs.Dues.{HasTokenRoom}
use Rattle.serving_judge.specs.Tests.{accepts_own}
use Rattle.serving_judge.specs.Judging.{Judging, begun, finished}
use Rattle.rendezvous_machine.specs.Machines.{Member}
use Rattle.rendezvous_machine.specs.declared.phase.Phase.TheVariants.{Counted, Here, Gone, Off}
use Rattle.rendezvous_machine.specs.Effects.{given, enclosed, cleared}
use Rattle.trace_members.specs.Changes.{in_phase, with_job, in_visit, with_write, with_run, with_release, with_departure, with_resume}
use Rattle.trace_check.specs.Judged.{Judged, Session, setup_of, member}
use Rattle.trace_check.specs.Verdicts.{is_over, verdict}

-- THE SESSION

abbrev pub opened : ℕ → Session
opened i =
    record { bsp = i; served = None; gathered = None; is_ready = false; expired = 0; is_closed = false; has_begun = false; is_done = false }

-- what a label changes of it alone
abbrev pub changed_by : Label → Session → Session
changed_by (say.Served w) s = record s { served = Some w }
changed_by (say.Gather e) s = record s { gathered = Some e }
changed_by (say.Ready n) s = record s { is_ready = true }
changed_by (say.Expire k) s = record s { expired = k }
changed_by (say.Close n) s = record s { is_closed = true }
changed_by (say.Begin w) s = record s { has_begun = true }
changed_by say.Done s = record s { is_done = true }
changed_by _ s = s

abbrev pub with_session : Label → Judged → Judged
with_session l j = record j { session = option_map (changed_by l) j.session }

abbrev pub with_members : (List Member → List Member) → Judged → Judged
with_members f j = record j { members = f j.members }

-- SERVING

abbrev pub said : Label → Judging → Judging
said l g = record g { place = next (program_of g.setup) g.place (Own l) }

abbrev pub saying : Label → Judged → Judged
saying l j = record j { judging = said l j.judging }

-- the label may be said next, with what its change wants
abbrev pub MayBeSaid : Judged → Label → Type 0
MayBeSaid j l =
    (accepts_own (program_of (setup_of j)) j.judging.place l ≡ true)
    × HasTokenRoom l (operation_due (due (program_of (setup_of j)) j.judging.place)) (tokens_out j.judging.place.state)

-- a collect, where the list isn't whole
abbrev pub CanFollow : Judged → Label → Type 0
CanFollow j (say.Collect c) = is_over j ≡ false → MayBeSaid j (say.Collect c)
CanFollow j l = MayBeSaid j l

abbrev pub unless : Bool → Judging → Judging → Judging
unless true old new = old
unless false old new = new

-- unless the list is whole
abbrev pub collecting : Label → Judged → Judged
collecting l j = record j { judging = unless (is_over j) j.judging (said l j.judging) }

abbrev pub ran_by : ℕ → ℕ → Status → Judging → Judging
ran_by c x S g = record g { place = record g.place { state = ran c x S g.place.state } }

abbrev pub running : ℕ → ℕ → Status → Judged → Judged
running c x S j = record j { judging = unless (is_over j) j.judging (ran_by c x S j.judging) }

abbrev pub beginning_list : ℕ → ℕ → Judged → Judged
beginning_list i w j = record j { judging = said (say.Begin w) (begun i w j.judging) }

-- THE LABELS

-- what is said while serving
abbrev pub after_serving : Judged → ℕ → Label → Judged
after_serving j i (say.Write c register width x S) =
    saying (say.Write c register width x S) (with_members (with_write c register width x S) j)
after_serving j i (say.Start c n p a) = saying (say.Start c n p a) (with_members (with_job c (Some (given n p a))) j)
after_serving j i (say.Collect c) = collecting (say.Collect c) (with_members (with_job c None) j)
after_serving j i l = saying l j

-- what the boot processor says beside that
abbrev pub after_heading : Judged → ℕ → Label → Judged
after_heading j i say.Elect = record j { session = Some (opened i) }
after_heading j i (say.Served w) = with_session (say.Served w) (record j { source = 0 })
after_heading j i (say.Gather e) = with_session (say.Gather e) j
after_heading j i (say.Ready n) = with_session (say.Ready n) j
after_heading j i (say.Expire k) = with_session (say.Expire k) j
after_heading j i (say.Close n) = with_session (say.Close n) (with_members (map enclosed) j)
after_heading j i (say.Begin w) = with_session (say.Begin w) (beginning_list i w j)
after_heading j i say.Done = with_session say.Done j
after_heading j i (say.Release c) = with_members (with_release c) j
after_heading j i say.End =
    record j { members = map cleared (in_phase i Gone j.members); session = None; judging = finished j.judging }
after_heading j i l = after_serving j i l

-- what the chipset says, and each processor for itself
abbrev pub after_label : Judged → ℕ → Label → Judged
after_label j i say.Silent = j
after_label j i (say.Excepted e) = record j { excepted = j.excepted + 1; last_excepted = e }
after_label j i (say.Wave w) = record j { waves = w; source = w }
after_label j i say.Enter = with_members (in_visit i (cause_of (setup_of j).causes i ((member j i).visits + 1))) j
after_label j i say.Turn = with_members (in_phase i Gone) j
after_label j i say.Arrive = with_members (in_phase i Counted) j
after_label j i say.Late = with_members (in_phase i Gone) j
after_label j i say.Quit = with_members (in_phase i Gone) j
after_label j i say.Report = with_members (in_phase i Here) j
after_label j i (say.Run n result S) = running i result S (with_members (with_run (setup_of j) i (result, S)) j)
after_label j i say.Depart = with_members (with_departure i) j
after_label j i (say.Resume how) = with_members (with_resume i) j
after_label j i say.Off = with_members (in_phase i Off) j
after_label j i l = after_heading j i l

-- the label changes the machine where its rule holds
abbrev pub after_verdict : Bool → Judged → Judged → Judged
after_verdict true old new = new
after_verdict false old new = old

abbrev pub accepted : Judged → ℕ → Label → Judged
accepted j i l = after_verdict (verdict j i l) j (after_label j i l)
