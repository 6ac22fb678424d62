-- A program keeps its bounds: while things change hands, and after its event.
use Rattle.std.proofs.Common.{◌≡◌, ◌<◌, ◌+◌, ◌∙◌, ℕ, zero, suc, ◌==◌, ◌&&◌, ◌||◌, Bool, true, false, length, Option, Some, None, refl, ap, subst, sym, arith}
use Rattle.std.proofs.lemmas.Bool.{and_parts, eqb-true}
use Rattle.std.proofs.lemmas.List.{length-set, length-replicate}
use Rattle.std.specs.Prelude.{nat_lt, nat_le, slice_set, option_map, if◌then◌else◌, replicate, is_some, IfSome, IsSome, IsTrue}
use Rattle.smm_base.specs.declared.kinds.MapKind.{MapKind}
use Rattle.smm_base.specs.declared.kinds.MapKind.TheVariants.{Ia32, Intel64}
use Rattle.save_state_map.specs.Images.{ImageContents}
use Rattle.cpu_regs.specs.Registers.{Registers}
use Rattle.cpu_table.specs.Data.{SetupData}
use Rattle.cpu_table.specs.declared.setup.Mode.{Mode}
use Rattle.cpu_table.specs.declared.setup.Mode.TheVariants.{Traditional, Relaxed}
use Rattle.sync_words.specs.declared.access.Applied.{Applied}
use Rattle.sync_words.specs.declared.access.TheConstants.{LOCKED}
use Rattle.sync_words.specs.declared.event.Hand.{Hand}
use Rattle.sync_words.specs.declared.event.Hand.TheVariants.{Nothing, Give, Take}
use Rattle.sync_words.specs.declared.label.Label.TheVariants as say
use Rattle.sync_words.specs.declared.row.Row.{Row}
use Rattle.sync_words.specs.declared.row.Row.TheVariants as row
use Rattle.sync_words.specs.declared.signal.TheConstants.{DELIVERABLE}
use Rattle.sync_words.specs.Steps.{Taken, says, hand_of, found_of, Accepts, next_below}
use Rattle.arrival.specs.Entry as entry
use Rattle.arrival.specs.Gather as gather
use Rattle.arrival.specs.Report as report
use Rattle.arrival.specs.Rounds.{is_last_look}
use Rattle.arrival.specs.Laws.{IsAfterEntry, IsAfterReport}
use Rattle.arrival.proofs.EntryBounds as entry_bounds
use Rattle.arrival.proofs.GatherBounds as gather_bounds
use Rattle.arrival.proofs.ReportBounds as report_bounds
use Rattle.arrival.proofs.EntryLemmas.{entry_leaves_to}
use Rattle.arrival.proofs.GatherLemmas.{gathering_leaves_to}
use Rattle.arrival.proofs.ReportLemmas.{report_leaves_to}
use Rattle.exit_handshake.specs.Close as close
use Rattle.exit_handshake.specs.Exit as exit
use Rattle.exit_handshake.proofs.CloseLemmas.{close_stays, close_leaves}
use Rattle.exit_handshake.proofs.ExitLemmas.{exit_stays, exit_leaves, exit_begins}
use Rattle.exit_handshake.proofs.NextLemmas.{next_is, row_or_is}
use Rattle.handler_ops.specs.declared.desk.Desk.{Desk}
use Rattle.handler_ops.specs.Course.{Desks}
use Rattle.handler_ops.specs.Sessions.{Session, begun_session}
use Rattle.handler_ops.specs.Told.{handed_as}
use Rattle.handler_ops.specs.Answering.{HasTold, taken_off, move_as, kept_as, told_on, answered}
use Rattle.cpu_program.specs.declared.cargo.Cargo.TheVariants.{Desk as DeskCargo, Chair as ChairCargo}
use Rattle.cpu_program.specs.Actors.{Processor, Actor, OfProcessor, OfChipset, Cargo, Part, Between, Entering, Gathering, Closing, Serving, Exiting, Reporting, Off}
use Rattle.chipset.specs.Bounds.{IsPlatform}
use Rattle.cpu_program.specs.Bounds.{IsRow, IsServing, IsPart, IsOfKind, AreOfKind, HasProcessors, IsKept, Keeps, IsProcessor, IsActor}
use Rattle.cpu_program.specs.Hands.{is_kind, desk_left, after_receiving}
use Rattle.cpu_program.specs.Processors.{want_in, can_serve, own_desk, desks_held, is_elected, between, go_on, begin_exit, after_source, after_jobs, owes_job, to_jobs, with_need, serve_on, begin_serving, at_row, taken_serving, next_cause, desk_saved, entered, resumed, work_row, taken_at, left_to, known_bsp, entry_taken, gather_taken, close_taken, exit_taken, report_taken, taken_in, job_to_run}
use Rattle.cpu_program.specs.Programs.{want_of, given_by_hand, given, received_by_hand, received, taken, first_processor, first_actor, is_processor}
use Rattle.cpu_program.proofs.KindLemmas.{set_kind, saved_kind, off_kind, off_len, handed_kind, handed_len, answered_kind, answered_len}
use Rattle.cpu_program.proofs.WantLemmas.{Moves, moves_give, moves_take, chair_moves, held_moves, lt_of}
use Rattle.chipset.proofs.StepLemmas.{begins, chipset_stays}

-- WHAT IS KEPT

with_desks : {d : SetupData} {me bsp v : ℕ} {held : Desks} {r : Registers} {m : ImageContents} {s : Option Session} (desks : Desks) → IsKept d me bsp v held r m s
    → length desks ≡ length held → AreOfKind d.kind desks → IsKept d me bsp v desks r m s
with_desks desks h len kinds =
    record {
      platform = h.platform;
      own = h.own;
      bsp = h.bsp;
      visits = h.visits;
      held = len ∙ h.held;
      kinds = kinds;
      registers = h.registers;
      last = h.last;
      chair = h.chair;
    }

with_session : {d : SetupData} {me bsp v : ℕ} {held : Desks} {r : Registers} {m : ImageContents} {s : Option Session} (to : Option Session) → IsKept d me bsp v held r m s
    → IfSome to (HasProcessors d.processors) → IsKept d me bsp v held r m to
with_session to h chair =
    record {
      platform = h.platform;
      own = h.own;
      bsp = h.bsp;
      visits = h.visits;
      held = h.held;
      kinds = h.kinds;
      registers = h.registers;
      last = h.last;
      chair = chair;
    }

-- HANDS

gave : (p : Processor) (k : ℕ) (b : Bool) → (k == p.setup.processors) ≡ b → IsProcessor p → Moves (hand_of (want_in p.part p)) k
    → IsProcessor (if b then record p { chair = None } else desk_left p k)
gave p k true e h m = record { kept = with_session None h.kept tt; part = chair_moves p.part p k None m (eqb-true k p.setup.processors e) h.part }
gave p k false e h m =
    record {
      kept = with_desks (slice_set p.held k None) h.kept (length-set p.held k None) (set_kind p.setup.kind p.held k None h.kept.kinds tt);
      part = held_moves p.part p k (slice_set p.held k None) m h.part;
    }

given_by : (p : Processor) (hand : Hand) → hand_of (want_in p.part p) ≡ hand → IsProcessor p → IsProcessor (given_by_hand hand p)
given_by p Nothing e h = h
given_by p (Give k) e h = gave p k (k == p.setup.processors) refl h (moves_give (hand_of (want_in p.part p)) k e)
given_by p (Take k) e h = h

pub given_stays : (a : Actor) → IsActor a → IsActor (given a)
given_stays (OfProcessor p) h = given_by p (hand_of (want_in p.part p)) refl h
given_stays (OfChipset c) h = h

kind_of : (a b : MapKind) → is_kind a b ≡ true → a ≡ b
kind_of Ia32 Ia32 h = refl
kind_of Intel64 Intel64 h = refl
kind_of Ia32 Intel64 h = absurd cc
kind_of Intel64 Ia32 h = absurd cc

got_desk : (p : Processor) (k : ℕ) (desk : Desk) (b : Bool) → is_kind desk.image.kind p.setup.kind ≡ b → IsProcessor p → Moves (hand_of (want_in p.part p)) k
    → IsProcessor (if b then record p { held = slice_set p.held k (Some desk) } else p)
got_desk p k desk true e h m =
    record {
      kept =
          with_desks (slice_set p.held k (Some desk)) h.kept (length-set p.held k (Some desk))
          (set_kind p.setup.kind p.held k (Some desk) h.kept.kinds (kind_of desk.image.kind p.setup.kind e));
      part = held_moves p.part p k (slice_set p.held k (Some desk)) m h.part;
    }
got_desk p k desk false e h m = h

got_chair : (p : Processor) (k : ℕ) (s : Session) (b : Bool) → (k == p.setup.processors && s.setup.processors == p.setup.processors) ≡ b → IsProcessor p
    → Moves (hand_of (want_in p.part p)) k → IsProcessor (if b then record p { chair = Some s } else p)
got_chair p k s true e h m =
    let both = and_parts (k == p.setup.processors) (s.setup.processors == p.setup.processors) e in
    record {
      kept = with_session (Some s) h.kept (eqb-true s.setup.processors p.setup.processors both.1);
      part = chair_moves p.part p k (Some s) m (eqb-true k p.setup.processors both.0) h.part;
    }
got_chair p k s false e h m = h

got : (p : Processor) (k : ℕ) (cargo : Cargo) → IsProcessor p → Moves (hand_of (want_in p.part p)) k → IsProcessor (after_receiving p k cargo)
got p k (DeskCargo desk) h m = got_desk p k desk (is_kind desk.image.kind p.setup.kind) refl h m
got p k (ChairCargo s) h m = got_chair p k s (k == p.setup.processors && s.setup.processors == p.setup.processors) refl h m

received_by : (p : Processor) (hand : Hand) (cargo : Cargo) → hand_of (want_in p.part p) ≡ hand → IsProcessor p → IsProcessor (received_by_hand hand cargo p)
received_by p Nothing cargo e h = h
received_by p (Give k) cargo e h = got p k cargo h (moves_give (hand_of (want_in p.part p)) k e)
received_by p (Take k) cargo e h = got p k cargo h (moves_take (hand_of (want_in p.part p)) k e)

pub received_stays : (cargo : Cargo) (a : Actor) → IsActor a → IsActor (received cargo a)
received_stays cargo (OfProcessor p) h = received_by p (hand_of (want_in p.part p)) cargo refl h
received_stays cargo (OfChipset c) h = h

-- GOING ON

-- the rows that a processor goes on at, but for that of serving, and with it
abbrev IsStart : Row → SetupData → ℕ → Type 0
IsStart row.LookAtSource d v = Unit {0}
IsStart row.LookAtExcept d v = Unit {0}
IsStart row.MarkInsync d v = Unit {0}
IsStart (row.AwaitInside looks) d v = Unit {0}
IsStart r d v = IsRow r d v

abbrev IsNext : Row → SetupData → ℕ → Type 0
IsNext row.Serve d v = Unit {0}
IsNext r d v = IsStart r d v

go_on_stays : (r : Row) (p : Processor) → Keeps p → IsStart r p.setup p.visits → IsProcessor (go_on r p)
go_on_stays row.LookAtSource p h k =
    let few = h.platform.few.1 in
    record { kept = h; part = (record { one_of_them = h.own; few = few }, record { same = refl; here = refl }) }
go_on_stays row.LookAtExcept p h k =
    record {
      kept = h;
      part =
          (record { one_of_them = h.own; few = h.platform.few.1; first = h.platform.first; second = h.platform.second; at_row = tt }, record { same = refl; here = refl });
    }
go_on_stays row.MarkInsync p h k =
    record { kept = h; part = (record { few = h.platform.few.1; own = h.own; row = tt }, record { same = refl; here = refl }) }
go_on_stays (row.AwaitInside looks) p h k =
    let some = h.platform.few.0 in
    let first = h.platform.first.0 in
    record {
      kept = h;
      part = (
        record {
          one_of_them = h.own;
          few = h.platform.few.1;
          first = h.platform.first;
          second = h.platform.second;
          bsp = omega (arith, some);
          at_row = omega (arith, first);
        },
        record { same = refl; here = refl },
      );
    }
go_on_stays r p h k = record { kept = h; part = k }

jobs_after : (mode : Mode) (d : SetupData) (v : ℕ) → IsStart (after_jobs mode) d v
jobs_after Traditional d v = tt
jobs_after Relaxed d v = tt

source_after : (mode : Mode) (d : SetupData) (v : ℕ) → IsNext (after_source mode) d v
source_after Traditional d v = tt
source_after Relaxed d v = tt

jobs_row : (from : ℕ) (p : Processor) → IsStart (to_jobs from p) p.setup p.visits
jobs_row from p =
    row_or_is (λ r. IsStart r p.setup p.visits) row.CollectJob (after_jobs p.setup.mode) (λ j. (j < p.setup.processors) × IsTrue (owes_job p.chair j))
    (next_below p.setup.processors (owes_job p.chair) from) (next_is p.setup.processors (owes_job p.chair) from) (λ j h. h.0)
    (jobs_after p.setup.mode p.setup p.visits)

need_stays : (s : Session) (p : Processor) (b : Bool) → can_serve p.setup.processors s.told p.held ≡ b → Keeps p → p.chair ≡ Some s → HasTold s
    → IsProcessor (with_need b p)
need_stays s p true e h is told =
    record { kept = h; part = subst (λ (c : Option Session). IsServing p.setup.processors c p.held) (sym is) (told, e) }
need_stays s p false e h is told = go_on_stays (to_jobs 0 p) p h (jobs_row 0 p)

serve_stays : (s : Session) (p : Processor) → HasProcessors p.setup.processors s → Keeps p → IsProcessor (serve_on s p)
serve_stays s p same h =
    let t = told_on p.held s in
    let held = handed_as t.told p.held in
    need_stays t (record p { chair = Some t; held = held }) (can_serve p.setup.processors t.told held) refl
    (with_session (Some t) (with_desks held h (handed_len t.told p.held) (handed_kind p.setup.kind t.told p.held h.kinds)) same) refl
    (record { held = p.held; told = refl })

begin_stays : (chair : Option Session) (p : Processor) → IfSome chair (HasProcessors p.setup.processors) → Keeps p → IsProcessor (begin_serving chair p)
begin_stays None p same h = go_on_stays (after_jobs p.setup.mode) p h (jobs_after p.setup.mode p.setup p.visits)
begin_stays (Some s) p same h = serve_stays (begun_session p.me p.wave s) p same h

at_row_stays : (r : Row) (p : Processor) → Keeps p → IsNext r p.setup p.visits → IsProcessor (at_row r p)
at_row_stays row.Serve p h k = begin_stays p.chair p h.chair h
at_row_stays r p h k = go_on_stays r p h k

left_stays : (o : Option Row) (p : Processor) → Keeps p → (o ≡ None → IsPart p.part p.setup p.visits p.chair p.held) → IfSome o (λ r. IsNext r p.setup p.visits) → IsProcessor (left_to o p)
left_stays None p h here next = record { kept = h; part = here refl }
left_stays (Some r) p h here next = at_row_stays r p h next

-- THE ROWS BETWEEN

exit_goes_on : (p : exit.ExitPosition) → exit.left_of (exit.to_releases p 0) ≡ None
exit_goes_on p =
    row_or_is (λ r. exit.left_of r ≡ None) row.Release (exit.to_released p (exit.ap_count p)) (λ j. Unit {0}) (next_below p.processors (exit.is_ap p) 0)
    (any (next_below p.processors (exit.is_ap p) 0)) (λ j h. refl) (released (exit.ap_count p == 0))
  where
    any : (o : Option ℕ) → IfSome o (λ j. Unit {0})
    any None = tt
    any (Some j) = tt

    rounds : (b : Bool) → exit.left_of (exit.after_rounds b) ≡ None
    rounds true = refl
    rounds false = refl

    dismissed : (b : Bool) → exit.left_of (if b then exit.after_rounds p.elected else row.AwaitDismissed (exit.ap_count p)) ≡ None
    dismissed true = rounds p.elected
    dismissed false = refl

    dismissals : exit.left_of (exit.to_dismissals p 0) ≡ None
    dismissals =
        row_or_is (λ r. exit.left_of r ≡ None) row.Dismiss (exit.to_dismissed p (exit.ap_count p)) (λ j. Unit {0}) (next_below p.processors (exit.is_ap p) 0)
        (any (next_below p.processors (exit.is_ap p) 0)) (λ j h. refl) (dismissed (exit.ap_count p == 0))

    released : (b : Bool) → exit.left_of (if b then exit.to_dismissals p 0 else row.AwaitReleased (exit.ap_count p)) ≡ None
    released true = dismissals
    released false = refl

exit_stays_at : (p : Processor) → Keeps p → IsProcessor (begin_exit p)
exit_stays_at p h =
    let at : exit.ExitPosition = exit.exit_at p.setup.processors p.me (desks_held p.held) (is_elected p.setup.policy) row.AwaitSessionEnd in
    record {
      kept = h;
      part =
          (exit_begins at (exit.to_releases at 0) refl (record { few = h.platform.few.1; own = h.own; row = tt }), record { same = refl; here = exit_goes_on at });
    }

entered_stays : (p : Processor) → Keeps p → p.visits < p.setup.visits → IsProcessor (entered p)
entered_stays p h less =
    let f = desk_saved p.registers (next_cause p) in
    go_on_stays row.LookAtSource
    (record p { visits = p.visits + 1; held = slice_set p.held p.me (option_map f (own_desk p)) })
    (record {
      platform = h.platform;
      own = h.own;
      bsp = h.bsp;
      visits = omega (arith, less);
      held = length-set p.held p.me (option_map f (own_desk p)) ∙ h.held;
      kinds = saved_kind p.setup.kind p.held p.me p.registers (next_cause p) h.kinds;
      registers = h.registers;
      last = h.last;
      chair = h.chair;
    }) tt

smi_stays : (p : Processor) (b : Bool) → Keeps p → p.visits < p.setup.visits → IsProcessor (if b then says say.Enter (entered p) else says say.Off (record p { part = Off })).after
smi_stays p true h less = entered_stays p h less
smi_stays p false h less = record { kept = h; part = tt }

await_row : (p : Processor) (b : Bool) → nat_le p.setup.visits p.visits ≡ b → IsRow (if b then row.SwitchOff else row.AwaitSmi) p.setup p.visits
await_row p true e = tt
await_row p false e = grind arith

resumed_stays : (o : Option Desk) (p : Processor) → Keeps p → IfSome o (IsOfKind p.setup.kind) → IsProcessor (resumed o p)
resumed_stays None p h kind = record { kept = h; part = await_row p (nat_le p.setup.visits p.visits) refl }
resumed_stays (Some desk) p h kind =
    record {
      kept =
          record {
            platform = h.platform;
            own = h.own;
            bsp = h.bsp;
            visits = h.visits;
            held = h.held;
            kinds = h.kinds;
            registers = kind;
            last = kind;
            chair = h.chair;
          };
      part = await_row p (nat_le p.setup.visits p.visits) refl;
    }

work_stays : (p : Processor) (b : Bool) → Keeps p → IsProcessor (between (work_row b) p)
work_stays p true h = record { kept = h; part = tt }
work_stays p false h = record { kept = h; part = tt }

row_stays : (r : Row) (p : Processor) (found : ℕ) → Keeps p → IsRow r p.setup p.visits → IsPart p.part p.setup p.visits p.chair p.held → IsProcessor (taken_at r p found).after
row_stays row.AwaitSmi p found h k here = smi_stays p (found == DELIVERABLE) h k
row_stays row.SwitchOff p found h k here = record { kept = h; part = tt }
row_stays row.MarkInside p found h k here = record { kept = h; part = tt }
row_stays row.TakeSource p found h k here = at_row_stays (after_source p.setup.mode) (record p { wave = found }) h (source_after p.setup.mode p.setup p.visits)
row_stays (row.CollectJob cpu) p found h k here =
    go_on_stays (to_jobs (cpu + 1) p) (record p { held = taken_off cpu p.held })
    (with_desks (taken_off cpu p.held) h (off_len cpu p.held) (off_kind p.setup.kind cpu p.held h.kinds)) (jobs_row (cpu + 1) p)
row_stays row.LeaveInside p found h k here = exit_stays_at p h
row_stays row.AwaitRelease p found h k here = work_stays p (job_to_run p.setup (own_desk p)) h
row_stays row.GiveDeskBack p found h k here = record { kept = h; part = tt }
row_stays row.TellReleased p found h k here = record { kept = h; part = tt }
row_stays row.AwaitDismissal p found h k here = record { kept = h; part = tt }
row_stays row.WithdrawReport p found h k here = record { kept = h; part = tt }
row_stays row.TellDismissed p found h k here = record { kept = h; part = tt }
row_stays row.AwaitSessionEnd p found h k here = record { kept = h; part = tt }
row_stays row.ClearSignal p found h k here = resumed_stays (own_desk p) p h (h.kinds p.me)
row_stays _ p found h k here = absurd k

-- THE PARTS

weaken : (o : Option Row) (P Q : Row → Type 0) → ((r : Row) → P r → Q r) → IfSome o P → IfSome o Q
weaken None P Q f h = tt
weaken (Some r) P Q f h = f r h

entry_either : (b : Bool) (s t : Taken entry.EntryPosition) (n : ℕ) → s.after.processors ≡ n → t.after.processors ≡ n → (if b then s else t).after.processors ≡ n
entry_either true s t n d e = d
entry_either false s t n d e = e

entry_elected : (b : Bool) (e : entry.EntryPosition) → (entry.elected b e).after.processors ≡ e.processors
entry_elected true e = refl
entry_elected false e = refl

entry_same : (r : Row) (e : entry.EntryPosition) (found : ℕ) → (entry.taken r e found).after.processors ≡ e.processors
entry_same row.LookAtSource e found = refl
entry_same row.LookAtInside e found = entry_either (e.source == 0 && found == 0) _ _ e.processors refl refl
entry_same row.CountIn e found = entry_either (found == LOCKED) _ _ e.processors refl refl
entry_same row.ClaimBsp e found = entry_elected (found == LOCKED) e
entry_same row.LookAtBsp e found = entry_elected (found == e.me) e
entry_same _ e found = refl

entry_next : (d : SetupData) (v : ℕ) (r : Row) → IsAfterEntry r → IsNext r d v
entry_next d v row.MarkInside h = tt
entry_next d v (row.AwaitInside looks) h = tt
entry_next d v row.AwaitSessionEnd h = tt
entry_next d v _ h = absurd h

entry_stays : (e : entry.EntryPosition) (p : Processor) (found : ℕ) → Keeps p → IsPart (Entering e) p.setup p.visits p.chair p.held → IsProcessor (entry_taken (entry.taken e.row e found) p).after
entry_stays e p found h k =
    let t = entry.taken e.row e found in
    left_stays (entry.left_of t.after.row) (record p { part = Entering t.after }) h
    (λ here. (entry_bounds.stays_within e found k.0, record { same = entry_same e.row e found ∙ k.1.same; here = here }))
    (weaken (entry.left_of t.after.row) IsAfterEntry (λ r. IsNext r p.setup p.visits) (entry_next p.setup p.visits) (entry_leaves_to e.row e found k.1.here))

gather_looked : (b last : Bool) (counted round : ℕ) (again after : Row) (g : gather.GatherPosition) → (gather.looked b last counted round again after g).after.processors ≡ g.processors
gather_looked true last counted round again after g = refl
gather_looked false true counted round again after g = refl
gather_looked false false counted round again after g = refl

gather_same : (r : Row) (g : gather.GatherPosition) (found : ℕ) → (gather.taken r g found).after.processors ≡ g.processors
gather_same row.LookAtExcept g found = refl
gather_same (row.GatherFirst looks) g found =
    gather_looked (gather.have_come g.processors g.blocked found) (is_last_look looks g.first_looks) found 1 (row.GatherFirst (looks + 1)) (gather.to_missing g.processors g.me 0) g
gather_same (row.FindMissing j) g found = refl
gather_same (row.SignalMissing j) g found = refl
gather_same (row.GatherSecond looks) g found =
    gather_looked (gather.have_come g.processors g.blocked found) (is_last_look looks g.second_looks) found 2 (row.GatherSecond (looks + 1)) row.MarkInsync g
gather_same _ g found = refl

gather_next : (d : SetupData) (v : ℕ) (r : Row) → r ≡ row.MarkInsync → IsNext r d v
gather_next d v r e = subst (λ x. IsNext x d v) (sym e) tt

gather_stays : (g : gather.GatherPosition) (p : Processor) (found : ℕ) → Keeps p → IsPart (Gathering g) p.setup p.visits p.chair p.held → IsProcessor (gather_taken (gather.taken g.row g found) p).after
gather_stays g p found h k =
    let t = gather.taken g.row g found in
    left_stays (gather.left_of t.after.row) (record p { part = Gathering t.after }) h
    (λ here. (gather_bounds.stays_within g found k.0, record { same = gather_same g.row g found ∙ k.1.same; here = here }))
    (weaken (gather.left_of t.after.row) (λ r. r ≡ row.MarkInsync) (λ r. IsNext r p.setup p.visits) (gather_next p.setup p.visits) (gathering_leaves_to g.row g found k.1.here))

close_same : (r : Row) (c : close.ClosePosition) (found : ℕ) → (close.taken r c found).after.processors ≡ c.processors
close_same row.MarkInsync c found = refl
close_same row.LockCounter c found = refl
close_same (row.AwaitReports left) c found = refl
close_same (row.TakeDesk cpu) c found = refl
close_same _ c found = refl

closed_row : (d : SetupData) (v : ℕ) (b : Bool) → IsNext (close.after_close b) d v
closed_row d v true = tt
closed_row d v false = tt

close_next : (d : SetupData) (v : ℕ) (b : Bool) (r : Row) → r ≡ close.after_close b → IsNext r d v
close_next d v b r e = subst (λ x. IsNext x d v) (sym e) (closed_row d v b)

close_part : (c : close.ClosePosition) (p : Processor) (found : ℕ) → Keeps p → IsPart (Closing c) p.setup p.visits p.chair p.held → IsProcessor (close_taken (close.taken c.row c found) p).after
close_part c p found h k =
    let t = close.taken c.row c found in
    let on = close_stays c found k.0 in
    left_stays (close.left_of t.after.row) (record p { part = Closing t.after }) h
    (λ here. (on, record { same = close_same c.row c found ∙ k.1.same; here = here }))
    (weaken (close.left_of t.after.row) (λ r. r ≡ close.after_close t.after.relaxed) (λ r. IsNext r p.setup p.visits) (close_next p.setup p.visits t.after.relaxed) (close_leaves t.after on))

exit_same : (r : Row) (e : exit.ExitPosition) (found : ℕ) → (exit.taken r e found).after.processors ≡ e.processors
exit_same (row.Release cpu) e found = refl
exit_same (row.AwaitReleased left) e found = refl
exit_same (row.Dismiss cpu) e found = refl
exit_same (row.AwaitDismissed left) e found = refl
exit_same row.GiveBsp e found = refl
exit_same row.LeaveInsync e found = refl
exit_same row.UnlockCounter e found = refl
exit_same _ e found = refl

exit_next : (d : SetupData) (v : ℕ) (r : Row) → r ≡ row.AwaitSessionEnd → IsNext r d v
exit_next d v r e = subst (λ x. IsNext x d v) (sym e) tt

exit_part : (e : exit.ExitPosition) (p : Processor) (found : ℕ) → Keeps p → IsPart (Exiting e) p.setup p.visits p.chair p.held → IsProcessor (exit_taken (exit.taken e.row e found) p).after
exit_part e p found h k =
    let t = exit.taken e.row e found in
    let on = exit_stays e found k.0 in
    left_stays (exit.left_of t.after.row) (record p { part = Exiting t.after }) h
    (λ here. (on, record { same = exit_same e.row e found ∙ k.1.same; here = here }))
    (weaken (exit.left_of t.after.row) (λ r. r ≡ row.AwaitSessionEnd) (λ r. IsNext r p.setup p.visits) (exit_next p.setup p.visits) (exit_leaves t.after on))

report_either : (b : Bool) (s t : Taken report.ReportPosition) (n : ℕ) → s.after.processors ≡ n → t.after.processors ≡ n → (if b then s else t).after.processors ≡ n
report_either true s t n d e = d
report_either false s t n d e = e

report_found : (b : Bool) (s t : report.ReportPosition) (n : ℕ) → s.processors ≡ n → t.processors ≡ n → (if b then s else t).processors ≡ n
report_found true s t n d e = d
report_found false s t n d e = e

report_same : (r : Row) (q : report.ReportPosition) (found : ℕ) → (report.taken r q found).after.processors ≡ q.processors
report_same (row.AwaitInside looks) q found = refl
report_same row.FindBsp q found = report_found (nat_lt found q.processors) _ _ q.processors refl refl
report_same row.SignalBsp q found = refl
report_same (row.AwaitInsideAgain looks) q found = refl
report_same row.CountOut q found = report_either (found == LOCKED) _ _ q.processors refl refl
report_same row.SeekBsp q found = refl
report_same row.Report q found = refl
report_same row.TellReported q found = refl
report_same _ q found = refl

report_next : (d : SetupData) (v : ℕ) (r : Row) → IsAfterReport r → IsNext r d v
report_next d v row.AwaitRelease h = tt
report_next d v row.AwaitSessionEnd h = tt
report_next d v _ h = absurd h

known_below : (r : Row) (bsp n : ℕ) → bsp < n → IfSome (report.bsp_of r bsp) (λ b. b < n)
known_below row.Report bsp n h = h
known_below row.TellReported bsp n h = h
known_below row.AwaitRelease bsp n h = h
known_below _ bsp n h = tt

known_stays : (o : Option ℕ) (left : Option Row) (p : Processor) → Keeps p → IfSome o (λ b. b < p.setup.processors)
    → (left ≡ None → IsPart p.part p.setup p.visits p.chair p.held) → IfSome left (λ r. IsNext r p.setup p.visits) → IsProcessor (left_to left (known_bsp o p))
known_stays None left p h below here next = left_stays left p h here next
known_stays (Some b) left p h below here next =
    left_stays left (record p { bsp = b })
    (record {
      platform = h.platform;
      own = h.own;
      bsp = below;
      visits = h.visits;
      held = h.held;
      kinds = h.kinds;
      registers = h.registers;
      last = h.last;
      chair = h.chair;
    }) here next

report_part : (q : report.ReportPosition) (p : Processor) (answer : Applied) → Keeps p → IsPart (Reporting q) p.setup p.visits p.chair p.held → Accepts (report.want_of q.row q) answer
    → IsProcessor (report_taken (report.taken q.row q (found_of answer)) p).after
report_part q p answer h k accepted =
    let t = report.taken q.row q (found_of answer) in
    let on = report_bounds.stays_within q answer k.0 accepted in
    let same = report_same q.row q (found_of answer) ∙ k.1.same in
    let below = on.bsp in
    known_stays (report.bsp_of t.after.row t.after.bsp) (report.left_of t.after.row) (record p { part = Reporting t.after }) h
    (known_below t.after.row t.after.bsp p.setup.processors (subst (λ n. t.after.bsp < n) same below))
    (λ here. (on, record { same = same; here = here }))
    (weaken (report.left_of t.after.row) IsAfterReport (λ r. IsNext r p.setup p.visits) (report_next p.setup p.visits) (report_leaves_to q.row q (found_of answer) k.1.here))

serving_part : (chair : Option Session) (p : Processor) (found : ℕ) → Keeps p → IfSome chair (HasProcessors p.setup.processors) → IsServing p.setup.processors chair p.held
    → IsProcessor (taken_serving chair p found).after
serving_part None p found h same k = absurd k
serving_part (Some s) p found h same k =
    serve_stays (answered (move_as s found p.held) p.held s) (record p { held = kept_as s.told found p.held }) same
    (with_desks (kept_as s.told found p.held) h (answered_len s.told found p.held) (answered_kind p.setup.kind s.told found p.held h.kinds))

part_stays : (part : Part) (p : Processor) (answer : Applied) → Keeps p → IsPart p.part p.setup p.visits p.chair p.held → IsPart part p.setup p.visits p.chair p.held
    → Accepts (want_in part p) answer → IsProcessor (taken_in part p (found_of answer)).after
part_stays (Between r) p answer h here k accepted = row_stays r p (found_of answer) h k here
part_stays (Entering e) p answer h here k accepted = entry_stays e p (found_of answer) h k
part_stays (Gathering g) p answer h here k accepted = gather_stays g p (found_of answer) h k
part_stays (Closing c) p answer h here k accepted = close_part c p (found_of answer) h k
part_stays Serving p answer h here k accepted = serving_part p.chair p (found_of answer) h h.chair k
part_stays (Exiting e) p answer h here k accepted = exit_part e p (found_of answer) h k
part_stays (Reporting q) p answer h here k accepted = report_part q p answer h k accepted
part_stays Off p answer h here k accepted = absurd accepted

-- AN ACTOR

pub taken_stays : (a : Actor) (answer : Applied) → IsActor a → Accepts (want_of a) answer → IsActor (taken a (found_of answer)).after
taken_stays (OfProcessor p) answer h accepted = part_stays p.part p answer h.kept h.part h.part accepted
taken_stays (OfChipset c) answer h accepted = chipset_stays c (found_of answer) h

-- THE START

none_kind : (kind : MapKind) (n : ℕ) → AreOfKind kind (replicate n None)
none_kind kind zero c = tt
none_kind kind (suc n) zero = tt
none_kind kind (suc n) (suc c) = none_kind kind n c

first_stays : (d : SetupData) (me : ℕ) (image : ImageContents) (registers : Registers) (chair : Option Session) → IsPlatform d → me < d.processors → image.kind ≡ d.kind
    → registers.kind ≡ d.kind → IfSome chair (HasProcessors d.processors) → IsProcessor (first_processor d me image registers chair)
first_stays d me image registers chair platform own kind kinds same =
    let some = platform.few.0 in
    let visits = platform.visits.0 in
    let desk : Option Desk = Some (record { image = image; job = None }) in
    record {
      kept =
          record {
            platform = platform;
            own = own;
            bsp = omega (arith, some);
            visits = omega (arith, visits);
            held = length-set (replicate d.processors None) me desk ∙ length-replicate d.processors None;
            kinds = set_kind d.kind (replicate d.processors None) me desk (none_kind d.kind d.processors) kind;
            registers = kinds;
            last = kind;
            chair = same;
          };
      part = omega (arith, visits);
    }

pub actor_stays : (d : SetupData) (actor : ℕ) (start : Option ImageContents) (regs : Option Registers) (chair : Option Session) → IsPlatform d
    → (IsSome start → actor < d.processors) → IfSome start (λ image. image.kind ≡ d.kind) → IfSome regs (λ registers. registers.kind ≡ d.kind)
    → IfSome chair (HasProcessors d.processors) → IsActor (first_actor d actor start regs chair)
actor_stays d actor (Some image) (Some registers) chair platform own kind kinds same = first_stays d actor image registers chair platform (own refl) kind kinds same
actor_stays d actor None regs chair platform own kind kinds same = begins d platform
actor_stays d actor (Some image) None chair platform own kind kinds same = begins d platform

pub own_actor : (start : Option ImageContents) (n actor : ℕ) → is_some start ≡ is_processor n actor → IsSome start → actor < n
own_actor start n actor e h = lt_of actor n (sym e ∙ h)

pub chair_same : (o : Option Session) (d : SetupData) → IfSome o (λ s. s.setup ≡ d) → IfSome o (HasProcessors d.processors)
chair_same None d h = tt
chair_same (Some s) d h = ap (λ (x : SetupData). x.processors) h
