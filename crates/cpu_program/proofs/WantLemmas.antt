-- What a program wants is within bounds, and stays while things change hands.
use Rattle.std.proofs.Common.{◌≡◌, ◌<◌, ◌≤◌, ℕ, ◌==◌, ◌&&◌, Bool, true, false, Option, Some, None, refl, subst, sym, arith}
use Rattle.std.proofs.lemmas.Bool.{and_from, and_parts, eqb-true}
use Rattle.std.specs.Prelude.{nat_lt, slice_set, if◌then◌else◌}
use Rattle.sync_words.specs.declared.event.Hand.{Hand}
use Rattle.sync_words.specs.declared.event.Hand.TheVariants.{Nothing, Give, Take}
use Rattle.sync_words.specs.declared.row.Row.{Row}
use Rattle.sync_words.specs.declared.row.Row.TheVariants as row
use Rattle.sync_words.specs.Steps.{IsWantWithin, hand_of}
use Rattle.arrival.specs.Entry as entry
use Rattle.arrival.specs.Gather as gather
use Rattle.arrival.specs.Report as report
use Rattle.arrival.proofs.EntryBounds as entry_bounds
use Rattle.arrival.proofs.GatherBounds as gather_bounds
use Rattle.arrival.proofs.ReportBounds as report_bounds
use Rattle.exit_handshake.specs.Close as close
use Rattle.exit_handshake.specs.Exit as exit
use Rattle.exit_handshake.proofs.CloseLemmas.{close_within}
use Rattle.exit_handshake.proofs.ExitLemmas.{exit_within}
use Rattle.cpu_table.specs.Data.{SetupData}
use Rattle.handler_ops.specs.declared.desk.Desk.{Desk}
use Rattle.handler_ops.specs.declared.desk.Job.{Job}
use Rattle.handler_ops.specs.declared.need.Need.{Need}
use Rattle.handler_ops.specs.declared.need.Need.TheVariants as need
use Rattle.handler_ops.specs.Course.{Desks}
use Rattle.handler_ops.specs.declared.row.Row.{Row as ServerRow}
use Rattle.handler_ops.specs.declared.row.Row.TheVariants as served
use Rattle.handler_ops.specs.Answering.{is_at_hand, IsAtHand}
use Rattle.handler_ops.specs.Sessions.{Session}
use Rattle.handler_ops.specs.Told.{need_as}
use Rattle.cpu_program.specs.Actors.{Processor, Actor, OfProcessor, OfChipset, Cargo, Part, Between, Entering, Gathering, Closing, Serving, Exiting, Reporting, Off}
use Rattle.cpu_program.specs.Bounds.{IsRow, IsServing, IsPart, IsProcessor, IsActor}
use Rattle.cpu_program.specs.Processors.{want_at, want_for, want_of_session, want_in, is_at_need, can_serve}
use Rattle.cpu_program.specs.declared.cargo.Cargo.TheVariants.{Desk as DeskCargo, Chair as ChairCargo}
use Rattle.cpu_program.specs.Hands.{is_kind, is_giving_back, ran_after, desk_left, after_receiving}
use Rattle.cpu_program.specs.Programs.{want_of, processors_of, given_by_hand, given, received_by_hand, received}
use Rattle.chipset.proofs.StepLemmas.{chipset_within}

-- WITHIN BOUNDS

row_within : (r : Row) (me bsp visits : ℕ) (d : SetupData) → me < d.processors → bsp < d.processors → IsRow r d visits → IsWantWithin d.processors (want_at r me bsp)
row_within row.AwaitSmi me bsp visits d own there h = (own, tt)
row_within row.SwitchOff me bsp visits d own there h = (own, omega arith)
row_within row.MarkInside me bsp visits d own there h = (tt, omega arith)
row_within row.TakeSource me bsp visits d own there h = (tt, omega arith)
row_within (row.CollectJob cpu) me bsp visits d own there h = (h, (omega arith, omega arith))
row_within row.LeaveInside me bsp visits d own there h = (tt, omega arith)
row_within row.AwaitRelease me bsp visits d own there h = (own, tt)
row_within row.GiveDeskBack me bsp visits d own there h = (own, omega arith)
row_within row.TellReleased me bsp visits d own there h = (there, tt)
row_within row.AwaitDismissal me bsp visits d own there h = (own, tt)
row_within row.WithdrawReport me bsp visits d own there h = (own, omega arith)
row_within row.TellDismissed me bsp visits d own there h = (there, tt)
row_within row.AwaitSessionEnd me bsp visits d own there h = (tt, (omega arith, omega arith))
row_within row.ClearSignal me bsp visits d own there h = (own, tt)
row_within _ me bsp visits d own there h = absurd h

pub lt_of : (a b : ℕ) → nat_lt a b ≡ true → a < b
lt_of a b h = grind arith

need_within : (n : ℕ) (what : Need) → is_at_need n what ≡ true → IsWantWithin n (want_for what)
need_within n need.Look h = (tt, tt)
need_within n (need.ClaimPresent c) h = (lt_of c n h, (omega arith, omega arith))
need_within n (need.ClaimBusy c) h = (lt_of c n h, (omega arith, omega arith))
need_within n (need.AwaitBusy c) h = (lt_of c n h, (omega arith, omega arith))
need_within n (need.PutBusy c) h = (lt_of c n h, omega arith)
need_within n (need.RaiseRun c) h = (lt_of c n h, tt)
need_within n need.Finished h = tt

pub at_need : (n : ℕ) (told : ServerRow) (held : Desks) → can_serve n told held ≡ true → is_at_need n (need_as told) ≡ true
at_need n told held h = (and_parts (is_at_need n (need_as told)) (is_at_hand told held) h).0

session_within : (n : ℕ) (chair : Option Session) (held : Desks) → IsServing n chair held → IsWantWithin n (want_of_session chair)
session_within n None held h = absurd h
session_within n (Some s) held h = need_within n (need_as s.told) (at_need n s.told held h.1)

part_within : (part : Part) (p : Processor) → p.me < p.setup.processors → p.bsp < p.setup.processors → IsPart part p.setup p.visits p.chair p.held
    → IsWantWithin p.setup.processors (want_in part p)
part_within (Between r) p own there h = row_within r p.me p.bsp p.visits p.setup own there h
part_within (Entering e) p own there h = subst (λ n. IsWantWithin n (entry.want_of e.row e)) h.1.same (entry_bounds.wants_within e h.0)
part_within (Gathering g) p own there h = subst (λ n. IsWantWithin n (gather.want_of g.row g)) h.1.same (gather_bounds.wants_within g h.0)
part_within (Closing c) p own there h = subst (λ n. IsWantWithin n (close.want_of c.row c)) h.1.same (close_within c h.0)
part_within Serving p own there h = session_within p.setup.processors p.chair p.held h
part_within (Exiting e) p own there h = subst (λ n. IsWantWithin n (exit.want_of e.row e)) h.1.same (exit_within e h.0)
part_within (Reporting r) p own there h = subst (λ n. IsWantWithin n (report.want_of r.row r)) h.1.same (report_bounds.wants_within r h.0)
part_within Off p own there h = tt

pub want_within : (a : Actor) → IsActor a → IsWantWithin (processors_of a) (want_of a)
want_within (OfProcessor p) h = part_within p.part p h.kept.own h.kept.bsp h.part
want_within (OfChipset c) h = chipset_within c h

-- WHILE THINGS CHANGE HANDS

-- this thing changes hands
abbrev pub Moves : Hand → ℕ → Type 0
Moves Nothing k = ⊥
Moves (Give j) k = j ≡ k
Moves (Take j) k = j ≡ k

-- while it serves only desks change hands
need_moves : (n k : ℕ) (what : Need) → is_at_need n what ≡ true → Moves (hand_of (want_for what)) k → k < n
need_moves n k need.Look h m = absurd m
need_moves n k (need.ClaimPresent c) h m = omega (arith, lt_of c n h, m)
need_moves n k (need.ClaimBusy c) h m = omega (arith, lt_of c n h, m)
need_moves n k (need.AwaitBusy c) h m = omega (arith, lt_of c n h, m)
need_moves n k (need.PutBusy c) h m = absurd m
need_moves n k (need.RaiseRun c) h m = omega (arith, lt_of c n h, m)
need_moves n k need.Finished h m = absurd m

session_moves : (n k : ℕ) (chair : Option Session) (held : Desks) → IsServing n chair held → Moves (hand_of (want_of_session chair)) k → k < n
session_moves n k None held h m = absurd h
session_moves n k (Some s) held h m = need_moves n k (need_as s.told) (at_need n s.told held h.1) m

-- where a desk moves no register is looked at
moves_no_register : (told : ServerRow) (k : ℕ) (held : Desks) → Moves (hand_of (want_for (need_as told))) k → is_at_hand told held ≡ true
moves_no_register (served.Reading c reg width) k held m = absurd m
moves_no_register (served.Writing c reg width x) k held m = absurd m
moves_no_register _ k held m = refl

session_held : (n k : ℕ) (chair : Option Session) (held to : Desks) → IsServing n chair held → Moves (hand_of (want_of_session chair)) k → IsServing n chair to
session_held n k None held to h m = absurd h
session_held n k (Some s) held to h m =
    (h.0, and_from (is_at_need n (need_as s.told)) (is_at_hand s.told to) (at_need n s.told held h.1) (moves_no_register s.told k to m))

-- where a desk moves the part stays within bounds
pub held_moves : (part : Part) (p : Processor) (k : ℕ) (to : Desks) → Moves (hand_of (want_in part p)) k → IsPart part p.setup p.visits p.chair p.held
    → IsPart part p.setup p.visits p.chair to
held_moves (Between r) p k to m h = h
held_moves (Entering x) p k to m h = h
held_moves (Gathering x) p k to m h = h
held_moves (Closing x) p k to m h = h
held_moves Serving p k to m h = session_held p.setup.processors k p.chair p.held to h m
held_moves (Exiting x) p k to m h = h
held_moves (Reporting x) p k to m h = h
held_moves Off p k to m h = h

-- where the chair moves the part has nothing to do with it
pub chair_moves : (part : Part) (p : Processor) (k : ℕ) (to : Option Session) → Moves (hand_of (want_in part p)) k → k ≡ p.setup.processors
    → IsPart part p.setup p.visits p.chair p.held → IsPart part p.setup p.visits to p.held
chair_moves (Between r) p k to m e h = h
chair_moves (Entering x) p k to m e h = h
chair_moves (Gathering x) p k to m e h = h
chair_moves (Closing x) p k to m e h = h
chair_moves Serving p k to m e h = absurd (omega (arith, e, session_moves p.setup.processors k p.chair p.held h m))
chair_moves (Exiting x) p k to m e h = h
chair_moves (Reporting x) p k to m e h = h
chair_moves Off p k to m e h = h

-- a part that isn't serving, or a chair that stays, wants the same
with_chair : (part : Part) (p : Processor) (k : ℕ) (to : Option Session) → Moves (hand_of (want_in part p)) k → k ≡ p.setup.processors
    → IsPart part p.setup p.visits p.chair p.held → want_in part (record p { chair = to }) ≡ want_in part p
with_chair (Between r) p k to m e h = refl
with_chair (Entering x) p k to m e h = refl
with_chair (Gathering x) p k to m e h = refl
with_chair (Closing x) p k to m e h = refl
with_chair Serving p k to m e h = absurd (omega (arith, e, session_moves p.setup.processors k p.chair p.held h m))
with_chair (Exiting x) p k to m e h = refl
with_chair (Reporting x) p k to m e h = refl
with_chair Off p k to m e h = refl

with_held : (part : Part) (p : Processor) (held : Desks) (ran : Option Job) → want_in part (record p { held = held; ran = ran }) ≡ want_in part p
with_held (Between r) p held ran = refl
with_held (Entering x) p held ran = refl
with_held (Gathering x) p held ran = refl
with_held (Closing x) p held ran = refl
with_held Serving p held ran = refl
with_held (Exiting x) p held ran = refl
with_held (Reporting x) p held ran = refl
with_held Off p held ran = refl

gave : (p : Processor) (k : ℕ) (b : Bool) → (k == p.setup.processors) ≡ b → IsProcessor p → Moves (hand_of (want_in p.part p)) k
    → want_of (OfProcessor (if b then record p { chair = None } else desk_left p k)) ≡ want_of (OfProcessor p)
gave p k true e h m = with_chair p.part p k None m (eqb-true k p.setup.processors e) h.part
gave p k false e h m = with_held p.part p (slice_set p.held k None) (ran_after (is_giving_back p.part) p k)

pub moves_give : (hand : Hand) (k : ℕ) → hand ≡ Give k → Moves hand k
moves_give hand k e = subst (λ (x : Hand). Moves x k) (sym e) refl

pub moves_take : (hand : Hand) (k : ℕ) → hand ≡ Take k → Moves hand k
moves_take hand k e = subst (λ (x : Hand). Moves x k) (sym e) refl

given_by : (p : Processor) (hand : Hand) → hand_of (want_in p.part p) ≡ hand → IsProcessor p → want_of (OfProcessor (given_by_hand hand p)) ≡ want_of (OfProcessor p)
given_by p Nothing e h = refl
given_by p (Give k) e h = gave p k (k == p.setup.processors) refl h (moves_give (hand_of (want_in p.part p)) k e)
given_by p (Take k) e h = refl

pub giving_keeps : (a : Actor) → IsActor a → want_of (given a) ≡ want_of a
giving_keeps (OfProcessor p) h = given_by p (hand_of (want_in p.part p)) refl h
giving_keeps (OfChipset c) h = refl

got_desk : (p : Processor) (k : ℕ) (desk : Desk) (b : Bool)
    → want_of (OfProcessor (if b then record p { held = slice_set p.held k (Some desk) } else p)) ≡ want_of (OfProcessor p)
got_desk p k desk true = with_held p.part p (slice_set p.held k (Some desk)) p.ran
got_desk p k desk false = refl

got_chair : (p : Processor) (k : ℕ) (s : Session) (b : Bool) → (k == p.setup.processors && s.setup.processors == p.setup.processors) ≡ b → IsProcessor p
    → Moves (hand_of (want_in p.part p)) k → want_of (OfProcessor (if b then record p { chair = Some s } else p)) ≡ want_of (OfProcessor p)
got_chair p k s true e h m =
    let both = and_parts (k == p.setup.processors) (s.setup.processors == p.setup.processors) e in
    with_chair p.part p k (Some s) m (eqb-true k p.setup.processors both.0) h.part
got_chair p k s false e h m = refl

got : (p : Processor) (k : ℕ) (cargo : Cargo) → IsProcessor p → Moves (hand_of (want_in p.part p)) k
    → want_of (OfProcessor (after_receiving p k cargo)) ≡ want_of (OfProcessor p)
got p k (DeskCargo desk) h m = got_desk p k desk (is_kind desk.image.kind p.setup.kind)
got p k (ChairCargo s) h m = got_chair p k s (k == p.setup.processors && s.setup.processors == p.setup.processors) refl h m

received_by : (p : Processor) (hand : Hand) (cargo : Cargo) → hand_of (want_in p.part p) ≡ hand → IsProcessor p
    → want_of (OfProcessor (received_by_hand hand cargo p)) ≡ want_of (OfProcessor p)
received_by p Nothing cargo e h = refl
received_by p (Give k) cargo e h = got p k cargo h (moves_give (hand_of (want_in p.part p)) k e)
received_by p (Take k) cargo e h = got p k cargo h (moves_take (hand_of (want_in p.part p)) k e)

pub receiving_keeps : (a : Actor) (cargo : Cargo) → IsActor a → want_of (received cargo a) ≡ want_of a
receiving_keeps (OfProcessor p) cargo h = received_by p (hand_of (want_in p.part p)) cargo refl h
receiving_keeps (OfChipset c) cargo h = refl

-- the desk whose register a session looks at is held
row_at_hand : (told : ServerRow) (held : Desks) → is_at_hand told held ≡ true → IsAtHand told held
row_at_hand (served.Reading c reg width) held h = h
row_at_hand (served.Writing c reg width x) held h = h
row_at_hand _ held h = tt

pub serving_at_hand : (n : ℕ) (chair : Option Session) (s : Session) (held : Desks) → chair ≡ Some s → IsServing n chair held → IsAtHand s.told held
serving_at_hand n chair s held is h =
    let there : IsServing n (Some s) held = subst (λ (c : Option Session). IsServing n c held) is h in
    row_at_hand s.told held (and_parts (is_at_need n (need_as s.told)) (is_at_hand s.told held) there.1).1
