-- A processor's setup stays with it.
use Rattle.std.proofs.Common.{ℕ, ◌+◌, ◌==◌, ◌&&◌, ◌≡◌, Bool, true, false, if◌then◌else◌, Option, Some, None, refl, ◌∙◌}
use Rattle.std.specs.Prelude.{slice_set}
use Rattle.cpu_table.specs.Data.{SetupData}
use Rattle.sync_words.specs.declared.event.Hand.{Hand}
use Rattle.sync_words.specs.declared.event.Hand.TheVariants.{Nothing, Give, Take}
use Rattle.sync_words.specs.declared.label.Label.TheVariants as say
use Rattle.sync_words.specs.declared.row.Row.{Row}
use Rattle.sync_words.specs.declared.row.Row.TheVariants as row
use Rattle.sync_words.specs.declared.signal.TheConstants.{DELIVERABLE}
use Rattle.sync_words.specs.Steps.{says, hand_of}
use Rattle.arrival.specs.Entry as entry
use Rattle.arrival.specs.Gather as gather
use Rattle.arrival.specs.Report as report
use Rattle.exit_handshake.specs.Close as close
use Rattle.exit_handshake.specs.Exit as exit
use Rattle.handler_ops.specs.declared.desk.Desk.{Desk}
use Rattle.handler_ops.specs.Sessions.{Session, begun_session}
use Rattle.handler_ops.specs.Told.{handed_as}
use Rattle.handler_ops.specs.Answering.{taken_off, move_as, kept_as, told_on, answered}
use Rattle.cpu_program.specs.declared.cargo.Cargo.TheVariants.{Desk as DeskCargo, Chair as ChairCargo}
use Rattle.cpu_program.specs.Actors.{Processor, Actor, OfProcessor, OfChipset, Cargo, Part, Between, Entering, Gathering, Closing, Serving, Exiting, Reporting, Off}
use Rattle.cpu_program.specs.Processors.{own_desk, go_on, to_jobs, after_source, after_jobs, can_serve, with_need, serve_on, begin_serving, at_row, entered, resumed, taken_serving, taken_at, left_to, known_bsp, taken_in}
use Rattle.cpu_program.specs.Hands.{is_kind, desk_left, after_receiving}
use Rattle.cpu_program.specs.Programs.{want_of, taken, given_by_hand, given, received_by_hand, received}
use Rattle.cpu_program.specs.Platforms.{IsProcessorOf}

went_on : (r : Row) (p : Processor) → (go_on r p).setup ≡ p.setup
went_on row.LookAtSource p = refl
went_on row.LookAtExcept p = refl
went_on row.MarkInsync p = refl
went_on (row.AwaitInside looks) p = refl
went_on _ p = refl

needing : (b : Bool) (p : Processor) → (with_need b p).setup ≡ p.setup
needing true p = refl
needing false p = went_on (to_jobs 0 p) p

serving : (s : Session) (p : Processor) → (serve_on s p).setup ≡ p.setup
serving s p =
    let t = told_on p.held s in
    let held = handed_as t.told p.held in
    needing (can_serve p.setup.processors t.told held) (record p { chair = Some t; held = held })

begun : (chair : Option Session) (p : Processor) → (begin_serving chair p).setup ≡ p.setup
begun None p = went_on (after_jobs p.setup.mode) p
begun (Some s) p = serving (begun_session p.me p.wave s) p

at_any_row : (r : Row) (p : Processor) → (at_row r p).setup ≡ p.setup
at_any_row row.Serve p = begun p.chair p
at_any_row r p = went_on r p

left : (o : Option Row) (p : Processor) → (left_to o p).setup ≡ p.setup
left None p = refl
left (Some r) p = at_any_row r p

known : (o : Option ℕ) (p : Processor) → (known_bsp o p).setup ≡ p.setup
known None p = refl
known (Some bsp) p = refl

back : (o : Option Desk) (p : Processor) → (resumed o p).setup ≡ p.setup
back None p = refl
back (Some desk) p = refl

interrupted : (b : Bool) (p : Processor) → (if b then says say.Enter (entered p) else says say.Off (record p { part = Off })).after.setup ≡ p.setup
interrupted true p = refl
interrupted false p = refl

row_taken : (r : Row) (p : Processor) (found : ℕ) → (taken_at r p found).after.setup ≡ p.setup
row_taken row.AwaitSmi p found = interrupted (found == DELIVERABLE) p
row_taken row.SwitchOff p found = refl
row_taken row.MarkInside p found = refl
row_taken row.TakeSource p found = at_any_row (after_source p.setup.mode) (record p { wave = found })
row_taken (row.CollectJob cpu) p found = went_on (to_jobs (cpu + 1) p) (record p { held = taken_off cpu p.held })
row_taken row.LeaveInside p found = refl
row_taken row.AwaitRelease p found = refl
row_taken row.GiveDeskBack p found = refl
row_taken row.TellReleased p found = refl
row_taken row.AwaitDismissal p found = refl
row_taken row.WithdrawReport p found = refl
row_taken row.TellDismissed p found = refl
row_taken row.AwaitSessionEnd p found = refl
row_taken row.ClearSignal p found = back (own_desk p) p
row_taken _ p found = refl

serving_taken : (chair : Option Session) (p : Processor) (found : ℕ) → (taken_serving chair p found).after.setup ≡ p.setup
serving_taken None p found = refl
serving_taken (Some s) p found = serving (answered (move_as s found p.held) p.held s) (record p { held = kept_as s.told found p.held })

part_taken : (part : Part) (p : Processor) (found : ℕ) → (taken_in part p found).after.setup ≡ p.setup
part_taken (Between r) p found = row_taken r p found
part_taken (Entering e) p found = let t = entry.taken e.row e found in left (entry.left_of t.after.row) (record p { part = Entering t.after })
part_taken (Gathering g) p found = let t = gather.taken g.row g found in left (gather.left_of t.after.row) (record p { part = Gathering t.after })
part_taken (Closing c) p found = let t = close.taken c.row c found in left (close.left_of t.after.row) (record p { part = Closing t.after })
part_taken Serving p found = serving_taken p.chair p found
part_taken (Exiting e) p found = let t = exit.taken e.row e found in left (exit.left_of t.after.row) (record p { part = Exiting t.after })
part_taken (Reporting q) p found =
    let t = report.taken q.row q found in
    let reporting = record p { part = Reporting t.after } in
    let bsp = report.bsp_of t.after.row t.after.bsp in
    left (report.left_of t.after.row) (known_bsp bsp reporting) ∙ known bsp reporting
part_taken Off p found = refl

pub taken_of : (d : SetupData) (a : Actor) (found : ℕ) → IsProcessorOf d a → IsProcessorOf d (taken a found).after
taken_of d (OfProcessor p) found h = part_taken p.part p found ∙ h
taken_of d (OfChipset c) found h = absurd h

-- WHAT CHANGES HANDS

thing_left : (b : Bool) (p : Processor) (k : ℕ) → (if b then record p { chair = None } else desk_left p k).setup ≡ p.setup
thing_left true p k = refl
thing_left false p k = refl

gave : (hand : Hand) (p : Processor) → (given_by_hand hand p).setup ≡ p.setup
gave Nothing p = refl
gave (Give k) p = thing_left (k == p.setup.processors) p k
gave (Take k) p = refl

pub given_of : (d : SetupData) (a : Actor) → IsProcessorOf d a → IsProcessorOf d (given a)
given_of d (OfProcessor p) h = gave (hand_of (want_of (OfProcessor p))) p ∙ h
given_of d (OfChipset c) h = absurd h

chosen : (b : Bool) (q p : Processor) → q.setup ≡ p.setup → (if b then q else p).setup ≡ p.setup
chosen true q p same = same
chosen false q p same = refl

came : (p : Processor) (k : ℕ) (cargo : Cargo) → (after_receiving p k cargo).setup ≡ p.setup
came p k (DeskCargo desk) = chosen (is_kind desk.image.kind p.setup.kind) (record p { held = slice_set p.held k (Some desk) }) p refl
came p k (ChairCargo s) = chosen (k == p.setup.processors && s.setup.processors == p.setup.processors) (record p { chair = Some s }) p refl

got : (hand : Hand) (cargo : Cargo) (p : Processor) → (received_by_hand hand cargo p).setup ≡ p.setup
got Nothing cargo p = refl
got (Give k) cargo p = came p k cargo
got (Take k) cargo p = came p k cargo

pub received_of : (d : SetupData) (a : Actor) (cargo : Cargo) → IsProcessorOf d a → IsProcessorOf d (received cargo a)
received_of d (OfProcessor p) cargo h = got (hand_of (want_of (OfProcessor p))) cargo p ∙ h
received_of d (OfChipset c) cargo h = absurd h
