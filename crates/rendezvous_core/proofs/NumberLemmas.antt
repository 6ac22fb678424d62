-- An actor keeps its number, and whether it is a processor.
use Rattle.std.proofs.Common.{◌≡◌, ℕ, ◌==◌, ◌+◌, Bool, true, false, cond, Option, Some, None, refl, ◌∙◌}
use Rattle.std.specs.Prelude.{nat_lt, length}
use Rattle.sync_words.specs.declared.event.Hand.{Hand}
use Rattle.sync_words.specs.declared.event.Hand.TheVariants.{Nothing, Give, Take}
use Rattle.sync_words.specs.declared.label.Label.TheVariants as say
use Rattle.sync_words.specs.declared.row.Row.{Row}
use Rattle.sync_words.specs.declared.row.Row.TheVariants as row
use Rattle.sync_words.specs.declared.signal.TheConstants.{DELIVERABLE}
use Rattle.sync_words.specs.Steps.{Taken, says, hand_of}
use Rattle.arrival.specs.Entry as entry
use Rattle.arrival.specs.Gather as gather
use Rattle.arrival.specs.Report as report
use Rattle.exit_handshake.specs.Close as close
use Rattle.exit_handshake.specs.Exit as exit
use Rattle.handler_ops.specs.declared.desk.Desk.{Desk}
use Rattle.handler_ops.specs.Sessions.{Session, begun_session}
use Rattle.handler_ops.specs.Told.{handed_as}
use Rattle.handler_ops.specs.Answering.{taken_off, move_as, kept_as, told_on, answered}
use Rattle.cpu_program.specs.declared.cargo.Cargo.{Cargo}
use Rattle.cpu_program.specs.declared.cargo.Cargo.TheVariants.{Desk as DeskCargo, Chair as ChairCargo}
use Rattle.cpu_program.specs.declared.part.Part.{Part}
use Rattle.cpu_program.specs.declared.part.Part.TheVariants.{Between, Entering, Gathering, Closing, Serving, Exiting, Reporting, Off}
use Rattle.chipset.specs.Chipsets.{Chipset, taken_at_row}
use Rattle.cpu_program.specs.Actors.{Processor, Actor, OfProcessor, OfChipset}
use Rattle.cpu_program.specs.Processors.{own_desk, go_on, to_jobs, after_source, after_jobs, with_need, told_need, begin_serving, at_row, taken_serving, entered, resumed, taken_at, left_to, known_bsp, taken_in}
use Rattle.chipset.specs.Chipsets as chipset
use Rattle.cpu_program.specs.Hands.{is_kind, after_giving, after_receiving}
use Rattle.cpu_program.specs.Programs.{want_of, taken, given_by_hand, given, received_by_hand, received, number_of}

by_test : (b : Bool) (x y : Processor) (n : ℕ) → x.me ≡ n → y.me ≡ n → (cond b x y).me ≡ n
by_test true x y n hx hy = hx
by_test false x y n hx hy = hy

by_test_of : (b : Bool) (x y : Taken Processor) (n : ℕ) → x.after.me ≡ n → y.after.me ≡ n → (cond b x y).after.me ≡ n
by_test_of true x y n hx hy = hx
by_test_of false x y n hx hy = hy

-- A PROCESSOR

go_on_me : (r : Row) (p : Processor) → (go_on r p).me ≡ p.me
go_on_me row.LookAtSource p = refl
go_on_me row.LookAtExcept p = refl
go_on_me row.MarkInsync p = refl
go_on_me (row.AwaitInside looks) p = refl
go_on_me _ p = refl

need_me : (b : Bool) (p : Processor) → (with_need b p).me ≡ p.me
need_me true p = refl
need_me false p = go_on_me (to_jobs 0 p) p

serve_me : (s : Session) (p : Processor) → (told_need s p).me ≡ p.me
serve_me s p = need_me _ (record p { chair = Some s; held = handed_as s.told p.held })

begin_me : (o : Option Session) (p : Processor) → (begin_serving o p).me ≡ p.me
begin_me None p = go_on_me (after_jobs p.setup.mode) p
begin_me (Some s) p = serve_me (told_on p.held (begun_session p.me p.wave s)) p

at_row_me : (r : Row) (p : Processor) → (at_row r p).me ≡ p.me
at_row_me row.Serve p = begin_me p.chair p
at_row_me row.LookAtSource p = refl
at_row_me row.LookAtExcept p = refl
at_row_me row.MarkInsync p = refl
at_row_me (row.AwaitInside looks) p = refl
at_row_me _ p = refl

resumed_me : (o : Option Desk) (p : Processor) → (resumed o p).me ≡ p.me
resumed_me None p = refl
resumed_me (Some desk) p = refl

taken_at_me : (r : Row) (p : Processor) (found : ℕ) → (taken_at r p found).after.me ≡ p.me
taken_at_me row.AwaitSmi p found = by_test_of (found == DELIVERABLE) (says say.Enter (entered p)) (says say.Off (record p { part = Off })) p.me refl refl
taken_at_me row.TakeSource p found = at_row_me (after_source p.setup.mode) (record p { wave = found })
taken_at_me (row.CollectJob cpu) p found = go_on_me (to_jobs (cpu + 1) p) (record p { held = taken_off cpu p.held })
taken_at_me row.ClearSignal p found = resumed_me (own_desk p) p
taken_at_me _ p found = refl

left_me : (o : Option Row) (p : Processor) → (left_to o p).me ≡ p.me
left_me None p = refl
left_me (Some r) p = at_row_me r p

known_me : (o : Option ℕ) (p : Processor) → (known_bsp o p).me ≡ p.me
known_me None p = refl
known_me (Some bsp) p = refl

serving_me : (o : Option Session) (p : Processor) (found : ℕ) → (taken_serving o p found).after.me ≡ p.me
serving_me None p found = refl
serving_me (Some s) p found =
    serve_me (told_on (kept_as s.told found p.held) (answered (move_as s found p.held) p.held s)) (record p { held = kept_as s.told found p.held })

taken_in_me : (part : Part) (p : Processor) (found : ℕ) → (taken_in part p found).after.me ≡ p.me
taken_in_me (Between r) p found = taken_at_me r p found
taken_in_me (Entering e) p found = let t = entry.taken e.row e found in left_me (entry.left_of t.after.row) (record p { part = Entering t.after })
taken_in_me (Gathering g) p found = let t = gather.taken g.row g found in left_me (gather.left_of t.after.row) (record p { part = Gathering t.after })
taken_in_me (Closing c) p found = let t = close.taken c.row c found in left_me (close.left_of t.after.row) (record p { part = Closing t.after })
taken_in_me Serving p found = serving_me p.chair p found
taken_in_me (Exiting e) p found = let t = exit.taken e.row e found in left_me (exit.left_of t.after.row) (record p { part = Exiting t.after })
taken_in_me (Reporting r) p found =
    let t = report.taken r.row r found in
    let known = known_bsp (report.bsp_of t.after.row t.after.bsp) (record p { part = Reporting t.after }) in
    left_me (report.left_of t.after.row) known ∙ known_me (report.bsp_of t.after.row t.after.bsp) (record p { part = Reporting t.after })
taken_in_me Off p found = refl

giving_me : (p : Processor) (k : ℕ) → (after_giving p k).me ≡ p.me
giving_me p k = by_test (k == p.setup.processors) _ _ p.me refl refl

receiving_me : (p : Processor) (k : ℕ) (cargo : Cargo) → (after_receiving p k cargo).me ≡ p.me
receiving_me p k (DeskCargo desk) = by_test (is_kind desk.image.kind p.setup.kind) _ p p.me refl refl
receiving_me p k (ChairCargo s) = by_test _ (record p { chair = Some s }) p p.me refl refl

given_me : (hand : Hand) (p : Processor) → (given_by_hand hand p).me ≡ p.me
given_me Nothing p = refl
given_me (Give k) p = giving_me p k
given_me (Take k) p = refl

received_me : (hand : Hand) (cargo : Cargo) (p : Processor) → (received_by_hand hand cargo p).me ≡ p.me
received_me Nothing cargo p = refl
received_me (Give k) cargo p = receiving_me p k cargo
received_me (Take k) cargo p = receiving_me p k cargo

-- THE CHIPSET

wave_number : (b : Bool) (x y : Chipset) (n : ℕ) → x.setup.processors ≡ n → y.setup.processors ≡ n → (cond b x y).setup.processors ≡ n
wave_number true x y n hx hy = hx
wave_number false x y n hx hy = hy

chipset_number : (r : Row) (c : Chipset) (found : ℕ) → (chipset.taken_at r c found).after.setup.processors ≡ c.setup.processors
chipset_number row.AwaitServed c found =
    wave_number (nat_lt c.wave (length c.setup.waves)) (record c { row = Some row.AnnounceBlocked; wave = c.wave + 1 }) (chipset.to_off 0 c) c.setup.processors refl refl
chipset_number _ c found = refl

row_number : (o : Option Row) (c : Chipset) (found : ℕ) → (taken_at_row o c found).after.setup.processors ≡ c.setup.processors
row_number None c found = refl
row_number (Some r) c found = chipset_number r c found

-- AN ACTOR

pub taken_number : (a : Actor) (found : ℕ) → number_of (taken a found).after ≡ number_of a
taken_number (OfProcessor p) found = taken_in_me p.part p found
taken_number (OfChipset c) found = row_number c.row c found

pub given_number : (a : Actor) → number_of (given a) ≡ number_of a
given_number (OfProcessor p) = given_me (hand_of (want_of (OfProcessor p))) p
given_number (OfChipset c) = refl

pub received_number : (cargo : Cargo) (a : Actor) → number_of (received cargo a) ≡ number_of a
received_number cargo (OfProcessor p) = received_me (hand_of (want_of (OfProcessor p))) cargo p
received_number cargo (OfChipset c) = refl
