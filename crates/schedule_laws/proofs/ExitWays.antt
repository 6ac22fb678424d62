-- Where a BSP may go on to as it lets the others go.
use Rattle.std.proofs.Common.{ℕ, ◌+◌, ◌-◌, ◌≡◌, ◌≢◌, ◌<◌, ◌≤◌, arith, Bool, false, List, length, get_or, slice_set, Option, Some, None, refl, sym, ap, subst, ⊎_elim, ◌∙◌}
use Rattle.std.proofs.lemmas.Bool.{cases_eq, ne_eqb, eq-eqb}
use Rattle.smm_base.specs.declared.kinds.Policy.{Policy}
use Rattle.smm_base.specs.declared.kinds.Policy.TheVariants.{Elected, Fixed}
use Rattle.cpu_table.specs.Data.{SetupData}
use Rattle.sync_words.specs.declared.row.Row.{Row}
use Rattle.sync_words.specs.declared.row.Row.TheVariants as row
use Rattle.sync_words.specs.Steps.{next_below, row_or}
use Rattle.exit_handshake.specs.Exit.{ExitPosition, exit_at, is_ap, ap_count, after_rounds, to_dismissed, to_dismissals, to_released, to_releases, left_of}
use Rattle.cpu_program.specs.Actors.{Processor, OfProcessor}
use Rattle.cpu_program.specs.Processors.{is_elected, is_relaxed, left_to}
use Rattle.rendezvous_core.specs.Worlds.{bsp_at_first}
use Rattle.rendezvous_machine.specs.Machines.{Machine}
use Rattle.rendezvous_machine.specs.Platforms.{MayLead}
use Rattle.schedule_laws.proofs.Scenes.{Scene, Seat, Lead, LeavingInside, Releasing, AwaitingReleased, Dismissing, AwaitingDismissed, GivingChair, LeavingInsync, Position, Leading as LeadingAt, seat, processor_at, processor_of, actors_of, exiting_at}
use Rattle.schedule_laws.proofs.Stations.{Leading, station_of, bit}
use Rattle.schedule_laws.proofs.Leads.{stage_some}
use Rattle.schedule_laws.proofs.Sums.{sum_below, sum_below-change}
use Rattle.schedule_laws.proofs.Invariant.{Context, Globe, IsWords, IsReady, IsFine, chair_lying, held_at, globe, seat_view, view}
use Rattle.schedule_laws.proofs.Frames.{seated}
use Rattle.schedule_laws.proofs.LeadFrames.{at_stage, Reached, IsHolding, reaches}
use Rattle.schedule_laws.proofs.SessionFrames.{no_aim}
use Rattle.schedule_laws.proofs.Loops.{if_zero, if_some, Found, found_next, other_true, other_false, counted}
use Rattle.schedule_laws.proofs.ClosedFrames.{words_at, course_late, advance, bsp_team, alone}
use Rattle.schedule_laws.proofs.ClosedStages.{releases_skipped, releases_skipped_run, releases_skipped_totals, releases_made, releases_made_run, releases_made_totals, releases_none, releases_none_run, releases_none_totals, dismissals_skipped, dismissals_skipped_run, dismissals_skipped_totals, dismissals_made, dismissals_made_run, dismissals_made_totals, dismissals_none, dismissals_none_run, dismissals_none_totals, chair_given, chair_given_run, chair_given_totals}

-- a position of the way out, but for the last
pub data Way : Type 0 where
  ToRelease : ℕ → Way
  ToAwaitReleased : ℕ → Way
  ToDismiss : ℕ → Way
  ToAwaitDismissed : ℕ → Way
  ToGive : Way
  ToLeave : Way

abbrev pub lead_of : Way → Lead
lead_of (ToRelease j) = Releasing j
lead_of (ToAwaitReleased left) = AwaitingReleased left
lead_of (ToDismiss j) = Dismissing j
lead_of (ToAwaitDismissed left) = AwaitingDismissed left
lead_of ToGive = GivingChair
lead_of ToLeave = LeavingInsync

abbrev pub row_of : Way → Row
row_of (ToRelease j) = row.Release j
row_of (ToAwaitReleased left) = row.AwaitReleased left
row_of (ToDismiss j) = row.Dismiss j
row_of (ToAwaitDismissed left) = row.AwaitDismissed left
row_of ToGive = row.GiveBsp
row_of ToLeave = row.LeaveInsync

-- the processor there
abbrev pub left_at : SetupData → ℕ → Position → Seat → Row → Processor
left_at d me at u r = left_to (left_of r) (record (processor_at d me at u) { part = exiting_at d me r u.listed })

way_is : (d : SetupData) (me : ℕ) (at : Position) (u : Seat) (w : Way) → left_at d me at u (row_of w) ≡ processor_at d me (LeadingAt (lead_of w)) (record u { position = LeadingAt (lead_of w) })
way_is d me at u (ToRelease j) = refl
way_is d me at u (ToAwaitReleased left) = refl
way_is d me at u (ToDismiss j) = refl
way_is d me at u (ToAwaitDismissed left) = refl
way_is d me at u ToGive = refl
way_is d me at u ToLeave = refl

first_is : (d : SetupData) (me : ℕ) (at : Position) (u : Seat) (w : Way) → record (processor_at d me at u) { part = exiting_at d me (row_of w) u.listed } ≡ processor_at d me (LeadingAt (lead_of w)) (record u { position = LeadingAt (lead_of w) })
first_is d me at u (ToRelease j) = refl
first_is d me at u (ToAwaitReleased left) = refl
first_is d me at u (ToDismiss j) = refl
first_is d me at u (ToAwaitDismissed left) = refl
first_is d me at u ToGive = refl
first_is d me at u ToLeave = refl

way_held : (c : Context) (w : Way) → c.held ≡ held_at (lead_of w) c.chair c.held
way_held c (ToRelease j) = refl
way_held c (ToAwaitReleased left) = refl
way_held c (ToDismiss j) = refl
way_held c (ToAwaitDismissed left) = refl
way_held c ToGive = refl
way_held c ToLeave = refl

-- a row of the way out that the BSP may come to
pub record Entered (d : SetupData) (c : Context) (s : Scene) (m : Machine) (r : Row) : Type 0 where
  pub way : Way
  pub is_row : row_of way ≡ r
  pub reached : Reached d c s m (lead_of way)

-- it goes on to such a row, where the processor is as that row says
exits_by : (d : SetupData) (c : Context) (s : Scene) (m : Machine) (t u : Seat) (next : Row → Processor) (r : Row)
    → ((w : Way) → next (row_of w) ≡ processor_at d c.bsp (LeadingAt (lead_of w)) (record u { position = LeadingAt (lead_of w) })) → Entered d c s m r → seat s c.bsp ≡ t → station_of t.position ≡ Leading
    → seat_view Leading c.bsp u ≡ seat_view Leading c.bsp t → IsHolding c LeavingInside u
    → IsFine d (record { words = s.words; lying = s.lying; actors = slice_set (actors_of d s) c.bsp (OfProcessor (next r)) }) m
exits_by d c s m t u next r is z e a sv h =
    let w : Way = z.way in
    let g = z.reached in
    let t' : Seat = record u { position = LeadingAt (lead_of w) } in
    let l : c.bsp < length s.seats = rw g.ready.sized.seats (g.ready.words.some_bsp (subst (λ (k : ℕ). 1 ≤ k) g.is_stage (stage_some (lead_of w) (is_relaxed d.mode)))) in
    let fine : IsFine d (record { words = s.words; lying = s.lying; actors = slice_set (actors_of d s) c.bsp (processor_of d c.bsp t') }) m =
    seated d (at_stage c g.stage g.next) s s.words s.lying m c.bsp t' l
    (reaches d c s m t t' (lead_of w) g e a refl sv (record { wave = h.wave; blocked = h.blocked; listed = h.listed; held = h.held ∙ way_held c w; chair = h.chair })) in
    subst (λ (y : Row). IsFine d (record { words = s.words; lying = s.lying; actors = slice_set (actors_of d s) c.bsp (OfProcessor (next y)) }) m) z.is_row
    (subst (λ (y : Processor). IsFine d (record { words = s.words; lying = s.lying; actors = slice_set (actors_of d s) c.bsp (OfProcessor y) }) m) (sym (is w)) fine)

pub exits_to : (d : SetupData) (c : Context) (s : Scene) (m : Machine) (t u : Seat) (at : Position) (r : Row) → Entered d c s m r → seat s c.bsp ≡ t
    → station_of t.position ≡ Leading → seat_view Leading c.bsp u ≡ seat_view Leading c.bsp t → IsHolding c LeavingInside u
    → IsFine d (record { words = s.words; lying = s.lying; actors = slice_set (actors_of d s) c.bsp (OfProcessor (left_at d c.bsp at u r)) }) m
exits_to d c s m t u at r = exits_by d c s m t u (left_at d c.bsp at u) r (way_is d c.bsp at u)

-- the first of these rows
pub exits_first : (d : SetupData) (c : Context) (s : Scene) (m : Machine) (t u : Seat) (at : Position) (r : Row) → Entered d c s m r → seat s c.bsp ≡ t
    → station_of t.position ≡ Leading → seat_view Leading c.bsp u ≡ seat_view Leading c.bsp t → IsHolding c LeavingInside u
    → IsFine d (record { words = s.words; lying = s.lying; actors = slice_set (actors_of d s) c.bsp (OfProcessor (record (processor_at d c.bsp at u) { part = exiting_at d c.bsp r u.listed })) }) m
exits_first d c s m t u at r = exits_by d c s m t u (λ y. record (processor_at d c.bsp at u) { part = exiting_at d c.bsp y u.listed }) r (first_is d c.bsp at u)

-- THE END OF THE ROUNDS

home_words : (d : SetupData) (c : Context) (g : Globe) → g.bsp ≡ bsp_at_first d.policy → g.on_bsp ≡ chair_lying d.policy c.chair → IsWords d (at_stage c 19 0) g
    → IsWords d (at_stage c 20 0) g
home_words d c g a b h =
    record {
      some_bsp = λ _. h.some_bsp (omega arith);
      no_bsp = λ z. absurd (omega arith);
      bsp_before = λ z. absurd (omega arith);
      bsp_taken = λ _ z. absurd (omega arith);
      bsp_free = λ _. a;
      leads = λ _. h.leads (omega arith);
      inside_before = λ z. absurd (omega arith);
      inside = λ _ z. absurd (omega arith);
      inside_after = λ _. h.inside_after (omega arith);
      insync_before = λ z. absurd (omega arith);
      insync = λ _ _. h.insync (omega arith) (omega arith);
      insync_after = λ z. absurd (omega arith);
      chair_before = λ z. absurd (omega arith);
      chair = λ _ z. absurd (omega arith);
      chair_after = λ _. b;
      source = h.source;
      except = h.except;
      no_session = λ z. absurd (omega arith);
      session = λ _. h.session (omega arith);
    }

-- under the elected policy the BSP gives the chair back, under a fixed one it was never taken
pub give_at : (d : SetupData) (c : Context) (s : Scene) (m : Machine) (o : Policy) → d.policy ≡ o → IsReady d (at_stage c 19 0) s m → Entered d c s m (after_rounds (is_elected o))
give_at d c s m Elected e g =
    record {
      way = ToGive;
      is_row = refl;
      reached = record {
        stage = 19;
        next = 0;
        ready = g;
        aim = record { signals = λ z. absurd (omega arith); takes = λ z. absurd (omega arith); releases = λ z. absurd (omega arith); dismisses = λ z. absurd (omega arith); gives = λ _. e; closes = λ _ z. absurd (omega arith); closes_on = λ z. absurd (omega arith) };
        is_stage = refl;
        is_next = refl;
        traditional = λ z. absurd (omega arith);
        begins = λ z. absurd (omega arith);
        serves = λ z. absurd (omega arith);
        collects = λ z. absurd (omega arith);
        early = λ z. absurd (omega arith);
      };
    }
give_at d c s m (Fixed b) e g =
    let k : c.bsp ≡ b = subst (λ (y : Policy). MayLead y c.bsp) e (g.words.leads (omega arith)) in
    let word : s.words.bsp ≡ bsp_at_first d.policy = g.words.bsp_taken (omega arith) (omega arith) ∙ k ∙ ap bsp_at_first (sym e) in
    let chair : s.lying.bsp ≡ chair_lying d.policy c.chair = g.words.chair (omega arith) (omega arith) ∙ ap (λ (y : Policy). chair_lying y c.chair) (sym e) in
    record {
      way = ToLeave;
      is_row = refl;
      reached = record {
        stage = 20;
        next = 0;
        ready = advance d c 19 0 20 0 s m g (omega arith) (omega arith) (omega arith) (λ _. omega arith) (home_words d c (globe s m) word chair g.words)
            (course_late d c 19 0 20 0 m.registrations m.pool (omega arith) (omega arith) g.course)
            (chair_given_totals c 0 s.words.counter (get_or s.words.run c.bsp 0) _ _ _)
            (λ j l h. chair_given d c m.waves 0 j (view s m j) h)
            (λ j l q h r. chair_given_run c 0 j (get_or s.words.run j 0) (view s m j) h.self.team_bit h.team (h.peer q) r);
        aim = no_aim d c 20 0 (omega arith) (omega arith) (omega arith) (omega arith) (omega arith) (λ _. omega arith);
        is_stage = refl;
        is_next = refl;
        traditional = λ z. absurd (omega arith);
        begins = λ z. absurd (omega arith);
        serves = λ z. absurd (omega arith);
        collects = λ z. absurd (omega arith);
        early = λ _. rw (e, eq-eqb c.bsp b k) refl;
      };
    }

-- THE LIST

-- the BSP's position at some row of the way out
abbrev pub place_at : SetupData → Context → List Bool → Row → ExitPosition
place_at d c listed r = exit_at d.processors c.bsp listed (is_elected d.policy) r

-- those on the list are the others of the closed set
pub aps : (d : SetupData) (c : Context) (s : Scene) (m : Machine) (listed : List Bool) (r : Row) → IsReady d c s m → listed ≡ c.listed → 15 ≤ c.stage → c.stage ≤ 18
    → ap_count (place_at d c listed r) ≡ c.peers
aps d c s m listed r g e a b =
    let n : ℕ = d.processors in
    let p : ExitPosition = place_at d c listed r in
    let F : ℕ → ℕ = λ j. bit (is_ap p j) in
    let G : ℕ → ℕ = λ j. (view s m j).team in
    let own : F c.bsp ≡ 0 = rw (eq-eqb c.bsp c.bsp refl) refl in
    let team = (bsp_team d c s m g (omega arith)).0 in
    let others : (j : ℕ) → j < n → j ≢ c.bsp → F j ≡ G j =
    (λ j l q. rw (ne_eqb j c.bsp q) (ap (λ (xs : List Bool). bit (get_or xs j false)) e ∙ ((g.each j l).peer q).listed a b)) in
    let sums : sum_below n G + F c.bsp ≡ sum_below n F + G c.bsp = sum_below-change n F G c.bsp (g.words.some_bsp (omega arith)) others in
    let count : ap_count p ≡ sum_below n F = counted (is_ap p) n in
    let peers = g.totals.peers (omega arith) in
    omega arith

-- one that a loop passes over isn't in the closed set
passed : (d : SetupData) (c : Context) (s : Scene) (m : Machine) (listed : List Bool) (r : Row) → IsReady d c s m → listed ≡ c.listed → 15 ≤ c.stage → c.stage ≤ 18 → (j : ℕ)
    → j < d.processors → j ≢ c.bsp → is_ap (place_at d c listed r) j ≡ false → (view s m j).team ≡ 0
passed d c s m listed r g e a b j l q z =
    let t : get_or listed j false ≡ false = other_false j c.bsp (get_or listed j false) z q in
    let u : bit (get_or c.listed j false) ≡ 0 = ap (λ (xs : List Bool). bit (get_or xs j false)) (sym e) ∙ ap bit t in
    sym (((g.each j l).peer q).listed a b) ∙ u

-- DISMISSALS

pub enter_dismissed : (d : SetupData) (c : Context) (s : Scene) (m : Machine) (listed : List Bool) (r : Row) → IsReady d (at_stage c 17 d.processors) s m → listed ≡ c.listed
    → Entered d c s m (to_dismissed (place_at d c listed r) (ap_count (place_at d c listed r)))
enter_dismissed d c s m listed r g e =
    let n : ℕ = d.processors in
    let p : ExitPosition = place_at d c listed r in
    let left : ℕ = ap_count p in
    let count : left ≡ c.peers = aps d (at_stage c 17 n) s m listed r g e (omega arith) (omega arith) in
    ⊎_elim
    (λ (z : left ≡ 0).
    let z' : c.peers ≡ 0 = omega arith in
    rw (eq-eqb left 0 z)
    (give_at d c s m d.policy refl
    (advance d c 17 n 19 0 s m g (omega arith) (omega arith) (omega arith) (λ _. omega arith)
    (words_at d c 17 n 19 0 (globe s m) (omega arith) (omega arith) (omega arith) (λ _. omega arith) g.words)
    (course_late d c 17 n 19 0 m.registrations m.pool (omega arith) (omega arith) g.course)
    (dismissals_none_totals c n s.words.counter (get_or s.words.run c.bsp 0) _ _ _ z')
    (λ j l h. dismissals_none d c m.waves n j (view s m j) (λ q. alone d (at_stage c 17 n) s m g (omega arith) z' j l q) h)
    (λ j l q h k. dismissals_none_run c n j (get_or s.words.run j 0) (view s m j) (alone d (at_stage c 17 n) s m g (omega arith) z' j l q) h.self.team_bit h.team (h.peer q) k))))
    (λ (z : left ≢ 0).
    let z' : c.peers ≢ 0 = (λ y. z (count ∙ y)) in
    rw (ne_eqb left 0 z)
    (record {
      way = ToAwaitDismissed left;
      is_row = refl;
      reached = record {
        stage = 18;
        next = left;
        ready = advance d c 17 n 18 left s m g (omega arith) (omega arith) (omega arith) (λ _. omega arith)
            (words_at d c 17 n 18 left (globe s m) (omega arith) (omega arith) (omega arith) (λ _. omega arith) g.words)
            (course_late d c 17 n 18 left m.registrations m.pool (omega arith) (omega arith) g.course)
            (dismissals_made_totals c n left s.words.counter (get_or s.words.run c.bsp 0) _ _ _ z' count)
            (λ j l h. dismissals_made d c m.waves n left j (view s m j) (λ q y. absurd (omega arith)) h)
            (λ j l q h k. dismissals_made_run c n left j (get_or s.words.run j 0) (view s m j) (λ y. absurd (omega arith)) h.self.team_bit h.team (h.peer q) k);
        aim = no_aim d c 18 left (omega arith) (omega arith) (omega arith) (omega arith) (omega arith) (λ _. omega arith);
        is_stage = refl;
        is_next = refl;
        traditional = λ y. absurd (omega arith);
        begins = λ y. absurd (omega arith);
        serves = λ y. absurd (omega arith);
        collects = λ y. absurd (omega arith);
        early = λ y. absurd (omega arith);
      };
    }))
    (cases_eq left 0)

skip_dismissals : (d : SetupData) (c : Context) (s : Scene) (m : Machine) (listed : List Bool) (r : Row) (from k : ℕ) → IsReady d (at_stage c 17 from) s m → listed ≡ c.listed → from ≤ k
    → ((j : ℕ) → from ≤ j → j < k → is_ap (place_at d c listed r) j ≡ false) → IsReady d (at_stage c 17 k) s m
skip_dismissals d c s m listed r from k g e a none =
    let skip : (j : ℕ) → j < d.processors → j ≢ c.bsp → from ≤ j → j < k → (view s m j).team ≡ 0 =
    (λ j l q x y. passed d (at_stage c 17 from) s m listed r g e (omega arith) (omega arith) j l q (none j x y)) in
    advance d c 17 from 17 k s m g (omega arith) (omega arith) (omega arith) (λ _. omega arith)
    (words_at d c 17 from 17 k (globe s m) (omega arith) (omega arith) (omega arith) (λ _. omega arith) g.words)
    (course_late d c 17 from 17 k m.registrations m.pool (omega arith) (omega arith) g.course)
    (dismissals_skipped_totals c from k s.words.counter (get_or s.words.run c.bsp 0) _ _ _)
    (λ j l h. dismissals_skipped d c m.waves from k j (view s m j) a (skip j l) h)
    (λ j l q h y. dismissals_skipped_run c from k j (get_or s.words.run j 0) (view s m j) a (skip j l q) h.self.team_bit h.team (h.peer q) y)

dismissals_at : (d : SetupData) (c : Context) (s : Scene) (m : Machine) (listed : List Bool) (r : Row) (from : ℕ) (o : Option ℕ) → IsReady d (at_stage c 17 from) s m → listed ≡ c.listed
    → from ≤ d.processors → Found (is_ap (place_at d c listed r)) from d.processors o
    → Entered d c s m (row_or row.Dismiss (to_dismissed (place_at d c listed r) (ap_count (place_at d c listed r))) o)
dismissals_at d c s m listed r from None g e a found = enter_dismissed d c s m listed r (skip_dismissals d c s m listed r from d.processors g e a found) e
dismissals_at d c s m listed r from (Some k) g e a found =
    let u = other_true k c.bsp (get_or listed k false) found.2 in
    record {
      way = ToDismiss k;
      is_row = refl;
      reached = record {
        stage = 17;
        next = k;
        ready = skip_dismissals d c s m listed r from k g e found.0 found.3;
        aim = record { signals = λ z. absurd (omega arith); takes = λ z. absurd (omega arith); releases = λ z. absurd (omega arith); dismisses = λ _. (found.1, u.0, ap (λ (xs : List Bool). get_or xs k false) (sym e) ∙ u.1); gives = λ z. absurd (omega arith); closes = λ _ z. absurd (omega arith); closes_on = λ z. absurd (omega arith) };
        is_stage = refl;
        is_next = refl;
        traditional = λ y. absurd (omega arith);
        begins = λ y. absurd (omega arith);
        serves = λ y. absurd (omega arith);
        collects = λ y. absurd (omega arith);
        early = λ y. absurd (omega arith);
      };
    }

pub enter_dismissals : (d : SetupData) (c : Context) (s : Scene) (m : Machine) (listed : List Bool) (r : Row) (from : ℕ) → IsReady d (at_stage c 17 from) s m → listed ≡ c.listed
    → from ≤ d.processors → Entered d c s m (to_dismissals (place_at d c listed r) from)
enter_dismissals d c s m listed r from g e a =
    let q : ℕ → Bool = is_ap (place_at d c listed r) in
    dismissals_at d c s m listed r from (next_below d.processors q from) g e a (found_next d.processors q from)

-- RELEASES

enter_released : (d : SetupData) (c : Context) (s : Scene) (m : Machine) (listed : List Bool) (r : Row) → IsReady d (at_stage c 15 d.processors) s m → listed ≡ c.listed
    → Entered d c s m (to_released (place_at d c listed r) (ap_count (place_at d c listed r)))
enter_released d c s m listed r g e =
    let n : ℕ = d.processors in
    let p : ExitPosition = place_at d c listed r in
    let left : ℕ = ap_count p in
    let count : left ≡ c.peers = aps d (at_stage c 15 n) s m listed r g e (omega arith) (omega arith) in
    ⊎_elim
    (λ (z : left ≡ 0).
    let z' : c.peers ≡ 0 = omega arith in
    if_zero left z (to_dismissals p 0) (row.AwaitReleased left) (Entered d c s m)
    (enter_dismissals d c s m listed r 0
    (advance d c 15 n 17 0 s m g (omega arith) (omega arith) (omega arith) (λ _. omega arith)
    (words_at d c 15 n 17 0 (globe s m) (omega arith) (omega arith) (omega arith) (λ _. omega arith) g.words)
    (course_late d c 15 n 17 0 m.registrations m.pool (omega arith) (omega arith) g.course)
    (releases_none_totals c n s.words.counter (get_or s.words.run c.bsp 0) _ _ _ z')
    (λ j l h. releases_none d c m.waves n j (view s m j) (λ q. alone d (at_stage c 15 n) s m g (omega arith) z' j l q) h)
    (λ j l q h k. releases_none_run c n j (get_or s.words.run j 0) (view s m j) (alone d (at_stage c 15 n) s m g (omega arith) z' j l q) h.self.team_bit h.team (h.peer q) k)) e (omega arith)))
    (λ (z : left ≢ 0).
    let z' : c.peers ≢ 0 = (λ y. z (count ∙ y)) in
    if_some left z (to_dismissals p 0) (row.AwaitReleased left) (Entered d c s m)
    (record {
      way = ToAwaitReleased left;
      is_row = refl;
      reached = record {
        stage = 16;
        next = left;
        ready = advance d c 15 n 16 left s m g (omega arith) (omega arith) (omega arith) (λ _. omega arith)
            (words_at d c 15 n 16 left (globe s m) (omega arith) (omega arith) (omega arith) (λ _. omega arith) g.words)
            (course_late d c 15 n 16 left m.registrations m.pool (omega arith) (omega arith) g.course)
            (releases_made_totals c n left s.words.counter (get_or s.words.run c.bsp 0) _ _ _ z' count)
            (λ j l h. releases_made d c m.waves n left j (view s m j) (λ q y. absurd (omega arith)) h)
            (λ j l q h k. releases_made_run c n left j (get_or s.words.run j 0) (view s m j) (λ y. absurd (omega arith)) h.self.team_bit h.team (h.peer q) k);
        aim = no_aim d c 16 left (omega arith) (omega arith) (omega arith) (omega arith) (omega arith) (λ _. omega arith);
        is_stage = refl;
        is_next = refl;
        traditional = λ y. absurd (omega arith);
        begins = λ y. absurd (omega arith);
        serves = λ y. absurd (omega arith);
        collects = λ y. absurd (omega arith);
        early = λ y. absurd (omega arith);
      };
    }))
    (cases_eq left 0)

skip_releases : (d : SetupData) (c : Context) (s : Scene) (m : Machine) (listed : List Bool) (r : Row) (from k : ℕ) → IsReady d (at_stage c 15 from) s m → listed ≡ c.listed → from ≤ k
    → ((j : ℕ) → from ≤ j → j < k → is_ap (place_at d c listed r) j ≡ false) → IsReady d (at_stage c 15 k) s m
skip_releases d c s m listed r from k g e a none =
    let skip : (j : ℕ) → j < d.processors → j ≢ c.bsp → from ≤ j → j < k → (view s m j).team ≡ 0 =
    (λ j l q x y. passed d (at_stage c 15 from) s m listed r g e (omega arith) (omega arith) j l q (none j x y)) in
    advance d c 15 from 15 k s m g (omega arith) (omega arith) (omega arith) (λ _. omega arith)
    (words_at d c 15 from 15 k (globe s m) (omega arith) (omega arith) (omega arith) (λ _. omega arith) g.words)
    (course_late d c 15 from 15 k m.registrations m.pool (omega arith) (omega arith) g.course)
    (releases_skipped_totals c from k s.words.counter (get_or s.words.run c.bsp 0) _ _ _)
    (λ j l h. releases_skipped d c m.waves from k j (view s m j) a (skip j l) h)
    (λ j l q h y. releases_skipped_run c from k j (get_or s.words.run j 0) (view s m j) a (skip j l q) h.self.team_bit h.team (h.peer q) y)

releases_at : (d : SetupData) (c : Context) (s : Scene) (m : Machine) (listed : List Bool) (r : Row) (from : ℕ) (o : Option ℕ) → IsReady d (at_stage c 15 from) s m → listed ≡ c.listed
    → from ≤ d.processors → Found (is_ap (place_at d c listed r)) from d.processors o
    → Entered d c s m (row_or row.Release (to_released (place_at d c listed r) (ap_count (place_at d c listed r))) o)
releases_at d c s m listed r from None g e a found = enter_released d c s m listed r (skip_releases d c s m listed r from d.processors g e a found) e
releases_at d c s m listed r from (Some k) g e a found =
    let u = other_true k c.bsp (get_or listed k false) found.2 in
    record {
      way = ToRelease k;
      is_row = refl;
      reached = record {
        stage = 15;
        next = k;
        ready = skip_releases d c s m listed r from k g e found.0 found.3;
        aim = record { signals = λ z. absurd (omega arith); takes = λ z. absurd (omega arith); releases = λ _. (found.1, u.0, ap (λ (xs : List Bool). get_or xs k false) (sym e) ∙ u.1); dismisses = λ z. absurd (omega arith); gives = λ z. absurd (omega arith); closes = λ _ z. absurd (omega arith); closes_on = λ z. absurd (omega arith) };
        is_stage = refl;
        is_next = refl;
        traditional = λ y. absurd (omega arith);
        begins = λ y. absurd (omega arith);
        serves = λ y. absurd (omega arith);
        collects = λ y. absurd (omega arith);
        early = λ y. absurd (omega arith);
      };
    }

pub enter_releases : (d : SetupData) (c : Context) (s : Scene) (m : Machine) (listed : List Bool) (r : Row) (from : ℕ) → IsReady d (at_stage c 15 from) s m → listed ≡ c.listed
    → from ≤ d.processors → Entered d c s m (to_releases (place_at d c listed r) from)
enter_releases d c s m listed r from g e a =
    let q : ℕ → Bool = is_ap (place_at d c listed r) in
    releases_at d c s m listed r from (next_below d.processors q from) g e a (found_next d.processors q from)
