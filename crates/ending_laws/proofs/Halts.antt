-- Where an AP waits, and for what; and what it has told the BSP then.
use Rattle.std.proofs.Common.{ℕ, ◌+◌, ◌*◌, ◌≡◌, ◌≢◌, ◌<◌, ◌≤◌, ◌⊎◌, inl, inr, ⊎_elim, arith, true, get_or, None, refl, sym, ap, ◌∙◌}
use Rattle.std.proofs.lemmas.Bool.{cases_eq, ltb-true}
use Rattle.smm_base.specs.declared.kinds.Policy.{Policy}
use Rattle.smm_base.specs.declared.kinds.Policy.TheVariants.{Elected, Fixed}
use Rattle.cpu_table.specs.Ranges.{policy_fits}
use Rattle.cpu_table.specs.Data.{SetupData}
use Rattle.cpu_program.specs.declared.cargo.Cargo.TheVariants as cargo
use Rattle.cpu_program.specs.Actors.{OfProcessor}
use Rattle.cpu_program.specs.Programs.{want_of, gift_of}
use Rattle.rendezvous_core.specs.Worlds.{bsp_at_first}
use Rattle.rendezvous_machine.specs.Machines.{Machine}
use Rattle.schedule_laws.proofs.Scenes.{Scene, Seat, Position, AwaitingSmi, ClaimingChair, Leading as LeadingAt, SeekingBsp, Reporting, AwaitingRelease, GivingBack, AwaitingDismissal, AwaitingEnd, Away, seat, processor_at}
use Rattle.schedule_laws.proofs.Stations.{Station, station_of, is_bsp, walk_of, member_of, made, low}
use Rattle.schedule_laws.proofs.Stations as stations
use Rattle.schedule_laws.proofs.Invariant.{Context, View, IsCpu, Holds, chair_lying, locked, view_at}
use Rattle.schedule_laws.proofs.Frames.{IsMover, mover, own_at, run_of}
use Rattle.schedule_laws.proofs.Facts.{is_free, early_stage}
use Rattle.ending_laws.proofs.Waits.{IsWaiting, some_none, desk_gift}

-- what the processor i waits for at this position
abbrev pub Halts : SetupData → Scene → ℕ → Position → Type 0
Halts d s i AwaitingSmi = (get_or s.words.pend i 0 ≢ 4) × (get_or s.words.pend i 0 ≢ 1)
Halts d s i (SeekingBsp seen) = d.processors ≤ s.words.bsp
Halts d s i AwaitingRelease = get_or s.words.run i 0 ≡ 0
Halts d s i AwaitingDismissal = get_or s.words.run i 0 ≡ 0
Halts d s i AwaitingEnd = s.words.insync ≢ 0
Halts d s i Away = Unit {0}
Halts d s i (LeadingAt lead) = Unit {0}
Halts d s i _ = ⊥

-- the actor at this position waits, or is off
abbrev pub WaitsAt : SetupData → Scene → ℕ → Seat → Position → Type 0
WaitsAt d s i t at = IsWaiting s.words s.lying (OfProcessor (processor_at d i at t)) (want_of (OfProcessor (processor_at d i at t)))

-- a desk that lies on `run` is there where the word was raised
release_there : (d : SetupData) (c : Context) (i : ℕ) (s : Scene) (m : Machine) (t : Seat) → Holds d c s m → i < d.processors → seat s i ≡ t → t.position ≡ AwaitingRelease
    → get_or s.words.run i 0 ≢ 0 → get_or s.lying.run i None ≡ None → ⊥
release_there d c i s m t f l e q z n =
    let v : View = view_at (station_of AwaitingRelease) t s m i in
    let own : IsCpu d c m.waves i (view_at (station_of AwaitingRelease) t s m i) = own_at d c i s m t AwaitingRelease f l e q in
    let h : IsMover d c i s m t AwaitingRelease = mover d c i s m t AwaitingRelease refl f l e q in
    let one : 1 ≤ get_or s.words.run i 0 = omega arith in
    ⊎_elim
    (λ (b : v.work ≡ 1). some_none (get_or s.lying.run i None) _ (own.self.on_run_job b refl) n)
    (λ (b : v.work ≢ 1).
    some_none (get_or s.lying.run i None) _
    (own.self.on_run (is_free c i (get_or s.words.run i 0) v one b refl own.self.team_bit own.self.released_bit (own.peer h.other) (run_of d c i s m t AwaitingRelease h)) refl) n)
    (cases_eq v.work 1)

policy_elects : (n : ℕ) (policy : Policy) → policy_fits n policy ≡ true → n ≤ 64 → bsp_at_first policy ≡ locked → policy ≡ Elected
policy_elects n Elected fits few e = refl
policy_elects n (Fixed b) fits few e = absurd (let y = ltb-true b n fits in omega arith)

-- the chair lies on `bsp` where nobody has it
chair_there : (d : SetupData) (c : Context) (i : ℕ) (s : Scene) (m : Machine) (t : Seat) (source inside : ℕ) → Holds d c s m → i < d.processors → seat s i ≡ t
    → t.position ≡ ClaimingChair source inside → s.words.bsp ≡ locked → s.lying.bsp ≡ None → ⊥
chair_there d c i s m t source inside f l e q z n =
    let g = f.ready in
    let own : IsCpu d c m.waves i (view_at stations.ClaimingChair t s m i) = own_at d c i s m t (ClaimingChair source inside) f l e q in
    let h : IsMover d c i s m t (ClaimingChair source inside) = mover d c i s m t (ClaimingChair source inside) refl f l e q in
    let early : c.stage ≤ 10 = early_stage c i (view_at stations.ClaimingChair t s m i) own.team (own.peer h.other) refl refl in
    let few = g.platform.few in
    let st : c.stage ≡ 0 = ⊎_elim (λ (y : c.stage ≡ 0). y) (λ (y : c.stage ≢ 0). let u = g.words.some_bsp (omega arith) in let k = g.words.bsp_taken (omega arith) (omega arith) in absurd (omega arith)) (cases_eq c.stage 0) in
    let policy = policy_elects d.processors d.policy g.platform.policy few (sym (g.words.bsp_before st) ∙ z) in
    some_none s.lying.bsp (cargo.Chair c.chair) (g.words.chair_before st ∙ ap (λ (y : Policy). chair_lying y c.chair) policy) n

module _ (d : SetupData) (c : Context) (i : ℕ) (s : Scene) (m : Machine) (t : Seat) where
  pub halts : (at : Position) → Holds d c s m → i < d.processors → seat s i ≡ t → t.position ≡ at → WaitsAt d s i t at → Halts d s i at
  halts (ClaimingChair source inside) f l e q h =
      ⊎_elim (λ (z : ⊥). absurd z) (λ (z : (s.words.bsp ≡ locked) × (s.lying.bsp ≡ None)). chair_there d c i s m t source inside f l e q z.0 z.1) h
  halts Reporting f l e q h =
      let own = (own_at d c i s m t Reporting f l e q).self.own refl refl in
      ⊎_elim
      (λ (z : ⊥). absurd z)
      (λ (z : Unit {0} × (gift_of (OfProcessor (processor_at d i Reporting t)) ≡ None)). desk_gift (processor_at d i Reporting t) i _ (λ y. omega arith) own z.1)
      h
  halts AwaitingRelease f l e q h =
      ⊎_elim
      (λ (z : get_or s.words.run i 0 ≡ 0). z)
      (λ (z : (get_or s.words.run i 0 ≢ 0) × (get_or s.lying.run i None ≡ None)). absurd (release_there d c i s m t f l e q z.0 z.1))
      h
  halts GivingBack f l e q h =
      let own = (own_at d c i s m t GivingBack f l e q).self.own_job refl in
      ⊎_elim
      (λ (z : ⊥). absurd z)
      (λ (z : Unit {0} × (gift_of (OfProcessor (processor_at d i GivingBack t)) ≡ None)). desk_gift (processor_at d i GivingBack t) i _ (λ y. omega arith) own z.1)
      h
  halts (LeadingAt lead) f l e q h = tt
  halts at f l e q h = h

-- IN A SESSION

-- what it has made and lowered: it is out of the session, or waits at its word for the first or the second time
abbrev pub HasHalted : ℕ → ℕ → Station → Type 0
HasHalted n run r = ((member_of r ≡ 0) × (made n r ≡ 3 * n)) ⊎ ((run ≡ 0) × (member_of r ≡ 1) × (((made n r ≡ 1) × (low n r ≡ 0)) ⊎ ((made n r ≡ 2) × (low n r ≡ 1))))

-- while `bsp` names a processor
pub halted : (d : SetupData) (s : Scene) (i n : ℕ) (at : Position) → Halts d s i at → s.words.bsp < d.processors → is_bsp (station_of at) ≡ 0
    → HasHalted n (get_or s.words.run i 0) (station_of at)
halted d s i n AwaitingSmi h l b = inl (refl, refl)
halted d s i n (SeekingBsp seen) h l b = absurd (omega (arith, h, l))
halted d s i n AwaitingRelease h l b = inr (h, refl, inl (refl, refl))
halted d s i n AwaitingDismissal h l b = inr (h, refl, inr (refl, refl))
halted d s i n AwaitingEnd h l b = inl (refl, refl)
halted d s i n Away h l b = inl (refl, refl)
halted d s i n (LeadingAt lead) h l b = absurd (omega arith)
halted d s i n _ h l b = absurd h

-- OUTSIDE OF A SESSION

abbrev pub IsResting : ℕ → Position → Type 0
IsResting pend at = (at ≡ Away) ⊎ ((at ≡ AwaitingSmi) × (pend ≢ 4) × (pend ≢ 1))

pub resting : (d : SetupData) (s : Scene) (i : ℕ) (at : Position) → Halts d s i at → is_bsp (station_of at) ≡ 0 → walk_of (station_of at) ≡ 0 → s.words.insync ≡ 0
    → IsResting (get_or s.words.pend i 0) at
resting d s i AwaitingSmi h b k z = inr (refl, h.0, h.1)
resting d s i (SeekingBsp seen) h b k z = absurd (omega arith)
resting d s i AwaitingRelease h b k z = absurd (omega arith)
resting d s i AwaitingDismissal h b k z = absurd (omega arith)
resting d s i AwaitingEnd h b k z = absurd (h z)
resting d s i Away h b k z = inl refl
resting d s i (LeadingAt lead) h b k z = absurd (omega arith)
resting d s i _ h b k z = absurd h
