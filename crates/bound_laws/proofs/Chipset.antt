-- What an event of the chipset spends.
use Rattle.std.proofs.Common.{ℕ, suc, ◌+◌, ◌-◌, ◌*◌, ◌≡◌, ◌≢◌, ◌<◌, ◌≤◌, arith, true, false, length, refl, ap, ⊎_elim, ◌∙◌}
use Rattle.std.specs.Prelude.{◌==◌, ◌||◌, nat_le, nat_lt, if◌then◌else◌}
use Rattle.std.proofs.lemmas.Bool.{cases_Bool, ltb-true, leb-false}
use Rattle.cpu_table.specs.Data.{SetupData}
use Rattle.cpu_table.specs.Waves.{blocked_in}
use Rattle.sync_words.specs.declared.access.Access.{Access}
use Rattle.sync_words.specs.declared.access.Access.TheVariants as access
use Rattle.sync_words.specs.declared.access.Applied.{Applied}
use Rattle.sync_words.specs.declared.access.Applied.TheVariants.{Changed, Same, NotReady}
use Rattle.sync_words.specs.declared.event.Hand.TheVariants.{Nothing}
use Rattle.sync_words.specs.declared.event.Want.TheVariants as want
use Rattle.sync_words.specs.declared.word.WordId.{WordId}
use Rattle.sync_words.specs.declared.word.WordId.TheVariants as word
use Rattle.sync_words.specs.Access.{applied}
use Rattle.cpu_program.specs.Actors.{Actor, OfChipset}
use Rattle.chipset.specs.Chipsets.{signal_in}
use Rattle.cpu_program.specs.Programs.{taken}
use Rattle.rendezvous_core.specs.Worlds.{Turn, Moves, Waits, Rests, read, accesses, turn, turn_wanting}
use Rattle.schedule_laws.proofs.Scenes.{Scene, Herald, AnnouncingBlocked, AnnouncingWave, Raising, Watching, AwaitingServed, TurningOff, Silenced, chipset_at}
use Rattle.bound_laws.proofs.Energies.{RoundFits, energy, gives_of, later_waves}
use Rattle.bound_laws.proofs.Peers.{times_step}

abbrev pub ChipMoved : SetupData → Scene → Herald → Actor → Type 0
ChipMoved d s h a = ((x x' : ℕ) → energy d x' a + 1 ≤ energy d x (OfChipset (chipset_at d h s.watch))) × (gives_of d a ≤ d.ops) × RoundFits d a

abbrev pub ChipTurn : SetupData → Scene → Herald → Turn → Type 0
ChipTurn d s h (Moves e words lying a) = (e.actor ≡ d.processors) × (lying.run ≡ s.lying.run) × ChipMoved d s h a
ChipTurn d s h (Waits found) = Unit {0}
ChipTurn d s h Rests = Unit {0}

by_access : (d : SetupData) (s : Scene) (h : Herald) (word : WordId) (how : Access)
    → ((found : ℕ) → ChipMoved d s h (taken (OfChipset (chipset_at d h s.watch)) found).after)
    → ChipTurn d s h (turn_wanting s.words s.lying d.processors (OfChipset (chipset_at d h s.watch)) (want.Access word how Nothing))
by_access d s h word how k = go (applied (read s.words word) how)
  where
    go : (x : Applied) → ChipTurn d s h (accesses s.words s.lying d.processors word how Nothing (OfChipset (chipset_at d h s.watch)) x)
    go (NotReady f) = tt
    go (Same f) = (refl, refl, k f)
    go (Changed n f) = (refl, refl, k f)

later_step : (d : SetupData) (wave : ℕ) → wave < length d.waves → later_waves d wave ≡ (5 + d.processors + d.t1 + d.t2) + later_waves d (wave + 1)
unfolding later_waves
later_step d wave l =
    let e : length d.waves - wave ≡ suc (length d.waves - (wave + 1)) = omega arith in
    ap (λ (n : ℕ). n * (5 + d.processors + d.t1 + d.t2)) e ∙ times_step (length d.waves - (wave + 1)) (5 + d.processors + d.t1 + d.t2)

module _ (d : SetupData) (s : Scene) where
  abbrev TurnAt : Herald → Type 0
  TurnAt h = ChipTurn d s h (turn s.words s.lying d.processors (OfChipset (chipset_at d h s.watch)))

  announce_wave : TurnAt AnnouncingWave
  announce_wave =
      by_access d s AnnouncingWave word.Source (access.Put s.watch.wave)
      (λ f.
      ⊎_elim
      (λ (z : nat_lt 0 d.processors ≡ true). simp z (λ x x'. omega arith, omega arith, tt))
      (λ (z : nat_lt 0 d.processors ≡ false). simp z (λ x x'. omega arith, omega arith, tt))
      (cases_Bool (nat_lt 0 d.processors)))

  raise_wave : (j : ℕ) → TurnAt (Raising j)
  raise_wave j =
      by_access d s (Raising j) (word.Pend j) (access.Raise (signal_in d.waves s.watch.wave j))
      (λ f.
      ⊎_elim
      (λ (z : nat_lt (j + 1) d.processors ≡ true). let u = ltb-true (j + 1) d.processors z in simp z (λ x x'. omega (arith, u), omega arith, tt))
      (λ (z : nat_lt (j + 1) d.processors ≡ false). simp z (λ x x'. omega arith, omega arith, tt))
      (cases_Bool (nat_lt (j + 1) d.processors)))

  watch_source : (looks : ℕ) → TurnAt (Watching looks)
  watch_source looks =
      by_access d s (Watching looks) word.Source access.Look
      (λ f.
      ⊎_elim
      (λ (z : (f == 0) ≡ true). simp z (λ x x'. omega arith, omega arith, tt))
      (λ (z : (f == 0) ≡ false).
      simp z
      (⊎_elim
      (λ (q : nat_le (d.t1 + d.t2) (looks + 1) ≡ true). simp q (λ x x'. omega arith, omega arith, tt))
      (λ (q : nat_le (d.t1 + d.t2) (looks + 1) ≡ false). let u = leb-false (d.t1 + d.t2) (looks + 1) q in simp q (λ x x'. omega (arith, u), omega arith, tt))
      (cases_Bool (nat_le (d.t1 + d.t2) (looks + 1)))))
      (cases_Bool (f == 0)))

  await_served : TurnAt AwaitingServed
  await_served =
      by_access d s AwaitingServed word.Inside (access.Await 0 0)
      (λ f.
      ⊎_elim
      (λ (z : nat_lt s.watch.wave (length d.waves) ≡ true).
      let u = later_step d s.watch.wave (ltb-true s.watch.wave (length d.waves) z) in simp z (λ x x'. omega (arith, u), omega arith, tt))
      (λ (z : nat_lt s.watch.wave (length d.waves) ≡ false).
      simp z
      (⊎_elim
      (λ (q : nat_lt 0 d.processors ≡ true). simp q (λ x x'. omega arith, omega arith, tt))
      (λ (q : nat_lt 0 d.processors ≡ false). simp q (λ x x'. omega arith, omega arith, tt))
      (cases_Bool (nat_lt 0 d.processors))))
      (cases_Bool (nat_lt s.watch.wave (length d.waves))))

  turn_off : (j : ℕ) → TurnAt (TurningOff j)
  turn_off j =
      by_access d s (TurningOff j) (word.Pend j) (access.Raise 4)
      (λ f.
      ⊎_elim
      (λ (z : nat_lt (j + 1) d.processors ≡ true). let u = ltb-true (j + 1) d.processors z in simp z (λ x x'. omega (arith, u), omega arith, tt))
      (λ (z : nat_lt (j + 1) d.processors ≡ false). simp z (λ x x'. omega arith, omega arith, tt))
      (cases_Bool (nat_lt (j + 1) d.processors)))

  pub chip_turn : (h : Herald) → TurnAt h
  chip_turn AnnouncingBlocked = by_access d s AnnouncingBlocked word.Except (access.Put (blocked_in d.waves s.watch.wave)) (λ f. (λ x x'. omega arith, omega arith, tt))
  chip_turn AnnouncingWave = announce_wave
  chip_turn (Raising j) = raise_wave j
  chip_turn (Watching looks) = watch_source looks
  chip_turn AwaitingServed = await_served
  chip_turn (TurningOff j) = turn_off j
  chip_turn Silenced = tt
