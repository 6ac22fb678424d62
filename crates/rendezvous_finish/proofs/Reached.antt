-- What holds of a world that a schedule reaches on a platform.
use Rattle.std.proofs.Common.{◌≡◌, ℕ, ◌+◌, true, List, [], ◌∷◌, ◌++◌, length, refl, ap, sym, subst, ◌∙◌, arith, length-append}
use Rattle.save_state_map.specs.Images.{ImageContents}
use Rattle.cpu_regs.specs.Registers.{Registers}
use Rattle.cpu_table.specs.Data.{SetupData, data_of}
use Rattle.cpu_table.specs.declared.setup.Setup.{Setup}
use Rattle.rendezvous_core.specs.Endings.{IsNeverStuck}
use Rattle.ending_laws.proofs.NeverStuck.{setup_never_stuck}
use Rattle.rendezvous_core.specs.Starts.{AreImagesOf}
use Rattle.rendezvous_core.specs.Worlds.{World, Replay, first_actors, start, world_after, events_from, replay_world, is_complete}
use Rattle.rendezvous_core.proofs.Scheduling.{events_append, world_append}
use Rattle.rendezvous_core.specs.Finishes.{rounds}
use Rattle.rendezvous_finish.specs.Finishes.{AreAtMost, IsReached}
use Rattle.rendezvous_core.proofs.Rounds.{after_actors, rounds_end}
use Rattle.rendezvous_core.proofs.Steps.{still_goes_on}

-- an actor for each processor, and the chipset
first_count : (d : SetupData) (me : ℕ) (registers : List Registers) (images : List ImageContents) → length registers ≡ length images → length (first_actors d me registers images) ≡ length registers + 1
first_count d me [] images e = refl
first_count d me (r ∷ rs) [] e = absurd (omega (arith, e))
first_count d me (r ∷ rs) (image ∷ images) e = let h = first_count d (me + 1) rs images (omega (arith, e)) in omega (arith, h)

module _ (setup : Setup) (registers : List Registers) (images : List ImageContents) (count : length registers ≡ setup.processors) (fit : AreImagesOf (data_of setup) images) (schedule : List ℕ) where
  abbrev d : SetupData
  d = data_of setup

  pub replay_goes_on : IsNeverStuck (replay_world d registers images schedule)
  replay_goes_on = still_goes_on (start d registers images) schedule (setup_never_stuck setup registers images count fit)

  pub replay_actors : length (replay_world d registers images schedule).actors ≡ setup.processors + 1
  replay_actors =
      after_actors (start d registers images) schedule
      ∙ first_count d 0 registers images (count ∙ sym fit.count)
      ∙ ap (λ (n : ℕ). n + 1) count

  -- after as many rounds as there can be events all are off
  pub replay_ends : (most : ℕ) → AreAtMost d registers images most → is_complete (replay_world d registers images (schedule ++ rounds setup.processors most)) ≡ true
  replay_ends most few =
      let w : World = start d registers images in
      ap is_complete (world_append w schedule (rounds setup.processors most))
      ∙ rounds_end (world_after w schedule) setup.processors most replay_goes_on replay_actors
      (λ more.
      let whole = few (schedule ++ more) in
      let two = ap length (events_append w schedule more) in
      let sum = length-append (events_from w schedule) (events_from (world_after w schedule) more) in
      omega (arith, whole, two, sum))

pub reached_goes_on : (setup : Setup) (r : Replay) → IsReached setup r → IsNeverStuck r.world
reached_goes_on setup r h = subst IsNeverStuck (sym h.replay.world) (replay_goes_on setup h.registers h.images h.registers_count h.images_fit h.schedule)

pub reached_actors : (setup : Setup) (r : Replay) → IsReached setup r → length r.world.actors ≡ setup.processors + 1
reached_actors setup r h = ap (λ (w : World). length w.actors) h.replay.world ∙ replay_actors setup h.registers h.images h.registers_count h.images_fit h.schedule
