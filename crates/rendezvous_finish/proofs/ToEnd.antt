-- A replay from the start of a platform, by a schedule and then by rounds.
use Rattle.std.proofs.Common.{◌≡◌, ◌≤◌, ℕ, ◌+◌, List, [], ◌∷◌, ◌++◌, length, refl, ap, sym, subst, ◌∙◌, suc, arith}
use Rattle.std.proofs.lemmas.List.{length-map}
use Rattle.std.specs.Prelude.{All}
use Rattle.std.specs.List.{enumerate_from}
use Rattle.save_state_map.specs.Images.{ImageContents}
use Rattle.cpu_regs.specs.Registers.{Registers}
use Rattle.cpu_table.specs.Data.{SetupData, data_of}
use Rattle.cpu_table.specs.declared.setup.Setup.{Setup}
use Rattle.rendezvous_core.specs.Starts.{AreImagesOf, first_registers, first_registers_of}
use Rattle.rendezvous_core.specs.Worlds.{Replay, start, replay_world, replay_events}
use Rattle.rendezvous_core.specs.Finishes.{rounds, actors_of, played_on, HasRoomForAll, IsPrefix, IsReplayOf}
use Rattle.rendezvous_finish.specs.Finishes.{AreAtMost, IsReached}
use Rattle.rendezvous_core.proofs.Own.{replay_on, replay_own, replay_begins}

length-enumerate : (i : ℕ) (images : List ImageContents) → length (enumerate_from i images) ≡ length images
length-enumerate i [] = refl
length-enumerate i (image ∷ images) = ap suc (length-enumerate (i + 1) images)

module _ (setup : Setup) (images : List ImageContents) (fit : AreImagesOf (data_of setup) images) (room : ℕ) where
  abbrev d : SetupData
  d = data_of setup

  abbrev registers : List Registers
  registers = first_registers d images

  abbrev pub first : Replay
  first = record { processors = setup.processors; world = start d registers images; events = []; room = room }

  registers_count : length registers ≡ setup.processors
  registers_count = length-map (enumerate_from 0 images) (λ (x : ℕ × ImageContents). first_registers_of d x.0 x.1) ∙ length-enumerate 0 images ∙ fit.count

  pub first_has_room : AreAtMost d registers images room → (r : Replay) → r ≡ first → HasRoomForAll r
  first_has_room few r is = subst HasRoomForAll (sym is) (λ schedule. let most = few schedule in omega (arith, most))

  played_replay : (schedule : List ℕ) → IsReplayOf d registers images schedule (played_on first schedule)
  played_replay schedule = record { world = refl; events = refl }

  pub known_here : (r : Replay) (schedule : List ℕ) → r ≡ first → All (λ actor. actor ≤ setup.processors) schedule → All (λ actor. actor ≤ r.processors) schedule
  known_here r schedule is known = subst (λ (x : Replay). All (λ actor. actor ≤ x.processors) schedule) (sym is) known

  pub first_reached : (r : Replay) → r ≡ first → IsReached setup r
  first_reached r is =
      subst (λ (x : Replay). IsReached setup x) (sym is)
      (record {
        processors = refl;
        registers = registers;
        images = images;
        schedule = [];
        registers_count = registers_count;
        images_fit = fit;
        replay = record { world = refl; events = refl };
      })

  -- what the whole replay is
  pub record IsWhole (schedule : List ℕ) (t : Replay) : Type 0 where
    pub world : t.world ≡ replay_world d registers images (schedule ++ rounds setup.processors room)
    pub events : t.events ≡ replay_events d registers images (schedule ++ rounds setup.processors room)
    pub processors : t.processors ≡ setup.processors
    pub begins : IsPrefix (replay_events d registers images schedule) t.events
    pub replayed : IsReplayOf d registers images (actors_of t.events) t

  whole_first : (schedule : List ℕ) → IsWhole schedule (played_on (played_on first schedule) (rounds setup.processors room))
  whole_first schedule =
      let more : List ℕ = rounds setup.processors room in
      let t : Replay = played_on (played_on first schedule) more in
      let both = replay_on d registers images (played_on first schedule) schedule more (played_replay schedule) in
      record {
        world = both.world;
        events = both.events;
        processors = refl;
        begins = subst (IsPrefix (replay_events d registers images schedule)) (sym both.events) (replay_begins d registers images schedule more);
        replayed = replay_own d registers images t (schedule ++ more) both;
      }

  pub whole : (r t : Replay) (schedule : List ℕ) → r ≡ first → t ≡ played_on (played_on r schedule) (rounds setup.processors r.room) → IsWhole schedule t
  whole r t schedule is rest =
      let t_is : t ≡ played_on (played_on first schedule) (rounds setup.processors room) =
      rest ∙ ap (λ (x : Replay). played_on (played_on x schedule) (rounds setup.processors x.room)) is in
      subst (IsWhole schedule) (sym t_is) (whole_first schedule)

-- a schedule leads on from where one has led
pub reached_further : (setup : Setup) (r s : Replay) (more : List ℕ) → IsReached setup r → s ≡ played_on r more → IsReached setup s
reached_further setup r s more h is =
    subst (λ (x : Replay). IsReached setup x) (sym is)
    (record {
      processors = h.processors;
      registers = h.registers;
      images = h.images;
      schedule = h.schedule ++ more;
      registers_count = h.registers_count;
      images_fit = h.images_fit;
      replay = replay_on (data_of setup) h.registers h.images r h.schedule more h.replay;
    })

-- a schedule, and then rounds
pub carried : (r s t : Replay) (n : ℕ) (now items : List ℕ) → now ≡ items → s ≡ played_on r now → t ≡ played_on s (rounds n s.room) → t ≡ played_on (played_on r items) (rounds n r.room)
carried r s t n now items same played rest = rest ∙ ap (λ (x : Replay). played_on x (rounds n x.room)) (played ∙ ap (played_on r) same)
