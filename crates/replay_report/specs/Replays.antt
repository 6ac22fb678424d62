-- What a replay leaves, and what follows from its labels.
use Rattle.std.specs.Prelude.{ℕ, ◌≡◌, ◌<◌, Bool, List, filter_map, slice_get, Option, Some}
use Rattle.std.specs.List.{range_with_len}
use Rattle.save_state_map.specs.Images.{ImageContents}
use Rattle.cpu_regs.specs.Registers.{Registers}
use Rattle.sync_words.specs.declared.event.Event.{Event}
use Rattle.rendezvous_machine.specs.Machines.{beginning}
use Rattle.rendezvous_machine.specs.Runs.{Said, IsRun, resumed_image}
use Rattle.rendezvous_core.specs.Starts.{AreImagesOf, first_registers, first_registers_of}
use Rattle.rendezvous_core.specs.Worlds.{World, replay_world, replay_events, is_complete, last_image, labels}
use Rattle.replay_report.specs.Plan.{Plan}
use Rattle.replay_report.specs.Report.{report_text}

-- what a replay leaves: its events, whether every actor is off, and each processor's image after
pub record Replayed : Type 0 where
  pub events : List Event
  pub complete : Bool
  pub images : List ImageContents

-- the images of so many processors, by number
abbrev pub images_by : (ℕ → Option ImageContents) → ℕ → List ImageContents
images_by image_of processors = filter_map image_of (range_with_len 0 processors)

-- the registers that the processors begin with, and the world after the replay
abbrev pub registers_of : Plan → List Registers
registers_of p = first_registers p.setup p.images

abbrev pub world_of : Plan → World
world_of p = replay_world p.setup (registers_of p) p.images p.actors

-- what the replay of a plan leaves
unfoldable pub replayed : Plan → Replayed
replayed p =
    record {
      events = replay_events p.setup (registers_of p) p.images p.actors;
      complete = is_complete (world_of p);
      images = images_by (last_image (world_of p)) p.setup.processors;
    }

-- the image that a processor last resumed from, or its first
unfoldable pub image_after : Plan → ℕ → Option ImageContents
image_after p i = last_image (world_of p) i

-- the labels of the replay's events, each with its actor
abbrev pub labels_of : Plan → List Said
labels_of p = labels (replayed p).events

-- the report of the replay
unfoldable pub report_of : Plan → List ℕ
report_of p = report_text p.setup.processors (replayed p).events (replayed p).complete

-- There is an image for each processor, of the platform's kind: the one that the processor last resumed from.
pub record AreImagesAfter (p : Plan) (images : List ImageContents) : Type 0 where
  pub serve : AreImagesOf p.setup images
  pub each : (i : ℕ) → i < p.setup.processors → slice_get images i ≡ image_after p i

-- The labels of the replay are a run of the rendezvous machine, and each processor's image after follows from them, from the
-- image that it began with and from the platform's causes alone.
pub record FollowsLabels (p : Plan) : Type 0 where
  pub is_run : IsRun p.setup (beginning p.setup (registers_of p) p.images) (labels_of p)
  pub resumed : (i : ℕ) (image : ImageContents) → slice_get p.images i ≡ Some image →
      slice_get (replayed p).images i ≡ Some (resumed_image p.setup i (first_registers_of p.setup i image) image (labels_of p))
