-- A program: what its actor wants, what changes hands, and what its event says.
use Rattle.std.specs.Prelude.{List, ℕ, ◌≡◌, nat_lt, Bool, is_none, replicate, slice_set, Option, Some, None}
use Rattle.save_state_map.specs.Images.{ImageContents}
use Rattle.cpu_regs.specs.Registers.{Registers}
use Rattle.cpu_table.specs.Data.{SetupData}
use Rattle.sync_words.specs.declared.event.Event.{Event}
use Rattle.sync_words.specs.declared.event.Hand.{Hand}
use Rattle.sync_words.specs.declared.event.Hand.TheVariants.{Nothing, Give, Take}
use Rattle.sync_words.specs.declared.event.Want.{Want}
use Rattle.sync_words.specs.declared.event.Want.TheVariants as want
use Rattle.sync_words.specs.declared.row.Row.TheVariants as row
use Rattle.sync_words.specs.declared.label.Label.TheVariants as say
use Rattle.sync_words.specs.Steps.{Taken, says, hand_of}
use Rattle.handler_ops.specs.declared.desk.Desk.{Desk}
use Rattle.handler_ops.specs.Sessions.{Session}
use Rattle.chipset.specs.Chipsets.{Chipset, first_chipset, want_at_row, taken_at_row}
use Rattle.cpu_program.specs.Actors.{Processor, Actor, OfProcessor, OfChipset, Cargo, Between}
use Rattle.cpu_program.specs.Processors as processor
use Rattle.cpu_program.specs.Hands.{thing_given, after_giving, after_receiving}

-- THE START

-- the one desk that a processor holds at first, its own, which has its image and no job
abbrev pub held_at_first : ℕ → ℕ → ImageContents → List (Option Desk)
held_at_first processors me image = slice_set (replicate processors None) me (Some (record { image = image; job = None }))

-- a processor waits for its interrupt
abbrev pub first_processor : SetupData → ℕ → ImageContents → Registers → Option Session → Processor
first_processor d me image registers chair =
    record {
      setup = d;
      me = me;
      part = Between row.AwaitSmi;
      visits = 0;
      wave = 0;
      bsp = 0;
      registers = registers;
      last = image;
      held = held_at_first d.processors me image;
      chair = chair;
      ran = None;
    }

-- the actors below the number of processors are processors, and the one after them is the chipset
abbrev pub is_processor : ℕ → ℕ → Bool
is_processor processors actor = nat_lt actor processors

-- an actor with an image and registers is a processor
abbrev pub first_actor : SetupData → ℕ → Option ImageContents → Option Registers → Option Session → Actor
first_actor d actor (Some image) (Some registers) chair = OfProcessor (first_processor d actor image registers chair)
first_actor d actor image registers chair = OfChipset (first_chipset d)

-- WANTS

-- what an actor wants: an access to a word with what changes hands, or nothing where it is off
abbrev pub want_of : Actor → Want
want_of (OfProcessor p) = processor.want_in p.part p
want_of (OfChipset c) = want_at_row c.row c

-- an actor that is off wants nothing
abbrev pub is_off : Actor → Bool
is_off (OfProcessor p) = processor.is_off_part p.part
is_off (OfChipset c) = is_none c.row

-- EVENTS

-- it is an access
abbrev pub IsAccess : Want → Type 0
IsAccess (want.Access word access hand) = Unit {0}
IsAccess want.Off = ⊥

-- the word and the access of an event are those that were wanted
abbrev pub IsWanted : Want → Event → Type 0
IsWanted (want.Access word access hand) e = (e.word ≡ word) × (e.access ≡ access)
IsWanted want.Off e = ⊥

abbrev pub processor_taken : Taken Processor → Taken Actor
processor_taken t = says t.label (OfProcessor t.after)

abbrev pub chipset_taken : Taken Chipset → Taken Actor
chipset_taken t = says t.label (OfChipset t.after)

-- what the event says by the number found, and the actor after it; what changes hands has done so
abbrev pub taken : Actor → ℕ → Taken Actor
taken (OfProcessor p) found = processor_taken (processor.taken_in p.part p found)
taken (OfChipset c) found = chipset_taken (taken_at_row c.row c found)

-- HANDS

-- what the wanted hand gives, where the actor has it
abbrev pub gift_of_hand : Hand → Processor → Option Cargo
gift_of_hand (Give k) p = thing_given p k
gift_of_hand _ p = None

abbrev pub gift_of : Actor → Option Cargo
gift_of (OfProcessor p) = gift_of_hand (hand_of (want_of (OfProcessor p))) p
gift_of (OfChipset c) = None

abbrev pub given_by_hand : Hand → Processor → Processor
given_by_hand (Give k) p = after_giving p k
given_by_hand _ p = p

-- the actor after it gave what it wanted to give
abbrev pub given : Actor → Actor
given (OfProcessor p) = OfProcessor (given_by_hand (hand_of (want_of (OfProcessor p))) p)
given (OfChipset c) = OfChipset c

-- what was given and didn't move comes back the same way
abbrev pub received_by_hand : Hand → Cargo → Processor → Processor
received_by_hand (Take k) cargo p = after_receiving p k cargo
received_by_hand (Give k) cargo p = after_receiving p k cargo
received_by_hand Nothing cargo p = p

-- the actor after it received what it wanted to take, or what it had given and didn't move
abbrev pub received : Cargo → Actor → Actor
received cargo (OfProcessor p) = OfProcessor (received_by_hand (hand_of (want_of (OfProcessor p))) cargo p)
received cargo (OfChipset c) = OfChipset c

-- THE END

-- the image of the last resume, or the first image of a processor
abbrev pub last_of : Actor → Option ImageContents
last_of (OfProcessor p) = Some p.last
last_of (OfChipset c) = None

-- how many processors there are where the actor is
abbrev pub processors_of : Actor → ℕ
processors_of (OfProcessor p) = p.setup.processors
processors_of (OfChipset c) = c.setup.processors

-- the actor's number: that of the processor, or for the chipset that of the processors
abbrev pub number_of : Actor → ℕ
number_of (OfProcessor p) = p.me
number_of (OfChipset c) = c.setup.processors
