-- The private fields of a processor, and of a program, as an actor.
use Rattle.cpu_table.specs.Data.{data_of}
use Rattle.cpu_program.specs.Actors.{Processor, Actor, OfProcessor, OfChipset}
use Rattle.cpu_program.specs.declared.processor.Processor.{Processor as ProcessorFields}
use Rattle.cpu_program.specs.declared.state.State.{State}
use Rattle.cpu_program.specs.declared.state.State.TheVariants as state

abbrev pub processor_in : ProcessorFields → Processor
processor_in p =
    record {
      setup = data_of p.identity.setup;
      me = p.identity.me;
      part = p.part;
      visits = p.visits;
      wave = p.wave;
      bsp = p.bsp;
      registers = p.registers;
      last = p.last;
      held = p.held.desks;
      chair = p.chair;
      ran = p.ran;
    }

abbrev pub actor_in : State → Actor
actor_in (state.Processor p) = OfProcessor (processor_in p)
actor_in (state.Chipset c) = OfChipset c
