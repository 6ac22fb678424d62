-- Each clause follows by the command that the words stand for, if any.
use Rattle.std.proofs.Common.{sym}
use Rattle.smm_base.specs.Calls.{stays}
use Rattle.smm_base.specs.Faults.{Rose}
use Rattle.smm_command.specs.Commands.{texts, form_of}
use Rattle.smm_player.proofs.PlayLemmas.{some_plays, none_plays, memory_plays}
use Rattle.smm_player.proofs.playing.play.Goals as goal

pub returns-in-Ok-Some : goal.returns-in-Ok-Some
returns-in-Ok-Some g c =
    let plays = some_plays (form_of (texts c.args.words.now.items)) c.in-Ok-Some.command (g.F.Store.files c.args.store.now) (g.F.Store.files c.obey.new.store) (Rose (g.F.Store.failed_loads c.args.store.now) (g.F.Store.failed_loads c.obey.new.store)) (Rose (g.K.Sink.faults c.args.out.now) (g.K.Sink.faults c.obey.new.out)) (Rose (g.F.Store.failed_saves c.args.store.now) (g.F.Store.failed_saves c.obey.new.store)) (g.K.Sink.written c.args.out.now) (g.K.Sink.written c.obey.new.out) c.obey.result (sym (rw c.in-Ok-Some.field-0-is at c.in-Ok-Some.ensures.command)) c.obey.ensures.obeys in
    record {
      status = plays.status;
      done = plays.done;
      played = plays.played;
      usage_only = plays.usage_only;
      usage = plays.usage;
      usage_told = plays.usage_told;
      faulted = plays.faulted;
      due = plays.is_due;
      complete = plays.complete;
      fails_outside = plays.outside;
      runs_out = plays.runs_out;
      unsaved = plays.unsaved;
      others_stay = plays.others_stay;
      store_moved = c.obey.ensures.store_moved;
      sink_moved = c.obey.ensures.sink_moved;
    }

pub returns-in-Ok-None : goal.returns-in-Ok-None
returns-in-Ok-None g c =
    let plays = none_plays (form_of (texts c.args.words.now.items)) (g.F.Store.files c.args.store.now) (Rose (g.F.Store.failed_loads c.args.store.now) (g.F.Store.failed_loads c.args.store.now)) (Rose (g.K.Sink.faults c.args.out.now) (g.K.Sink.faults c.tell.new.out)) (Rose (g.F.Store.failed_saves c.args.store.now) (g.F.Store.failed_saves c.args.store.now)) (g.K.Sink.written c.args.out.now) (g.K.Sink.written c.tell.new.out) c.tell.result (sym (rw c.in-Ok-None.field-0-is at c.in-Ok-None.ensures.command)) c.tell.ensures.tells in
    record {
      status = plays.status;
      done = plays.done;
      played = plays.played;
      usage_only = plays.usage_only;
      usage = plays.usage;
      usage_told = plays.usage_told;
      faulted = plays.faulted;
      due = plays.is_due;
      complete = plays.complete;
      fails_outside = plays.outside;
      runs_out = plays.runs_out;
      unsaved = plays.unsaved;
      others_stay = plays.others_stay;
      store_moved = stays;
      sink_moved = c.tell.ensures.moved;
    }

pub returns-in-Err : goal.returns-in-Err
returns-in-Err g c =
    let plays = memory_plays (form_of (texts c.args.words.now.items)) (g.F.Store.files c.args.store.now) (Rose (g.F.Store.failed_loads c.args.store.now) (g.F.Store.failed_loads c.args.store.now)) (Rose (g.K.Sink.faults c.args.out.now) (g.K.Sink.faults c.end_without_memory.new.out)) (Rose (g.F.Store.failed_saves c.args.store.now) (g.F.Store.failed_saves c.args.store.now)) (g.K.Sink.written c.args.out.now) (g.K.Sink.written c.end_without_memory.new.out) c.end_without_memory.result c.end_without_memory.ensures.status c.end_without_memory.ensures.prefix in
    record {
      status = plays.status;
      done = plays.done;
      played = plays.played;
      usage_only = plays.usage_only;
      usage = plays.usage;
      usage_told = plays.usage_told;
      faulted = plays.faulted;
      due = plays.is_due;
      complete = plays.complete;
      fails_outside = plays.outside;
      runs_out = plays.runs_out;
      unsaved = plays.unsaved;
      others_stay = plays.others_stay;
      store_moved = stays;
      sink_moved = c.end_without_memory.ensures.moved;
    }
