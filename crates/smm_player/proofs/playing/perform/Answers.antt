use Rattle.smm_base.specs.Calls.{stays}
use Rattle.smm_base.specs.Faults.{Rose}
use Rattle.smm_player.proofs.PlayLemmas.{make_works, sum_works, writing_saves_nothing}
use Rattle.smm_player.proofs.playing.perform.Goals as goal

pub returns-in-Make : goal.returns-in-Make
returns-in-Make g c =
    let works = make_works c.make.result c.args.command.now c.in-Make.recipe (g.F.Store.files c.args.store.now)
    (Rose (g.F.Store.failed_loads c.args.store.now) (g.F.Store.failed_loads c.args.store.now)) (Rose (g.K.Sink.faults c.args.out.now) (g.K.Sink.faults c.make.new.out))
    (Rose (g.F.Store.failed_saves c.args.store.now) (g.F.Store.failed_saves c.args.store.now)) (g.K.Sink.written c.args.out.now) (g.K.Sink.written c.make.new.out)
    c.in-Make.is c.make.ensures.written c.make.ensures.ends in
    record {
      done = works.done;
      cause = works.cause;
      wrote = works.wrote;
      unsaved = writing_saves_nothing c.make.result (g.F.Store.files c.args.store.now);
      others_stay = works.others_stay;
      store_moved = stays;
      sink_moved = c.make.ensures.moved;
    }

pub returns-in-Sum : goal.returns-in-Sum
returns-in-Sum g c =
    let works = sum_works c.sum.result c.args.command.now c.in-Sum.recipe (g.F.Store.files c.args.store.now)
    (Rose (g.F.Store.failed_loads c.args.store.now) (g.F.Store.failed_loads c.args.store.now)) (Rose (g.K.Sink.faults c.args.out.now) (g.K.Sink.faults c.sum.new.out))
    (Rose (g.F.Store.failed_saves c.args.store.now) (g.F.Store.failed_saves c.args.store.now)) (g.K.Sink.written c.args.out.now) (g.K.Sink.written c.sum.new.out)
    c.in-Sum.is c.sum.ensures.playable c.sum.ensures.written c.sum.ensures.ends in
    record {
      done = works.done;
      cause = works.cause;
      wrote = works.wrote;
      unsaved = writing_saves_nothing c.sum.result (g.F.Store.files c.args.store.now);
      others_stay = works.others_stay;
      store_moved = stays;
      sink_moved = c.sum.ensures.moved;
    }
