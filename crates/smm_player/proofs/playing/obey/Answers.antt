use Rattle.smm_base.specs.Calls.{leads_on, rose_later, rose_further}
use Rattle.smm_base.specs.Faults.{Rose}
use Rattle.smm_player.proofs.PlayLemmas.{command_obeys}
use Rattle.smm_player.proofs.playing.obey.Goals as goal

pub returns-clause-obeys : goal.returns-clause-obeys
returns-clause-obeys g c =
    command_obeys c.judge_laws.ensures.accepts c.perform-done.result c.args.command.now (g.F.Store.files c.args.store.now) (g.F.Store.files c.perform-done.new.store)
    (Rose (g.F.Store.failed_loads c.args.store.now) (g.F.Store.failed_loads c.perform-done.new.store))
    (Rose (g.K.Sink.faults c.args.out.now) (g.K.Sink.faults c.perform-done.new.out))
    (Rose (g.K.Sink.faults c.perform-done.new.out) (g.K.Sink.faults c.finish.new.out))
    (Rose (g.K.Sink.faults c.args.out.now) (g.K.Sink.faults c.finish.new.out))
    (Rose (g.F.Store.failed_saves c.args.store.now) (g.F.Store.failed_saves c.perform-done.new.store))
    (λ rose. rose_further g.K.Sink.faults g.met.K.Sink.never_falls c.args.out.now c.perform-done.new.out c.finish.new.out c.finish.ensures.moved rose)
    (λ rose. rose_later g.K.Sink.faults g.met.K.Sink.never_falls c.args.out.now c.perform-done.new.out c.finish.new.out c.perform-done.ensures.sink_moved rose)
    (g.K.Sink.written c.args.out.now) (g.K.Sink.written c.perform-done.new.out) (g.K.Sink.written c.finish.new.out) c.finish.result
    c.perform-done.ensures.done c.perform-done.ensures.cause c.perform-done.ensures.wrote c.perform-done.ensures.unsaved c.perform-done.ensures.others_stay
    c.finish.ensures.done c.finish.ensures.finishes

pub returns-clause-sink_moved : goal.returns-clause-sink_moved
returns-clause-sink_moved g c = leads_on c.perform-done.ensures.sink_moved c.finish.ensures.moved
