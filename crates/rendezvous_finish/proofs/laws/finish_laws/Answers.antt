use Rattle.rendezvous_core.specs.Worlds.{start}
use Rattle.rendezvous_core.proofs.Own.{own, replay_begins}
use Rattle.rendezvous_finish.proofs.Reached.{replay_ends}
use Rattle.rendezvous_finish.proofs.laws.finish_laws.Goals as goal

pub returns : goal.returns
returns c =
    record {
      ends = λ setup registers images schedule most count fit few. replay_ends setup registers images count fit schedule most few;
      begins = λ d registers images schedule more. replay_begins d registers images schedule more;
      own_events = λ d registers images schedule. (own (start d registers images) schedule).events;
      own_world = λ d registers images schedule. (own (start d registers images) schedule).world;
    }
