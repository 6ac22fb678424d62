use Rattle.std.proofs.Common.{◌*◌, ap, sym, ◌∙◌}
use Rattle.schedule_file.proofs.ActorLists.{length-round_of}
use Rattle.schedule_file.proofs.actors.count_actors.Goals as goal

pub returns-clause-count : goal.returns-clause-count
returns-clause-count c = ap (λ times. times * c.args.round.actors) c.from.ensures ∙ sym (length-round_of c.args.round.first c.args.round.actors c.args.round.times)
