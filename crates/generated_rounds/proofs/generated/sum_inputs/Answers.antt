use Rattle.cpu_table.specs.Data.{data_of}
use Rattle.generated_rounds.proofs.RoundLemmas.{sum_playable, sum_plan_is}
use Rattle.generated_rounds.proofs.generated.sum_inputs.Goals as goal

pub returns-clause-playable : goal.returns-clause-playable
returns-clause-playable c =
    sum_playable c.args.recipe c.in_ok-setup.setup c.in_ok-images.images.items c.in_ok-actors.actors.items c.in_ok-setup.ensures c.in_ok-images.ensures c.in_ok-actors.ensures

pub returns-clause-plan : goal.returns-clause-plan
returns-clause-plan c =
    sum_plan_is c.args.recipe (data_of c.in_ok-setup.setup) c.in_ok-images.images.items c.in_ok-actors.actors.items c.in_ok-setup.ensures c.in_ok-images.ensures c.in_ok-actors.ensures
