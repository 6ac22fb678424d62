use Rattle.serving_place.proofs.Runs.{is_over, is_whole}
use Rattle.serving_place.proofs.Completion.{completes}
use Rattle.serving_place.proofs.Judging.{one_step}
use Rattle.serving_place.proofs.laws.serving_lists.Goals as goal

pub returns : goal.returns
returns c =
    record {
      step = one_step;
      over = λ program p. (is_over program p.kinds p.walks p.begun p.state, is_whole program p.kinds p.walks p.begun p.state);
      rest = completes;
    }
