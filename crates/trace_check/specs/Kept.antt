-- What is kept, as contracts see it.
use Rattle.std.specs.Prelude.{◌≡◌, length}
use Rattle.trace_check.specs.declared.kept.Kept.{Kept}
use Rattle.trace_check.specs.Judged.{Judged}

abbrev pub judged_in : Kept → Judged
judged_in k =
    record {
      members = k.members.items;
      waves = k.waves;
      excepted = k.excepted;
      last_excepted = k.last_excepted;
      source = k.source;
      session = k.session;
      judging = k.judge;
    }

-- there is a member for each processor
pub record IsKept (k : Kept) : Type 0 where
  pub size : length k.members.items ≡ k.judge.setup.processors
