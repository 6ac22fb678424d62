-- One word more on which nothing lies.
use Rattle.std.proofs.Common.{None, List, Option, ap, ◌∙◌, ◌++◌, [], ◌∷◌}
use Rattle.std.proofs.lemmas.List.{replicate_more}
use Rattle.cpu_program.specs.declared.cargo.Cargo.{Cargo}
use Rattle.rendezvous_core.proofs.lying_on_kind.LyingOnKind.start.Goals as goal

pub loop-preserved : goal.loop-preserved
loop-preserved c =
    c.in_ok-push.ensures.items ∙ ap (λ (xs : List (Option Cargo)). xs ++ None ∷ []) c.loop.invariant ∙ replicate_more {X = Option Cargo} c.loop.counter None
