use Rattle.std.proofs.Common.{◌≡◌, None, replicate}
use Rattle.rendezvous_core.proofs.lying_on_kind.LyingOnKind.start.Given as goal

abbrev pub invariant-loop : goal.invariant-loop
invariant-loop l = l.things.items ≡ replicate l.counter None
