use Rattle.std.proofs.Common.{◌≡◌, ◌<◌, ℕ, true, length, get_or}
use Rattle.rendezvous_core.proofs.awake.wake.Given as goal

abbrev pub invariant-loop-place : goal.invariant-loop-place
invariant-loop-place l = record {
  size : length l.awake ≡ length l.fn.awake;
  done : (k : ℕ) → k < l.place → get_or l.awake k true ≡ true;
}
