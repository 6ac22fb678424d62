use Rattle.std.proofs.Common.{length, ◌-◌, ◌≡◌, ◌≤◌, take}
use Rattle.smm_base.specs.Calls.{Leads}
use Rattle.smm_base.specs.Sink.{appended}
use Rattle.smm_base.proofs.sink.write_all.Given as goal

abbrev pub invariant-loop-done : goal.invariant-loop-done
invariant-loop-done g l = record {
  within : l.done ≤ length l.piece;
  written : g.K.Sink.written l.out ≡ appended (g.K.Sink.written l.fn.out) (take l.done l.piece);
  moved : Leads g.K.Sink.moves l.fn.out l.out;
}

abbrev pub decreases-loop-done : goal.decreases-loop-done
decreases-loop-done g l = length l.piece - l.done
