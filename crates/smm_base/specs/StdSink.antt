-- What the standard output has met with.
use Rattle.std.specs.Prelude.{ℕ, ◌≤◌}
use Rattle.smm_base.specs.declared.std_sink.StdSink.{StdSink}

-- how many writes have failed
abbrev pub faults_of : {R : Type 0} → StdSink R → ℕ
faults_of sink = sink.fault_count

-- what one write makes of the count: it doesn't fall
abbrev pub Moves : {R : Type 0} → StdSink R → StdSink R → Type 0
Moves before after = faults_of before ≤ faults_of after
