-- What a sink in memory has taken.
use Rattle.std.specs.Prelude.{◌≡◌, ◌==◌, ℕ, ◌+◌, ◌-◌, ◌^◌, ◌<◌, ◌≤◌, Bool, false, List, [], min, refl}
use Rattle.std.specs.List.{list_any}
use Rattle.std.proofs.Common.{ap, ◌∙◌, arith}
use Rattle.smm_base.specs.Faults.{Rose}
use Rattle.smm_base.specs.Calls.{Leads, stays, goes}
use Rattle.smm_base.specs.declared.mem_sink.MemSink.{MemSink}

-- the bytes that were taken so far
abbrev pub bytes_of : MemSink → List ℕ
bytes_of sink = sink.taken.items

-- the numbers of the calls that fail
abbrev pub failing_of : MemSink → List ℕ
failing_of sink = sink.failing.items

-- how many writes there were
abbrev pub calls_of : MemSink → ℕ
calls_of sink = sink.calls

-- how many writes have failed
abbrev pub faults_of : MemSink → ℕ
faults_of sink = sink.fault_count

-- how many bytes are taken at most in a call
abbrev pub most_of : MemSink → ℕ
most_of sink = sink.most

-- the bytes, the count of faults, the most for a call and the numbers of the calls that fail stay as they were
abbrev pub KeepsAll : MemSink → MemSink → Type 0
KeepsAll before after = (bytes_of after ≡ bytes_of before) × (faults_of after ≡ faults_of before) × (most_of after ≡ most_of before) × (failing_of after ≡ failing_of before)

-- the number of the next write: the first is 1, and the numbers stand still at the last of their type
abbrev pub next_call : MemSink → ℕ
next_call sink = min (calls_of sink + 1) (2 ^ 64 - 1)

-- the next write is listed as one that fails
abbrev pub fails_at_next : MemSink → Bool
fails_at_next sink = list_any (λ number. number == next_call sink) (failing_of sink)

-- what one write makes of the sink: it counts as a call, the list and the most stay, the count doesn't fall, and doesn't
-- rise at a call that isn't listed
pub record Moves (before after : MemSink) : Type 0 where
  pub numbers : failing_of after ≡ failing_of before
  pub most : most_of after ≡ most_of before
  pub calls : calls_of after ≡ next_call before
  pub count : faults_of before ≤ faults_of after
  pub quiet : fails_at_next before ≡ false → faults_of after ≡ faults_of before

-- no number stays listed where none is
unlisted : {before after : MemSink} → Moves before after → failing_of before ≡ [] → failing_of after ≡ []
unlisted moved none = moved.numbers ∙ none

count_at : {before after : MemSink} → Moves before after → failing_of before ≡ [] → faults_of after ≡ faults_of before
count_at {before} moved none = moved.quiet (ap (list_any (λ number. number == next_call before)) none)

-- where no call is listed, the count doesn't rise
pub keeps_count : {before after : MemSink} → Leads Moves before after → failing_of before ≡ [] → faults_of after ≡ faults_of before
keeps_count stays none = refl
keeps_count (goes moved rest) none = keeps_count rest (unlisted moved none) ∙ count_at moved none

-- no write to it fails: none is listed, and the count can still rise
pub record FaultlessSink (sink : MemSink) : Type 0 where
  pub unlisted : failing_of sink ≡ []
  pub count : faults_of sink < 2 ^ 64 - 1

-- then the count doesn't rise
pub no_write_fails : {before after : MemSink} → FaultlessSink before → Leads Moves before after → Rose (faults_of before) (faults_of after) → ⊥
no_write_fails works led rose = let same = keeps_count led works.unlisted in let below = works.count in omega (arith, same, below, rose)
