-- What a store in memory holds.
use Rattle.std.specs.Prelude.{◌≡◌, ◌==◌, ℕ, ◌+◌, ◌-◌, ◌^◌, ◌<◌, ◌≤◌, Bool, false, List, [], Option, min, refl}
use Rattle.std.specs.List.{list_any}
use Rattle.std.proofs.Common.{ap, ◌∙◌, arith}
use Rattle.std.specs.Option.{option_map}
use Rattle.std.specs.BTreeMap.{get_by_text}
use Rattle.smm_base.specs.declared.mem_store.MemStore.{MemStore}
use Rattle.smm_base.specs.Faults.{Rose}
use Rattle.smm_base.specs.Calls.{Leads, stays, goes}

-- what a name holds, and `None` where it isn't held
abbrev pub file_of : MemStore → List ℕ → Option (List ℕ)
file_of store name = option_map (λ content. content.items) (get_by_text store.contents name)

-- the numbers of the calls that fail
abbrev pub failing_of : MemStore → List ℕ
failing_of store = store.failing.items

-- how many loads and saves there were
abbrev pub calls_of : MemStore → ℕ
calls_of store = store.calls

-- how many loads have failed
abbrev pub failed_loads_of : MemStore → ℕ
failed_loads_of store = store.load_faults

-- how many saves have failed
abbrev pub failed_saves_of : MemStore → ℕ
failed_saves_of store = store.save_faults

-- all files stay as they were
abbrev pub KeepsFiles : MemStore → MemStore → Type 0
KeepsFiles before after = after.contents ≡ before.contents

-- both counts of faults stay as they were
abbrev pub KeepsCounts : MemStore → MemStore → Type 0
KeepsCounts before after = (failed_loads_of after ≡ failed_loads_of before) × (failed_saves_of after ≡ failed_saves_of before)

-- the number of the next call: the first is 1, and the numbers stand still at the last of their type
abbrev pub next_call : MemStore → ℕ
next_call store = min (calls_of store + 1) (2 ^ 64 - 1)

-- the next call is listed as one that fails
abbrev pub fails_at_next : MemStore → Bool
fails_at_next store = list_any (λ number. number == next_call store) (failing_of store)

-- what one load or save makes of the store: it counts as a call, the list stays, no count falls, and none rises at a call
-- that isn't listed
pub record Moves (before after : MemStore) : Type 0 where
  pub numbers : failing_of after ≡ failing_of before
  pub calls : calls_of after ≡ next_call before
  pub loads : failed_loads_of before ≤ failed_loads_of after
  pub saves : failed_saves_of before ≤ failed_saves_of after
  pub quiet : fails_at_next before ≡ false → KeepsCounts before after

-- no number stays listed where none is
unlisted : {before after : MemStore} → Moves before after → failing_of before ≡ [] → failing_of after ≡ []
unlisted moved none = moved.numbers ∙ none

counts_at : {before after : MemStore} → Moves before after → failing_of before ≡ [] → KeepsCounts before after
counts_at {before} moved none = moved.quiet (ap (list_any (λ number. number == next_call before)) none)

-- where no call is listed, no count rises
pub keeps_counts : {before after : MemStore} → Leads Moves before after → failing_of before ≡ [] → KeepsCounts before after
keeps_counts stays none = (refl, refl)
keeps_counts (goes moved rest) none =
    let first = counts_at moved none in
    let others = keeps_counts rest (unlisted moved none) in
    (others.0 ∙ first.0, others.1 ∙ first.1)

-- no call of it fails: none is listed, and each count can still rise
pub record FaultlessStore (store : MemStore) : Type 0 where
  pub unlisted : failing_of store ≡ []
  pub loads : failed_loads_of store < 2 ^ 64 - 1
  pub saves : failed_saves_of store < 2 ^ 64 - 1

-- then no count rises
pub no_load_fails : {before after : MemStore} → FaultlessStore before → Leads Moves before after → Rose (failed_loads_of before) (failed_loads_of after) → ⊥
no_load_fails works led rose = let same = (keeps_counts led works.unlisted).0 in let below = works.loads in omega (arith, same, below, rose)

pub no_save_fails : {before after : MemStore} → FaultlessStore before → Leads Moves before after → Rose (failed_saves_of before) (failed_saves_of after) → ⊥
no_save_fails works led rose = let same = (keeps_counts led works.unlisted).1 in let below = works.saves in omega (arith, same, below, rose)
