-- What becomes of jobs and tokens over many calls.
use Rattle.std.specs.Prelude.{◌≡◌, ℕ, ◌<◌, ◌≤◌, Bool, false, ◌==◌, cond, List, [], ◌∷◌, length, Some, None, IsSome}
use Rattle.smm_base.specs.declared.status.Status.{Status}
use Rattle.ap_procedure.specs.Given.{GivenJobs, job_at, is_refused, assigned, collected, dropped, IsRising}

-- a call of `give`, of `collect` or of `drop_token`
pub data Step : Type 0 where
  Give : ℕ → Bool → Step
  Collect : ℕ → ℕ → Status → Step
  Drop : ℕ → Step

-- the call may be made
abbrev pub MayStep : Step → GivenJobs → Type 0
MayStep (Give cpu with_token) state = (cpu < length state.uncollected) × (job_at cpu state ≡ None)
MayStep (Collect cpu result status) state = IsSome (job_at cpu state)
MayStep (Drop job) state = Unit {0}

-- the jobs and tokens after the call; a `give` that is refused changes nothing
abbrev pub stepped : Step → GivenJobs → GivenJobs
stepped (Give cpu with_token) state = cond (is_refused with_token state) state (assigned cpu with_token state)
stepped (Collect cpu result status) state = collected cpu result status state
stepped (Drop job) state = dropped job state

-- the jobs and tokens after these calls, one after the other
abbrev pub all_stepped : List Step → GivenJobs → GivenJobs
all_stepped [] state = state
all_stepped (step ∷ rest) state = all_stepped rest (stepped step state)

-- the call drops this job's token
abbrev pub is_drop_of : ℕ → Step → Bool
is_drop_of job (Give cpu with_token) = false
is_drop_of job (Collect cpu result status) = false
is_drop_of job (Drop other) = other == job

-- what calls can make of no jobs: each number was given, no two processors have an uncollected job of one number,
-- and each token is of a job that was given
pub record AreGiven (state : GivenJobs) : Type 0 where
  pub numbered : (cpu job : ℕ) → job_at cpu state ≡ Some job → job ≤ state.given
  pub one_processor : (a b job : ℕ) → job_at a state ≡ Some job → job_at b state ≡ Some job → a ≡ b
  pub rising : IsRising 0 state.given state.tokens
