-- The jobs that processors were given and the tokens by which they are asked for, and what each call makes of them.
use Rattle.std.specs.Prelude.{ℕ, ◌+◌, Bool, ◌&&◌, ◌==◌, not, cond, map, List, [], ◌∷◌, ◌++◌, length, replicate, slice_index_or, slice_set, Option, Some, None}
use Rattle.std.specs.List.{find, filter}
use Rattle.std.specs.Option.{option_map}
use Rattle.slab_order.specs.Numbered.{IsRisingBy}
use Rattle.smm_base.specs.declared.status.Status.{Status}
use Rattle.ap_procedure.specs.declared.token.Token.{Token}
use Rattle.ap_procedure.specs.declared.token.TokenState.{TokenState}
use Rattle.ap_procedure.specs.declared.token.TokenState.TheVariants.{Open, Finished}

-- for each processor the number of its uncollected job, the tokens that are out by rising job number, and how many
-- jobs were given, which is the last number given
pub record GivenJobs : Type 0 where
  pub uncollected : List (Option ℕ)
  pub tokens : List Token
  pub given : ℕ

-- no job was given yet to any of so many processors
abbrev pub no_jobs : ℕ → GivenJobs
no_jobs n = record { uncollected = replicate n None; tokens = []; given = 0 }

-- the number of the processor's uncollected job
abbrev pub job_at : ℕ → GivenJobs → Option ℕ
job_at cpu state = slice_index_or state.uncollected cpu None

abbrev pub job_of : Token → ℕ
job_of token = token.job

-- the token is of this job
abbrev pub is_of : ℕ → Token → Bool
is_of job token = job_of token == job

-- the state of the job's token, where one is out
abbrev pub state_of : ℕ → List Token → Option TokenState
state_of job tokens = option_map (λ t. t.state) (find (is_of job) tokens)

-- a token is asked for, and 64 are out
abbrev pub is_refused : Bool → GivenJobs → Bool
is_refused with_token state = with_token && (length state.tokens == 64)

-- a token more, where one is asked for
abbrev pub issued : Bool → Token → List Token → List Token
issued with_token token tokens = cond with_token (tokens ++ token ∷ []) tokens

-- the processor is given the next job, with a token or without
abbrev pub assigned : ℕ → Bool → GivenJobs → GivenJobs
assigned cpu with_token state =
    record {
      uncollected = slice_set state.uncollected cpu (Some (state.given + 1));
      tokens = issued with_token (record { job = state.given + 1; state = Open cpu }) state.tokens;
      given = state.given + 1;
    }

-- a token of this job is finished with this result and status; another stays
abbrev pub finished : ℕ → ℕ → Status → Token → Token
finished job result status token = cond (is_of job token) (record { job = token.job; state = Finished result status }) token

-- the tokens after this job, if one, was collected
abbrev pub with_finished : Option ℕ → ℕ → Status → List Token → List Token
with_finished None result status tokens = tokens
with_finished (Some job) result status tokens = map (finished job result status) tokens

-- the processor's job is collected
abbrev pub collected : ℕ → ℕ → Status → GivenJobs → GivenJobs
collected cpu result status state =
    record state { uncollected = slice_set state.uncollected cpu None; tokens = with_finished (job_at cpu state) result status state.tokens }

-- all tokens but this job's
abbrev pub without : ℕ → List Token → List Token
without job tokens = filter (λ t. not (is_of job t)) tokens

-- the job's token is no more out
abbrev pub dropped : ℕ → GivenJobs → GivenJobs
dropped job state = record state { tokens = without job state.tokens }

-- the tokens' job numbers rise, from above the first bound to at most the second
abbrev pub IsRising : ℕ → ℕ → List Token → Type 0
IsRising above last tokens = IsRisingBy job_of above last tokens
