-- Lemmas on jobs and tokens over many calls.
use Rattle.std.proofs.Common.{◌≡◌, ◌≢◌, ◌⊎◌, ℕ, zero, suc, ◌+◌, ◌<◌, ◌≤◌, ◌==◌, Bool, true, false, ◌||◌, not, cond, List, [], ◌∷◌, ◌++◌, map, get_or, set, replicate, Option, Some, None, is_some, refl, sym, ap, ◌∙◌, inl, inr, arith, ne_eqb}
use Rattle.std.specs.List.{find, list_any}
use Rattle.std.specs.Option.{option_map}
use Rattle.std.proofs.lemmas.List.Folds.{list_any-append}
use Rattle.smm_base.specs.declared.status.Status.{Status}
use Rattle.slab_order.proofs.RisingLemmas.{rising_filtered}
use Rattle.ap_procedure.specs.declared.token.Token.{Token}
use Rattle.ap_procedure.specs.declared.token.TokenState.TheVariants.{Open}
use Rattle.ap_procedure.specs.Given.{GivenJobs, no_jobs, job_at, job_of, is_of, state_of, is_refused, issued, assigned, finished, with_finished, without, dropped, IsRising}
use Rattle.ap_procedure.specs.Steps.{Step, MayStep, stepped, all_stepped, is_drop_of, AreGiven}
use Rattle.ap_procedure.specs.Steps.Step.{Give, Collect, Drop}
use Rattle.ap_procedure.proofs.JobLemmas.{finished_job, rising_issued, rising_with_finished}

-- ---- the count of jobs

step_rises : (step : Step) (state : GivenJobs) → state.given ≤ (stepped step state).given
step_rises (Give cpu with_token) state = by_refused (is_refused with_token state)
  where
    by_refused : (b : Bool) → state.given ≤ (cond b state (assigned cpu with_token state)).given
    by_refused true = omega arith
    by_refused false = omega arith
step_rises (Collect cpu result status) state = omega arith
step_rises (Drop job) state = omega arith

steps_rise : (steps : List Step) (state : GivenJobs) → state.given ≤ (all_stepped steps state).given
steps_rise [] state = omega arith
steps_rise (step ∷ rest) state = omega (arith, step_rises step state, steps_rise rest (stepped step state))

pub given_once : (cpu : ℕ) (with_token : Bool) (steps : List Step) (state : GivenJobs) → state.given + 1 ≤ (all_stepped steps (assigned cpu with_token state)).given
given_once cpu with_token steps state = steps_rise steps (assigned cpu with_token state)

-- ---- one processor

none_at : (n cpu : ℕ) → get_or (replicate {A = Option ℕ} n None) cpu None ≡ None
none_at zero cpu = refl
none_at (suc n) zero = refl
none_at (suc n) (suc cpu) = none_at n cpu

pub at_first : (n : ℕ) → AreGiven (no_jobs n)
at_first n =
    record {
      numbered = λ cpu job e. absurd (cc (none_at n cpu, e));
      one_processor = λ a b job e f. absurd (cc (none_at n a, e));
      rising = tt;
    }

taken_from : (xs : List (Option ℕ)) (cpu a job : ℕ) → get_or (set xs cpu None) a None ≡ Some job → get_or xs a None ≡ Some job
taken_from [] cpu a job e = e
taken_from (x ∷ rest) zero zero job e = absurd (cc e)
taken_from (x ∷ rest) zero (suc a) job e = e
taken_from (x ∷ rest) (suc cpu) zero job e = e
taken_from (x ∷ rest) (suc cpu) (suc a) job e = taken_from rest cpu a job e

given_or_had : (xs : List (Option ℕ)) (cpu n a job : ℕ) → get_or (set xs cpu (Some n)) a None ≡ Some job → ((a ≡ cpu) × (job ≡ n)) ⊎ (get_or xs a None ≡ Some job)
given_or_had [] cpu n a job e = inr e
given_or_had (x ∷ rest) zero n zero job e = inl (refl, grind (arith, e))
given_or_had (x ∷ rest) zero n (suc a) job e = inr e
given_or_had (x ∷ rest) (suc cpu) n zero job e = inr e
given_or_had (x ∷ rest) (suc cpu) n (suc a) job e =
    elim (given_or_had rest cpu n a job e) [ inl here ↦ inl (ap suc here.0, here.1) | inr had ↦ inr had ]

pub kept_given : (cpu : ℕ) (with_token : Bool) (state : GivenJobs) → AreGiven state → AreGiven (assigned cpu with_token state)
kept_given cpu with_token state k =
    record {
      numbered = λ a job e. elim (given_or_had state.uncollected cpu (state.given + 1) a job e) [
        | inl here ↦ omega (arith, here.1)
        | inr had ↦ omega (arith, k.numbered a job had)
      ];
      one_processor = λ a b job e f. elim (given_or_had state.uncollected cpu (state.given + 1) a job e) [
        | inl here ↦ elim (given_or_had state.uncollected cpu (state.given + 1) b job f) [
          | inl there ↦ here.0 ∙ sym there.0
          | inr had ↦ absurd (omega (arith, here.1, k.numbered b job had))
        ]
        | inr had ↦ elim (given_or_had state.uncollected cpu (state.given + 1) b job f) [
          | inl there ↦ absurd (omega (arith, there.1, k.numbered a job had))
          | inr too ↦ k.one_processor a b job had too
        ]
      ];
      rising = rising_issued with_token (record { job = state.given + 1; state = Open cpu }) state.given state.tokens refl k.rising;
    }

pub kept_collected : (cpu : ℕ) (job : Option ℕ) (result : ℕ) (status : Status) (state : GivenJobs) → AreGiven state →
    AreGiven (record state { uncollected = set state.uncollected cpu None; tokens = with_finished job result status state.tokens })
kept_collected cpu job result status state k =
    record {
      numbered = λ a n e. k.numbered a n (taken_from state.uncollected cpu a n e);
      one_processor = λ a b n e f. k.one_processor a b n (taken_from state.uncollected cpu a n e) (taken_from state.uncollected cpu b n f);
      rising = rising_with_finished job result status 0 state.given state.tokens k.rising;
    }

pub kept_dropped : (job : ℕ) (state : GivenJobs) → AreGiven state → AreGiven (dropped job state)
kept_dropped job state k =
    record { numbered = k.numbered; one_processor = k.one_processor; rising = rising_filtered job_of _ 0 state.given state.tokens k.rising }

pub kept : (step : Step) (state : GivenJobs) → MayStep step state → AreGiven state → AreGiven (stepped step state)
kept (Give cpu with_token) state may k = by_refused (is_refused with_token state)
  where
    by_refused : (b : Bool) → AreGiven (cond b state (assigned cpu with_token state))
    by_refused true = k
    by_refused false = kept_given cpu with_token state k
kept (Collect cpu result status) state may k = kept_collected cpu (job_at cpu state) result status state k
kept (Drop job) state may k = kept_dropped job state k

-- ---- tokens

out_some : (job : ℕ) (ts : List Token) → is_some (state_of job ts) ≡ list_any (is_of job) ts
out_some job [] = refl
out_some job (t ∷ rest) = by_test (is_of job t) (out_some job rest)
  where
    by_test : (b : Bool) → is_some (state_of job rest) ≡ list_any (is_of job) rest → is_some (option_map (λ t. t.state) (cond b (Some t) (find (is_of job) rest))) ≡ (b || list_any (is_of job) rest)
    by_test true ih = refl
    by_test false ih = ih

none_above : (n last job : ℕ) (ts : List Token) → last < job → IsRising n last ts → state_of job ts ≡ None
none_above n last job [] h r = refl
none_above n last job (t ∷ rest) h r =
    let differs : t.job ≢ job = omega (arith, h, r.1) in
    rw (ne_eqb t.job job differs) (none_above t.job last job rest h r.2)

pub not_before : (state : GivenJobs) → AreGiven state → state_of (state.given + 1) state.tokens ≡ None
not_before state k = none_above 0 state.given (state.given + 1) state.tokens (omega arith) k.rising

any_last : (job : ℕ) (ts : List Token) (t : Token) → t.job ≡ job → list_any (is_of job) (ts ++ t ∷ []) ≡ true
any_last job [] t e = grind (arith, e)
any_last job (x ∷ rest) t e = by_test (is_of job x) (any_last job rest t e)
  where
    by_test : (b : Bool) → list_any (is_of job) (rest ++ t ∷ []) ≡ true → (b || list_any (is_of job) (rest ++ t ∷ [])) ≡ true
    by_test true ih = refl
    by_test false ih = ih

pub out_at_first : (cpu : ℕ) (state : GivenJobs) → is_some (state_of (state.given + 1) (assigned cpu true state).tokens) ≡ true
out_at_first cpu state =
    out_some (state.given + 1) (assigned cpu true state).tokens ∙ any_last (state.given + 1) state.tokens (record { job = state.given + 1; state = Open cpu }) refl

any_more : (job : ℕ) (ts more : List Token) → list_any (is_of job) ts ≡ true → list_any (is_of job) (ts ++ more) ≡ true
any_more job ts more e = list_any-append (is_of job) ts more ∙ rw e refl

any_finished : (job other result : ℕ) (status : Status) (ts : List Token) → list_any (is_of job) (map (finished other result status) ts) ≡ list_any (is_of job) ts
any_finished job other result status [] = refl
any_finished job other result status (t ∷ rest) = rw (finished_job other result status t, any_finished job other result status rest) refl

any_with_finished : (job : ℕ) (other : Option ℕ) (result : ℕ) (status : Status) (ts : List Token) → list_any (is_of job) (with_finished other result status ts) ≡ list_any (is_of job) ts
any_with_finished job None result status ts = refl
any_with_finished job (Some other) result status ts = any_finished job other result status ts

any_without : (job other : ℕ) (ts : List Token) → other ≢ job → list_any (is_of job) (without other ts) ≡ list_any (is_of job) ts
any_without job other [] n = refl
any_without job other (t ∷ rest) n = by_test (t.job == other) refl (any_without job other rest n)
  where
    by_test : (b : Bool) → (t.job == other) ≡ b → list_any (is_of job) (without other rest) ≡ list_any (is_of job) rest → list_any (is_of job) (cond (not b) (t ∷ without other rest) (without other rest)) ≡ ((t.job == job) || list_any (is_of job) rest)
    by_test true e ih =
        let differs : t.job ≢ job = grind (arith, e, n) in
        rw (ne_eqb t.job job differs) ih
    by_test false e ih = rw ih refl

none_without : (job : ℕ) (ts : List Token) → state_of job (without job ts) ≡ None
none_without job [] = refl
none_without job (t ∷ rest) = by_test (t.job == job) refl (none_without job rest)
  where
    by_test : (b : Bool) → (t.job == job) ≡ b → state_of job (without job rest) ≡ None → state_of job (cond (not b) (t ∷ without job rest) (without job rest)) ≡ None
    by_test true e ih = ih
    by_test false e ih = rw e ih

pub not_after : (job : ℕ) (state : GivenJobs) → state_of job (dropped job state).tokens ≡ None
not_after job state = none_without job state.tokens

step_stays : (step : Step) (state : GivenJobs) (job : ℕ) → is_drop_of job step ≡ false → list_any (is_of job) state.tokens ≡ true → list_any (is_of job) (stepped step state).tokens ≡ true
step_stays (Give cpu with_token) state job n e = by_refused (is_refused with_token state)
  where
    t : Token
    t = record { job = state.given + 1; state = Open cpu }

    by_token : (b : Bool) → list_any (is_of job) (issued b t state.tokens) ≡ true
    by_token true = any_more job state.tokens (t ∷ []) e
    by_token false = e

    by_refused : (b : Bool) → list_any (is_of job) (cond b state (assigned cpu with_token state)).tokens ≡ true
    by_refused true = e
    by_refused false = by_token with_token
step_stays (Collect cpu result status) state job n e = any_with_finished job (job_at cpu state) result status state.tokens ∙ e
step_stays (Drop other) state job n e = any_without job other state.tokens (λ (same : other ≡ job). grind (arith, n, same)) ∙ e

steps_stay : (steps : List Step) (state : GivenJobs) (job : ℕ) → list_any (is_drop_of job) steps ≡ false → list_any (is_of job) state.tokens ≡ true → list_any (is_of job) (all_stepped steps state).tokens ≡ true
steps_stay [] state job n e = e
steps_stay (step ∷ rest) state job n e = by_test (is_drop_of job step) refl n (λ m f. steps_stay rest (stepped step state) job m f)
  where
    by_test : (b : Bool) → is_drop_of job step ≡ b → (b || list_any (is_drop_of job) rest) ≡ false → (list_any (is_drop_of job) rest ≡ false → list_any (is_of job) (stepped step state).tokens ≡ true → list_any (is_of job) (all_stepped rest (stepped step state)).tokens ≡ true) → list_any (is_of job) (all_stepped rest (stepped step state)).tokens ≡ true
    by_test true t m ih = absurd (cc m)
    by_test false t m ih = ih m (step_stays step state job t e)

pub stays_out : (steps : List Step) (state : GivenJobs) (job : ℕ) → list_any (is_drop_of job) steps ≡ false → is_some (state_of job state.tokens) ≡ true → is_some (state_of job (all_stepped steps state).tokens) ≡ true
stays_out steps state job n e =
    out_some job (all_stepped steps state).tokens ∙ steps_stay steps state job n (sym (out_some job state.tokens) ∙ e)
