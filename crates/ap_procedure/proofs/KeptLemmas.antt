-- What each call keeps of the fields of tokens, and what contracts then see.
use Rattle.std.proofs.Common.{◌≡◌, ℕ, ◌+◌, ◌-◌, ◌<◌, ◌≤◌, List, [], ◌∷◌, ◌++◌, map, Option, Some, None, refl, sym, ◌∙◌, arith}
use Rattle.std.specs.List.{find}
use Rattle.std.specs.Option.{option_map, option_and_then}
use Rattle.smm_base.specs.declared.status.Status.{Status}
use Rattle.slab.specs.Slab.{Slab, get, slab_len, Updates}
use Rattle.slab_order.specs.Order.{values_at}
use Rattle.slab_order.specs.Numbered.{is_at}
use Rattle.slab_order.proofs.OrderLemmas.{find_values}
use Rattle.slab_order.proofs.RisingLemmas.{rising_pushed, rising_more}
use Rattle.slab_order.proofs.NumberedLemmas.{kept_set}
use Rattle.ap_procedure.specs.declared.token.Token.{Token}
use Rattle.ap_procedure.specs.declared.token.TokenState.TheVariants.{Finished}
use Rattle.ap_procedure.specs.Kept.{IsKept}
use Rattle.ap_procedure.specs.Given.{job_of, is_of, state_of, finished, IsRising}
use Rattle.ap_procedure.proofs.JobLemmas.{rising_finished, finished_none, values_finished, found_passes}

-- one more token, of a later job
pub rising_token : (v : Token) (tokens : List Token) → 0 < v.job → v.job ≤ 4294967295 → IsRising 0 (v.job - 1) tokens → IsRising 0 4294967295 (tokens ++ v ∷ [])
rising_token v tokens numbered fits later =
    rising_more job_of 0 (v.job - 1 + 1) 4294967295 (tokens ++ v ∷ []) (omega (arith, numbered, fits))
    (rising_pushed job_of 0 (v.job - 1) tokens v (omega (arith, numbered)) (omega arith) later)

pub state_shown : (slab : Slab Token) (order : List ℕ) (job : ℕ) (found : Option ℕ) →
    found ≡ find (is_at job_of slab job) order →
    state_of job (values_at slab order) ≡ option_map (λ t. t.state) (option_and_then (get slab) found)
state_shown slab order job found e = rw (find_values (is_of job) slab order, e) refl

pub shown_finished : (slab new : Slab Token) (key job result : ℕ) (status : Status) (order : List ℕ) (room : ℕ) →
    IsKept slab order room → find (is_at job_of slab job) order ≡ Some key →
    Updates slab new key (Some (record { job = job; state = Finished result status })) →
    values_at new order ≡ map (finished job result status) (values_at slab order)
shown_finished slab new key job result status order room k found u =
    values_finished slab new key job result status order 0 4294967295 u (found_passes (is_at job_of slab job) order key found) found k.ordered k.rising

pub kept_finished : (slab new : Slab Token) (key job result : ℕ) (status : Status) (order : List ℕ) (room : ℕ) →
    IsKept slab order room → find (is_at job_of slab job) order ≡ Some key →
    Updates slab new key (Some (record { job = job; state = Finished result status })) →
    slab_len new ≡ slab_len slab → new.capacity ≡ slab.capacity →
    IsKept new order room
kept_finished slab new key job result status order room k found u count capacity =
    kept_set job_of slab new key _ order 64 room 4294967295 k u count capacity
    (rw (shown_finished slab new key job result status order room k found u) (rising_finished job result status 0 4294967295 (values_at slab order) k.rising))

pub shown_unfinished : (slab : Slab Token) (order : List ℕ) (job result : ℕ) (status : Status) → find (is_at job_of slab job) order ≡ None → values_at slab order ≡ map (finished job result status) (values_at slab order)
shown_unfinished slab order job result status e = sym (finished_none job result status (values_at slab order) (find_values (is_of job) slab order ∙ rw e refl))
