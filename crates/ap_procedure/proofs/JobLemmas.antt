-- Lemmas on what each call makes of the tokens.
use Rattle.std.proofs.Common.{◌≡◌, ◌≢◌, ℕ, ◌+◌, ◌≤◌, Bool, true, false, cond, List, [], ◌∷◌, map, Option, Some, None, refl, sym, ap, subst, ◌∙◌, arith, ne_eqb}
use Rattle.std.specs.List.{cons_option, find}
use Rattle.std.specs.Option.{option_map_or}
use Rattle.smm_base.specs.declared.status.Status.{Status}
use Rattle.slab.specs.Slab.{Slab, get, Updates}
use Rattle.slab_order.specs.Order.{values_at, IsApart, IsOrder}
use Rattle.slab_order.proofs.OrderLemmas.{values_apart}
use Rattle.slab_order.proofs.RisingLemmas.{rising_pushed, rising_more, rising_rest}
use Rattle.ap_procedure.specs.declared.token.Token.{Token}
use Rattle.ap_procedure.specs.declared.token.TokenState.TheVariants.{Finished}
use Rattle.ap_procedure.specs.Given.{job_of, is_of, issued, finished, with_finished, IsRising}

pub finished_job : (job result : ℕ) (status : Status) (t : Token) → (finished job result status t).job ≡ t.job
finished_job job result status t = by_test (is_of job t)
  where
    by_test : (b : Bool) → (cond b (record { job = t.job; state = Finished result status }) t).job ≡ t.job
    by_test true = refl
    by_test false = refl

pub rising_finished : (job result : ℕ) (status : Status) (n last : ℕ) (ts : List Token) → IsRising n last ts → IsRising n last (map (finished job result status) ts)
rising_finished job result status n last [] r = tt
rising_finished job result status n last (t ∷ rest) r =
    rw (finished_job job result status t) (r.0, r.1, rising_finished job result status t.job last rest r.2)

pub rising_with_finished : (job : Option ℕ) (result : ℕ) (status : Status) (n last : ℕ) (ts : List Token) → IsRising n last ts → IsRising n last (with_finished job result status ts)
rising_with_finished None result status n last ts r = r
rising_with_finished (Some job) result status n last ts r = rising_finished job result status n last ts r

pub rising_issued : (with_token : Bool) (t : Token) (last : ℕ) (ts : List Token) → t.job ≡ last + 1 → IsRising 0 last ts → IsRising 0 (last + 1) (issued with_token t ts)
rising_issued true t last ts e r = rising_pushed job_of 0 last ts t e (omega arith) r
rising_issued false t last ts e r = rising_more job_of 0 last (last + 1) ts (omega arith) r

-- tokens of later jobs stay
finished_above : (job result : ℕ) (status : Status) (n last : ℕ) (ts : List Token) → job ≤ n → IsRising n last ts → map (finished job result status) ts ≡ ts
finished_above job result status n last [] h r = refl
finished_above job result status n last (t ∷ rest) h r =
    let differs : t.job ≢ job = omega (arith, h, r.0) in
    rw (ne_eqb t.job job differs, finished_above job result status t.job last rest (omega (arith, h, r.0)) r.2) refl

pub finished_none : (job result : ℕ) (status : Status) (ts : List Token) → find (is_of job) ts ≡ None → map (finished job result status) ts ≡ ts
finished_none job result status [] e = refl
finished_none job result status (t ∷ rest) e = by_test (is_of job t) e (finished_none job result status rest)
  where
    by_test : (b : Bool) → cond b (Some t) (find (is_of job) rest) ≡ None → (find (is_of job) rest ≡ None → map (finished job result status) rest ≡ rest) → cond b (record { job = t.job; state = Finished result status }) t ∷ map (finished job result status) rest ≡ t ∷ rest
    by_test true g ih = absurd (cc g)
    by_test false g ih = rw (ih g) refl

finished_here : (o : Option Token) (ts : List Token) (job result : ℕ) (status : Status) (n last : ℕ) → option_map_or (is_of job) o false ≡ true → IsRising n last (cons_option o ts) →
    record { job = job; state = Finished result status } ∷ ts ≡ map (finished job result status) (cons_option o ts)
finished_here None ts job result status n last h r = absurd (cc h)
finished_here (Some t) ts job result status n last h r =
    let same : t.job ≡ job = grind (arith, h) in
    rw (h, finished_above job result status t.job last ts (omega (arith, same)) r.2, same) refl

finished_later : (o : Option Token) (ts left : List Token) (job result : ℕ) (status : Status) → option_map_or (is_of job) o false ≡ false → left ≡ map (finished job result status) ts → cons_option o left ≡ map (finished job result status) (cons_option o ts)
finished_later None ts left job result status h e = e
finished_later (Some t) ts left job result status h e = rw (h, e) refl

-- the first key whose token is of the job is given the finished token
pub values_finished : (slab new : Slab Token) (key job result : ℕ) (status : Status) (keys : List ℕ) (n last : ℕ) →
    Updates slab new key (Some (record { job = job; state = Finished result status })) →
    option_map_or (is_of job) (get slab key) false ≡ true →
    find (λ k. option_map_or (is_of job) (get slab k) false) keys ≡ Some key →
    IsOrder slab keys → IsRising n last (values_at slab keys) →
    values_at new keys ≡ map (finished job result status) (values_at slab keys)
values_finished slab new key job result status [] n last u here found o r = absurd (cc found)
values_finished slab new key job result status (k ∷ rest) n last u here found o r =
    by_test (option_map_or (is_of job) (get slab k) false) refl found
    (λ later. values_finished slab new key job result status rest (rising_rest job_of (get slab k) (values_at slab rest) n last r).0 last u here later o.2 (rising_rest job_of (get slab k) (values_at slab rest) n last r).1)
  where
    by_test : (b : Bool) → option_map_or (is_of job) (get slab k) false ≡ b →
        cond b (Some k) (find (λ k. option_map_or (is_of job) (get slab k) false) rest) ≡ Some key →
        (find (λ k. option_map_or (is_of job) (get slab k) false) rest ≡ Some key → values_at new rest ≡ map (finished job result status) (values_at slab rest)) →
        cons_option (get new k) (values_at new rest) ≡ map (finished job result status) (cons_option (get slab k) (values_at slab rest))
    by_test true t f ih =
        let same : k ≡ key = grind (arith, f) in
        let changed : get new k ≡ Some (record { job = job; state = Finished result status }) = ap (get new) same ∙ u.changed in
        let apart = subst (λ (x : ℕ). IsApart x rest) same o.1 in
        rw (changed, values_apart slab new key _ rest u apart) (finished_here (get slab k) (values_at slab rest) job result status n last t r)
    by_test false t f ih =
        let differs : k ≢ key = λ (e : k ≡ key). cc (t, here, e) in
        rw (u.others k differs) (finished_later (get slab k) (values_at slab rest) (values_at new rest) job result status t (ih f))

pub found_passes : {A : Type 0} (p : A → Bool) (xs : List A) (x : A) → find p xs ≡ Some x → p x ≡ true
found_passes p [] x e = absurd (cc e)
found_passes p (y ∷ rest) x e = by_test (p y) refl e (found_passes p rest x)
  where
    by_test : (b : Bool) → p y ≡ b → cond b (Some y) (find p rest) ≡ Some x → (find p rest ≡ Some x → p x ≡ true) → p x ≡ true
    by_test true t f ih = let same : y ≡ x = grind (arith, f) in ap p (sym same) ∙ t
    by_test false t f ih = ih f
