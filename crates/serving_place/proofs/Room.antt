-- The tokens that are out after a change of a processor's job.
use Rattle.std.proofs.Common.{◌≡◌, ◌<◌, ◌≤◌, ◌+◌, ℕ, zero, suc, Bool, true, false, IsTrue, cond, List, [], ◌∷◌, length, refl, ap, ◌∙◌, arith}
use Rattle.std.proofs.lemmas.List.{length-replicate}
use Rattle.std.specs.Prelude.{slice_index_or, slice_set, replicate}
use Rattle.std.specs.List.{filter}
use Rattle.smm_base.specs.declared.status.Status.{Status}
use Rattle.serving_place.specs.Serving.{Seat, Free, Open, Done, Token, run_at, with_token, has_token}
use Rattle.serving_place.specs.Bounds.{IsBounded}

abbrev one : Bool → ℕ
one b = cond b 1 0

counted : (q : Seat) (qs : List Seat) → length (filter has_token (q ∷ qs)) ≡ one (has_token q) + length (filter has_token qs)
counted q qs = at_test (has_token q)
  where
    at_test : (b : Bool) → length (cond b (q ∷ filter has_token qs) (filter has_token qs)) ≡ one b + length (filter has_token qs)
    at_test true = omega arith
    at_test false = omega arith

set_most : (qs : List Seat) (c : ℕ) (q : Seat)
    → length (filter has_token (slice_set qs c q)) + one (has_token (slice_index_or qs c Free)) ≤ length (filter has_token qs) + one (has_token q)
set_most [] c q = let e : one (has_token (slice_index_or [] c Free)) ≡ 0 = refl in omega (arith, e)
set_most (x ∷ qs) zero q = omega (arith, counted x qs, counted q qs)
set_most (x ∷ qs) (suc c) q = omega (arith, counted x qs, counted x (slice_set qs c q), set_most qs c q)

free : one (has_token Free) ≡ 0
free = refl

set_size : (qs : List Seat) (c : ℕ) (q : Seat) → length (slice_set qs c q) ≡ length qs
set_size [] c q = refl
set_size (x ∷ qs) zero q = refl
set_size (x ∷ qs) (suc c) q = rw (set_size qs c q) refl

run_token : (q : Seat) (x : ℕ) (S : Status) → has_token (run_at q x S) ≡ has_token q
run_token Free x S = refl
run_token (Open j t) x S = refl
run_token (Done j t y T) x S = refl

token_most : (c : ℕ) (q : Seat) (ts : List Token) → length (with_token c q ts) ≤ length ts + one (has_token q)
token_most c Free ts = omega arith
token_most c (Open j t) ts = omega arith
token_most c (Done j false x S) ts = omega arith
token_most c (Done j true x S) ts = let e : one (has_token (Done j true x S)) ≡ 1 = refl in omega (arith, e)

none_out : (n : ℕ) → length (filter has_token (replicate n Free)) ≡ 0
none_out zero = refl
none_out (suc n) = none_out n

pub bounded_fresh : (qs : List Seat) (ts : List Token) → length qs ≤ 64 → qs ≡ replicate (length qs) Free → ts ≡ [] → IsBounded qs ts
bounded_fresh qs ts h e f = record {
  size = h;
  few = omega (arith, ap (λ (xs : List Token). length xs) f, ap (λ (xs : List Seat). length (filter has_token xs)) e, none_out (length qs));
}

pub bounded_given : (qs : List Seat) (ts : List Token) (c j : ℕ) (b : Bool) → (IsTrue b → length ts + length (filter has_token qs) < 64) → IsBounded qs ts
    → IsBounded (slice_set qs c (Open j b)) ts
bounded_given qs ts c j b h k = record { size = omega (arith, set_size qs c (Open j b), k.size); few = at_test b h }
  where
    at_test : (b : Bool) → (IsTrue b → length ts + length (filter has_token qs) < 64) → length ts + length (filter has_token (slice_set qs c (Open j b))) ≤ 64
    at_test true h = let e : one (has_token (Open j true)) ≡ 1 = refl in omega (arith, set_most qs c (Open j true), h refl, e)
    at_test false h = let e : one (has_token (Open j false)) ≡ 0 = refl in omega (arith, set_most qs c (Open j false), k.few, e)

pub bounded_ran : (qs : List Seat) (ts : List Token) (c x : ℕ) (S : Status) → IsBounded qs ts → IsBounded (slice_set qs c (run_at (slice_index_or qs c Free) x S)) ts
bounded_ran qs ts c x S k =
    let q = slice_index_or qs c Free in
    record {
      size = omega (arith, set_size qs c (run_at q x S), k.size);
      few = omega (arith, set_most qs c (run_at q x S), ap one (run_token q x S), k.few);
    }

pub bounded_collected : (qs : List Seat) (ts : List Token) (c : ℕ) → IsBounded qs ts → IsBounded (slice_set qs c Free) (with_token c (slice_index_or qs c Free) ts)
bounded_collected qs ts c k = record {
  size = omega (arith, set_size qs c Free, k.size);
  few = omega (arith, free, set_most qs c Free, token_most c (slice_index_or qs c Free) ts, k.few);
}

pub bounded_dropped : (qs : List Seat) (ts us : List Token) → length us ≤ length ts → IsBounded qs ts → IsBounded qs us
bounded_dropped qs ts us h k = record { size = k.size; few = omega (arith, h, k.few) }

-- a job whose token is not on the list yet has room there
pub room_for_token : (qs : List Seat) (ts : List Token) (c : ℕ) → IsBounded qs ts → IsTrue (has_token (slice_index_or qs c Free)) → length ts < 64
room_for_token qs ts c k e = let has : one (has_token (slice_index_or qs c Free)) ≡ 1 = ap one e in omega (arith, free, set_most qs c Free, has, k.few)

pub bounded_begun : (qs rs : List Seat) (ts us : List Token) → rs ≡ replicate (length qs) Free → us ≡ [] → IsBounded qs ts → IsBounded rs us
bounded_begun qs rs ts us e f k =
    let size : length rs ≡ length qs = ap (λ (xs : List Seat). length xs) e ∙ length-replicate (length qs) Free in
    record {
      size = omega (arith, size, k.size);
      few = omega (arith, ap (λ (xs : List Token). length xs) f, ap (λ (xs : List Seat). length (filter has_token xs)) e, none_out (length qs));
    }
