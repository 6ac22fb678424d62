-- The causes of a processor's visits, entry by entry.
use Rattle.std.proofs.Common.{◌≡◌, ◌≢◌, ◌<◌, ◌≤◌, ◌+◌, ◌-◌, ◌∙◌, ℕ, Bool, true, false, ◌&&◌, ◌==◌, List, [], ◌∷◌, length, Some, replicate, drop, refl, ap, sym, arith}
use Rattle.std.specs.Prelude.{nat_le, if◌then◌else◌, slice_set}
use Rattle.std.specs.List.{find}
use Rattle.std.proofs.Math.ListN.{get_or}
use Rattle.std.proofs.lemmas.Bool.{and_from, eqb-true}
use Rattle.std.proofs.lemmas.Grind.{get_or-set_at}
use Rattle.std.proofs.lemmas.List.{drop_all, drop_more, ext_get_or, get_or-replicate, get_or-set_other, length-set, length-replicate}
use Rattle.std.proofs.lemmas.List.FromFn.{get_or-map-range_with_len, length-map-range_with_len}
use Rattle.smm_base.specs.declared.kinds.Cause.{Cause}
use Rattle.cpu_table.specs.declared.setup.CauseAt.{CauseAt}
use Rattle.cpu_table.specs.Causes.{cause_in, cause_of, no_cause, is_of_visit}
use Rattle.cpu_program.specs.Visits.{causes_of, kept}

pub length-causes : (entries : List CauseAt) (me n : ℕ) → length (causes_of entries me n) ≡ n
unfolding causes_of
length-causes entries me n = length-map-range_with_len (cause_of entries me) 1 n

pub cause_at : (entries : List CauseAt) (me n k : ℕ) (d : Cause) → k < n → get_or (causes_of entries me n) k d ≡ cause_of entries me (k + 1)
unfolding causes_of
cause_at entries me n k d below = get_or-map-range_with_len (cause_of entries me) 1 n k (k + 1) d below (omega arith)

-- without entries no visit has a cause
none_of : (me n : ℕ) → replicate n no_cause ≡ causes_of [] me n
none_of me n =
    let len : length (replicate n no_cause) ≡ n = length-replicate n no_cause in
    ext_get_or no_cause (replicate n no_cause) (causes_of [] me n) (len ∙ sym (length-causes [] me n))
    (λ k h. let below : k < n = omega (arith, h, len) in get_or-replicate n k no_cause no_cause below ∙ sym (cause_at [] me n k no_cause below))

pub causes_begin : (entries : List CauseAt) (me n i : ℕ) → length entries ≤ i → replicate n no_cause ≡ causes_of (drop i entries) me n
causes_begin entries me n i past = none_of me n ∙ sym (ap (λ (es : List CauseAt). causes_of es me n) (drop_all i entries past))

cause_first : (e : CauseAt) (rest : List CauseAt) (me w : ℕ) → is_of_visit me w e ≡ true → cause_of (e ∷ rest) me w ≡ e.cause
cause_first e rest me w h = ap (λ (b : Bool). cause_in (if b then Some e else find (is_of_visit me w) rest)) h

cause_later : (e : CauseAt) (rest : List CauseAt) (me w : ℕ) → is_of_visit me w e ≡ false → cause_of (e ∷ rest) me w ≡ cause_of rest me w
cause_later e rest me w h = ap (λ (b : Bool). cause_in (if b then Some e else find (is_of_visit me w) rest)) h

counts : (cpu me visit len : ℕ) → (cpu == me && nat_le 1 visit && nat_le visit len) ≡ true → ((cpu == me) ≡ true) × (1 ≤ visit) × (visit ≤ len)
counts cpu me visit len h = grind arith

counts_not : (cpu me visit k len : ℕ) → (cpu == me && nat_le 1 visit && nat_le visit len) ≡ false → k < len → (cpu == me && visit == k + 1) ≡ false
counts_not cpu me visit k len h below = grind arith

elsewhere : (visit k : ℕ) → (visit == k + 1) ≡ false → 1 ≤ visit → k ≢ visit - 1
elsewhere visit k h low = grind arith

no_visit : (a b : Bool) → b ≡ false → (a && b) ≡ false
no_visit true b h = h
no_visit false b h = refl

-- an entry that counts is that of one visit
placed : (e : CauseAt) (rest : List CauseAt) (me k : ℕ) (d : Cause) (xs : List Cause) (u : Bool) → (e.visit == k + 1) ≡ u → (e.cpu == me) ≡ true → 1 ≤ e.visit
    → k < length xs → get_or xs k d ≡ cause_of rest me (k + 1) → get_or (slice_set xs (e.visit - 1) e.cause) k d ≡ cause_of (e ∷ rest) me (k + 1)
placed e rest me k d xs true u mine low below old =
    let is : e.visit ≡ k + 1 = eqb-true e.visit (k + 1) u in
    get_or-set_at xs (e.visit - 1) k e.cause d (omega (arith, is)) (omega (arith, is, below)) ∙ sym (cause_first e rest me (k + 1) (and_from (e.cpu == me) (e.visit == k + 1) mine u))
placed e rest me k d xs false u mine low below old =
    get_or-set_other xs (e.visit - 1) k e.cause d (elsewhere e.visit k u low) ∙ old
    ∙ sym (cause_later e rest me (k + 1) (no_visit (e.cpu == me) (e.visit == k + 1) u))

at_place : (e : CauseAt) (rest : List CauseAt) (me k : ℕ) (d : Cause) (xs : List Cause) (t : Bool) → (e.cpu == me && nat_le 1 e.visit && nat_le e.visit (length xs)) ≡ t
    → k < length xs → get_or xs k d ≡ cause_of rest me (k + 1) → get_or (if t then slice_set xs (e.visit - 1) e.cause else xs) k d ≡ cause_of (e ∷ rest) me (k + 1)
at_place e rest me k d xs true t below old =
    let c = counts e.cpu me e.visit (length xs) t in
    placed e rest me k d xs (e.visit == k + 1) refl c.0 c.1 below old
at_place e rest me k d xs false t below old = old ∙ sym (cause_later e rest me (k + 1) (counts_not e.cpu me e.visit k (length xs) t below))

length_kept : (t : Bool) (xs : List Cause) (j : ℕ) (c : Cause) → length (if t then slice_set xs j c else xs) ≡ length xs
length_kept true xs j c = length-set xs j c
length_kept false xs j c = refl

kept_first : (e : CauseAt) (rest : List CauseAt) (me n : ℕ) → kept me e (causes_of rest me n) ≡ causes_of (e ∷ rest) me n
kept_first e rest me n =
    let xs : List Cause = causes_of rest me n in
    let len : length xs ≡ n = length-causes rest me n in
    let t : Bool = e.cpu == me && nat_le 1 e.visit && nat_le e.visit (length xs) in
    let same : length (kept me e xs) ≡ length xs = length_kept t xs (e.visit - 1) e.cause in
    ext_get_or no_cause (kept me e xs) (causes_of (e ∷ rest) me n) (same ∙ len ∙ sym (length-causes (e ∷ rest) me n))
    (λ k h. let inside : k < length xs = omega (arith, h, same) in
    let below : k < n = omega (arith, inside, len) in
    at_place e rest me k no_cause xs t refl inside (cause_at rest me n k no_cause below) ∙ sym (cause_at (e ∷ rest) me n k no_cause below))

-- the entries before are still to be kept
pub causes_more : (entries : List CauseAt) (me n i j : ℕ) (e : CauseAt) (before after : List Cause) → i + 1 ≡ j → i < length entries → e ≡ get_or entries i e
    → before ≡ causes_of (drop j entries) me n → after ≡ kept me e before → after ≡ causes_of (drop i entries) me n
causes_more entries me n i j e before after next below there so_far step =
    let rest : List CauseAt = drop (i + 1) entries in
    let old : before ≡ causes_of rest me n = so_far ∙ sym (ap (λ (k : ℕ). causes_of (drop k entries) me n) next) in
    let front : drop i entries ≡ e ∷ rest = drop_more entries i e below ∙ ap (λ (x : CauseAt). x ∷ rest) (sym there) in
    step ∙ ap (λ (xs : List Cause). kept me e xs) old ∙ kept_first e rest me n ∙ sym (ap (λ (es : List CauseAt). causes_of es me n) front)

-- the place of a visit that there is
pub cause_there : (entries : List CauseAt) (me n k : ℕ) (causes : List Cause) → causes ≡ causes_of entries me n → k < n → k < length causes
cause_there entries me n k causes is below = omega (arith, ap (λ (xs : List Cause). length xs) is, length-causes entries me n, below)

pub cause_is : (entries : List CauseAt) (me n k : ℕ) (d : Cause) (causes : List Cause) → causes ≡ causes_of entries me n → k < n → get_or causes k d ≡ cause_of entries me (k + 1)
cause_is entries me n k d causes is below = ap (λ (xs : List Cause). get_or xs k d) is ∙ cause_at entries me n k d below

-- all entries are kept
pub causes_all : (entries : List CauseAt) (me n i : ℕ) (causes : List Cause) → i ≡ 0 → causes ≡ causes_of (drop i entries) me n → causes ≡ causes_of entries me n
causes_all entries me n i causes none so_far = so_far ∙ ap (λ (j : ℕ). causes_of (drop j entries) me n) none
