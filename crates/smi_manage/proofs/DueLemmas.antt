-- The registrations of a list between two serial numbers.
use Rattle.std.proofs.Common.{◌≡◌, ℕ, suc, ◌+◌, ◌<◌, ◌≤◌, ◌==◌, Bool, true, false, ◌&&◌, not, cond, nat_le, nat_lt, List, [], ◌∷◌, ◌++◌, length, map, get_or, Option, Some, None, refl, sym, ap, ◌∙◌, arith}
use Rattle.std.specs.List.{filter, find}
use Rattle.std.specs.Option.{option_map}
use Rattle.smm_base.specs.declared.kinds.HandlerType.{HandlerType}
use Rattle.smm_base.specs.declared.kinds.HandlerType.TheVariants.{Root}
use Rattle.handler_registry.specs.declared.registration.Registration.{Registration}
use Rattle.handler_registry.specs.Registrations.{Registrations, is_same_list, is_on_after, is_live, is_full, registered, IsRising, IsRegistered}
use Rattle.handler_registry.specs.Changes.{Change, changed, all_changed}
use Rattle.handler_registry.specs.Changes.Change.{Register, Unregister}
use Rattle.handler_registry.proofs.LawLemmas.{others, later_last}
use Rattle.smi_manage.specs.Walks.{at_most}
use Rattle.smi_manage.specs.Calls.{still_live}
use Rattle.smi_manage.proofs.LiveLemmas.{survives, survives_all, live_after_all, live_at_place, at_most_last}

-- on this list, above the one before, at most the bound
abbrev pub is_due : HandlerType → ℕ → ℕ → Registration → Bool
is_due kind before bound r = is_on_after kind before r && nat_le r.serial bound

abbrev pub serials : List Registration → List ℕ
serials rs = map (λ r. r.serial) rs

-- the serial numbers that are due
abbrev pub due_in : HandlerType → ℕ → ℕ → Registrations → List ℕ
due_in kind before bound state = serials (filter (is_due kind before bound) state.live)

abbrev pub first_of : List ℕ → Option ℕ
first_of [] = None
first_of (n ∷ rest) = Some n

and_false : (b : Bool) → (b && false) ≡ false
and_false true = refl
and_false false = refl

not_le : (n m : ℕ) → m < n → nat_le n m ≡ false
not_le n m h = grind (arith, h)

is_le : (n m : ℕ) → n ≤ m → nat_le n m ≡ true
is_le n m h = grind (arith, h)

not_lt : (n m : ℕ) → m ≤ n → nat_lt n m ≡ false
not_lt n m h = grind (arith, h)

is_lt : (n m : ℕ) → n < m → nat_lt n m ≡ true
is_lt n m h = grind (arith, h)

due_past : (kind : HandlerType) (before bound : ℕ) (r : Registration) → bound < r.serial → is_due kind before bound r ≡ false
due_past kind before bound r h = rw (not_le r.serial bound h) (and_false (is_on_after kind before r))

due_early : (kind : HandlerType) (before bound : ℕ) (r : Registration) → r.serial ≤ before → is_due kind before bound r ≡ false
due_early kind before bound r h = rw (not_lt before r.serial h, and_false (is_same_list r.kind kind)) refl

none_past : (kind : HandlerType) (before bound n last : ℕ) (rs : List Registration) → bound < n → IsRising n last rs → filter (is_due kind before bound) rs ≡ []
none_past kind before bound n last [] h r = refl
none_past kind before bound n last (x ∷ rest) h r =
    rw (due_past kind before bound x (omega (arith, h, r.0))) (none_past kind before bound x.serial last rest (omega (arith, h, r.0)) r.2)

-- the first that is due is the next one, where it is at most the bound
pub first_due : (kind : HandlerType) (before bound n last : ℕ) (rs : List Registration) → IsRising n last rs → first_of (serials (filter (is_due kind before bound) rs)) ≡ at_most bound (option_map (λ r. r.serial) (find (is_on_after kind before) rs))
first_due kind before bound n last [] r = refl
first_due kind before bound n last (x ∷ rest) r =
    by_test (is_on_after kind before x) (nat_le x.serial bound) refl (first_due kind before bound x.serial last rest r.2)
  where
    by_test : (b c : Bool) → nat_le x.serial bound ≡ c →
        first_of (serials (filter (is_due kind before bound) rest)) ≡ at_most bound (option_map (λ r. r.serial) (find (is_on_after kind before) rest)) →
        first_of (serials (cond (b && c) (x ∷ filter (is_due kind before bound) rest) (filter (is_due kind before bound) rest))) ≡ at_most bound (option_map (λ r. r.serial) (cond b (Some x) (find (is_on_after kind before) rest)))
    by_test false c e ih = ih
    by_test true true e ih = rw e refl
    by_test true false e ih =
        let past : bound < x.serial = grind (arith, e) in
        rw (none_past kind before bound x.serial last rest past r.2, e) refl

head_above : (p : Registration → Bool) (n last s : ℕ) (later : List ℕ) (rs : List Registration) → IsRising n last rs → serials (filter p rs) ≡ s ∷ later → n < s
head_above p n last s later [] r e = absurd (cc e)
head_above p n last s later (x ∷ rest) r e = by_test (p x) e (head_above p x.serial last s later rest r.2)
  where
    by_test : (b : Bool) → serials (cond b (x ∷ filter p rest) (filter p rest)) ≡ s ∷ later → (serials (filter p rest) ≡ s ∷ later → x.serial < s) → n < s
    by_test true f ih =
        let same : x.serial ≡ s = grind (arith, f) in
        omega (arith, same, r.0)
    by_test false f ih = omega (arith, ih f, r.0)

-- above both, it makes no difference which was before
same_due : (kind : HandlerType) (a b bound n last : ℕ) (rs : List Registration) → a ≤ n → b ≤ n → IsRising n last rs → filter (is_due kind a bound) rs ≡ filter (is_due kind b bound) rs
same_due kind a b bound n last [] h i r = refl
same_due kind a b bound n last (x ∷ rest) h i r =
    rw (is_lt a x.serial (omega (arith, h, r.0)), is_lt b x.serial (omega (arith, i, r.0)), same_due kind a b bound x.serial last rest (omega (arith, h, r.0)) (omega (arith, i, r.0)) r.2) refl

-- after the first that is due the others are
pub rest_due : (kind : HandlerType) (before bound n last s : ℕ) (later : List ℕ) (rs : List Registration) → IsRising n last rs → serials (filter (is_due kind before bound) rs) ≡ s ∷ later → serials (filter (is_due kind s bound) rs) ≡ later
rest_due kind before bound n last s later [] r e = absurd (cc e)
rest_due kind before bound n last s later (x ∷ rest) r e = by_test (is_due kind before bound x) refl e (rest_due kind before bound x.serial last s later rest r.2)
  where
    by_test : (b : Bool) → is_due kind before bound x ≡ b → serials (cond b (x ∷ filter (is_due kind before bound) rest) (filter (is_due kind before bound) rest)) ≡ s ∷ later →
        (serials (filter (is_due kind before bound) rest) ≡ s ∷ later → serials (filter (is_due kind s bound) rest) ≡ later) →
        serials (cond (is_due kind s bound x) (x ∷ filter (is_due kind s bound) rest) (filter (is_due kind s bound) rest)) ≡ later
    by_test true t f ih =
        let same : x.serial ≡ s = grind (arith, f) in
        let others_due : serials (filter (is_due kind before bound) rest) ≡ later = grind (arith, f) in
        let above : before ≤ x.serial = before_due t in
        rw (due_early kind s bound x (omega (arith, same)), same_due kind s before bound x.serial last rest (omega (arith, same)) above r.2) others_due
      where
        before_due : is_due kind before bound x ≡ true → before ≤ x.serial
        before_due t = grind (arith, t, due_early kind before bound x)
    by_test false t f ih =
        let above : x.serial < s = head_above (is_due kind before bound) x.serial last s later rest r.2 f in
        rw (due_early kind s bound x (omega (arith, above))) (ih f)

-- at first each of the list is due
pub all_due : (kind : HandlerType) (n last : ℕ) (rs : List Registration) → IsRising n last rs → filter (is_due kind 0 last) rs ≡ filter (λ r. is_same_list r.kind kind) rs
all_due kind n last [] r = refl
all_due kind n last (x ∷ rest) r = rw (one_due, all_due kind x.serial last rest r.2) refl
  where
    and_true : (b : Bool) → ((b && true) && true) ≡ b
    and_true true = refl
    and_true false = refl

    one_due : is_due kind 0 last x ≡ is_same_list x.kind kind
    one_due = rw (is_lt 0 x.serial (omega (arith, r.0)), is_le x.serial last r.1) (and_true (is_same_list x.kind kind))

-- ---- changes

filter_true : (xs : List ℕ) → filter (λ x. true) xs ≡ xs
filter_true [] = refl
filter_true (x ∷ rest) = rw (filter_true rest) refl

filter_pushed : (p : Registration → Bool) (rs : List Registration) (v : Registration) → p v ≡ false → filter p (rs ++ v ∷ []) ≡ filter p rs
filter_pushed p [] v e = rw e refl
filter_pushed p (x ∷ rest) v e = rw (filter_pushed p rest v e) refl

filter_twice : (p q : ℕ → Bool) (xs : List ℕ) → filter q (filter p xs) ≡ filter (λ x. p x && q x) xs
filter_twice p q [] = refl
filter_twice p q (x ∷ rest) = by_test (p x) (filter_twice p q rest)
  where
    by_test : (b : Bool) → filter q (filter p rest) ≡ filter (λ x. p x && q x) rest → filter q (cond b (x ∷ filter p rest) (filter p rest)) ≡ cond (b && q x) (x ∷ filter (λ x. p x && q x) rest) (filter (λ x. p x && q x) rest)
    by_test true ih = rw ih refl
    by_test false ih = ih

due_others : (q : Registration → Bool) (x : ℕ) (rs : List Registration) → serials (filter q (others x rs)) ≡ filter (λ s. not (s == x)) (serials (filter q rs))
due_others q x [] = refl
due_others q x (h ∷ rest) = by_test (h.serial == x) (q h) refl refl (due_others q x rest)
  where
    by_test : (b c : Bool) → (h.serial == x) ≡ b → q h ≡ c → serials (filter q (others x rest)) ≡ filter (λ s. not (s == x)) (serials (filter q rest)) →
        serials (filter q (cond (not b) (h ∷ others x rest) (others x rest))) ≡ filter (λ s. not (s == x)) (serials (cond c (h ∷ filter q rest) (filter q rest)))
    by_test true true e f ih = rw e ih
    by_test true false e f ih = ih
    by_test false true e f ih = rw (f, e, ih) refl
    by_test false false e f ih = rw f ih

due_changed : (change : Change) (kind : HandlerType) (before bound : ℕ) (state : Registrations) → bound ≤ state.last → due_in kind before bound (changed change state) ≡ filter (survives change) (due_in kind before bound state)
due_changed (Register list handler) kind before bound state h = by_full (is_full state) ∙ sym (filter_true (due_in kind before bound state))
  where
    by_full : (b : Bool) → due_in kind before bound (cond b state (registered list handler state)) ≡ due_in kind before bound state
    by_full true = refl
    by_full false =
        let v : Registration = record { serial = state.last + 1; kind = list; handler = handler } in
        ap (map (λ r. r.serial)) (filter_pushed (is_due kind before bound) state.live v (due_past kind before bound v (omega (arith, h))))
due_changed (Unregister x) kind before bound state h = due_others (is_due kind before bound) x state.live

due_all_changed : (changes : List Change) (kind : HandlerType) (before bound : ℕ) (state : Registrations) → bound ≤ state.last → due_in kind before bound (all_changed changes state) ≡ filter (survives_all changes) (due_in kind before bound state)
due_all_changed [] kind before bound state h = sym (filter_true (due_in kind before bound state))
due_all_changed (change ∷ rest) kind before bound state h =
    let more = later_last change state in
    due_all_changed rest kind before bound (changed change state) (omega (arith, h, more)) ∙
    rw (due_changed change kind before bound state h) (filter_twice (survives change) (survives_all rest) (due_in kind before bound state))

-- tests that agree on the serial numbers of these
filter_agree : (p q : ℕ → Bool) (d : Registration) (test : Registration → Bool) (rs : List Registration) → ((k : ℕ) → k < length rs → p (get_or rs k d).serial ≡ q (get_or rs k d).serial) → filter p (serials (filter test rs)) ≡ filter q (serials (filter test rs))
filter_agree p q d test [] h = refl
filter_agree p q d test (x ∷ rest) h = by_test (test x) (filter_agree p q d test rest (λ k l. h (suc k) (omega (arith, l))))
  where
    by_test : (b : Bool) → filter p (serials (filter test rest)) ≡ filter q (serials (filter test rest)) → filter p (serials (cond b (x ∷ filter test rest) (filter test rest))) ≡ filter q (serials (cond b (x ∷ filter test rest) (filter test rest)))
    by_test true ih = rw (h 0 (omega arith), ih) refl
    by_test false ih = ih

and_true : (b : Bool) → (b && true) ≡ b
and_true true = refl
and_true false = refl

-- those that were due and are still live are those that are due now
pub still_due : (changes : List Change) (kind : HandlerType) (before bound : ℕ) (state : Registrations) → IsRegistered state → bound ≤ state.last →
    still_live (all_changed changes state) (due_in kind before bound state) ≡ due_in kind before bound (all_changed changes state)
still_due changes kind before bound state k h =
    let d : Registration = record { serial = 0; kind = Root; handler = 0 } in
    filter_agree (λ s. is_live s (all_changed changes state)) (survives_all changes) d (is_due kind before bound) state.live
    (λ i l. live_after_all changes state (get_or state.live i d).serial (at_most_last 0 state.last state.live i d k.rising l) ∙
    rw (live_at_place state i d l) (and_true (survives_all changes (get_or state.live i d).serial))) ∙
    sym (due_all_changed changes kind before bound state h)
