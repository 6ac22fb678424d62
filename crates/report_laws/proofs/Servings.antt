-- What serving knows fits the fields of labels: the numbers that it has, and those that an operation's label shows.
use Rattle.std.proofs.Common.{◌≡◌, ℕ, zero, suc, ◌+◌, ◌<◌, ◌≤◌, ◌^◌, ◌∙◌, Bool, true, false, cond, List, [], ◌∷◌, ◌++◌, length, Option, Some, None, refl, sym, subst, arith, length-set}
use Rattle.std.specs.Prelude.{◌&&◌, ◌||◌, ◌==◌, nat_lt, nat_le, not, slice_index_or, slice_set, IfOk, IfSome, Result, Ok, Err}
use Rattle.std.specs.List.{find, filter}
use Rattle.std.proofs.lemmas.Bool.{and_parts, leb-true, ltb-true, eq-eqb, true≢false}
use Rattle.std.proofs.lemmas.List.Quantifiers.{position-Some}
use Rattle.smm_base.specs.declared.kinds.HandlerType.{HandlerType}
use Rattle.smm_base.specs.declared.status.Status.{Status}
use Rattle.smm_base.specs.declared.status.Status.TheVariants.{Success}
use Rattle.smm_base.specs.Register.{is_register_number}
use Rattle.cpu_table.specs.declared.handlers.Operand.{Operand}
use Rattle.cpu_table.specs.declared.handlers.Operand.TheVariants.{Number, Variable}
use Rattle.cpu_table.specs.declared.handlers.OpDef.{OpDef}
use Rattle.cpu_table.specs.declared.handlers.OpDef.TheVariants as op
use Rattle.cpu_table.specs.declared.handlers.ProcedureDef.{ProcedureDef}
use Rattle.cpu_table.specs.Ranges.{op_fits, is_variable, is_operand, same_text}
use Rattle.sync_words.specs.declared.label.Label.{Label}
use Rattle.sync_words.specs.declared.label.Label.TheVariants as say
use Rattle.trace_text.specs.Spelling.{IsLabel}
use Rattle.handler_registry.specs.declared.registration.Registration.{Registration}
use Rattle.handler_registry.specs.Registrations.{Registrations, has_serial, is_full, registered, unregistered}
use Rattle.smram_pool.specs.declared.error.PoolError.{PoolError}
use Rattle.smram_pool.specs.State.{PoolState, allocated, freed}
use Rattle.serving_place.specs.declared.seat.Seat.{Seat}
use Rattle.serving_place.specs.declared.seat.Seat.TheVariants.{Free, Open, Done}
use Rattle.serving_place.specs.declared.token.Token.{Token}
use Rattle.serving_place.specs.Serving.{Serving, number, put, put_on, seat, with_token, state_of, owner, dropped, IsDone, collected, put_result, returned, ran, run_at, given_to}
use Rattle.serving_place.specs.Operations.{Fits, after, Collects, WaitShows, AllocShows, RegisterShows, Starts, procedure_place, register_on, drop_on}
use Rattle.report_laws.specs.Widths.{HasWidth, HasWidths}
use Rattle.report_laws.proofs.Pools.{PoolFits, allocated_keeps, freed_keeps, place_fits}

-- what is kept

abbrev pub EachLive : List Registration → Type 0
EachLive [] = Unit {0}
EachLive (r ∷ rs) = (r.handler < 2 ^ 16) × EachLive rs

abbrev pub EachToken : List Token → Type 0
EachToken [] = Unit {0}
EachToken (t ∷ ts) = (t.result < 2 ^ 64) × EachToken ts

-- the number of a job that is still to be run, and the result of one that was
abbrev pub SeatFits : Seat → Type 0
SeatFits Free = Unit {0}
SeatFits (Open j t) = j < 2 ^ 32
SeatFits (Done j t x S) = x < 2 ^ 64

pub record KnownFits (variables : List ℕ) (registrations : Registrations) (pool : PoolState) (seats : List Seat) (tokens : List Token) : Type 0 where
  pub variables_fit : (i : ℕ) → slice_index_or variables i 0 < 2 ^ 64
  pub live_fit : EachLive registrations.live
  pub last_fits : registrations.last < 2 ^ 32
  pub pool_fits : PoolFits pool
  pub few : length seats ≤ 64
  pub seats_fit : (c : ℕ) → SeatFits (slice_index_or seats c Free)
  pub tokens_fit : EachToken tokens

abbrev pub ServingFits : Serving → Type 0
ServingFits s = KnownFits s.variables s.registrations s.pool s.seats s.tokens

-- LISTS

pub live_push : (rs : List Registration) (r : Registration) → r.handler < 2 ^ 16 → EachLive rs → EachLive (rs ++ r ∷ [])
live_push [] r h k = (h, tt)
live_push (x ∷ rs) r h k = (k.0, live_push rs r h k.1)

live_by : (b : Bool) (r : Registration) (rs : List Registration) → r.handler < 2 ^ 16 → EachLive rs → EachLive (cond b (r ∷ rs) rs)
live_by true r rs h k = (h, k)
live_by false r rs h k = k

live_filter : (test : Registration → Bool) (rs : List Registration) → EachLive rs → EachLive (filter test rs)
live_filter test [] h = tt
live_filter test (r ∷ rs) h = live_by (test r) r (filter test rs) h.0 (live_filter test rs h.1)

found_by : (b : Bool) (r : Registration) (o : Option Registration) → r.handler < 2 ^ 16 → IfSome o (λ x. x.handler < 2 ^ 16) → IfSome (cond b (Some r) o) (λ x. x.handler < 2 ^ 16)
found_by true r o h k = h
found_by false r o h k = k

pub live_found : (test : Registration → Bool) (rs : List Registration) → EachLive rs → IfSome (find test rs) (λ r. r.handler < 2 ^ 16)
live_found test [] h = tt
live_found test (r ∷ rs) h = found_by (test r) r (find test rs) h.0 (live_found test rs h.1)

token_by : (b : Bool) (t : Token) (ts : List Token) → t.result < 2 ^ 64 → EachToken ts → EachToken (cond b (t ∷ ts) ts)
token_by true t ts h k = (h, k)
token_by false t ts h k = k

token_filter : (test : Token → Bool) (ts : List Token) → EachToken ts → EachToken (filter test ts)
token_filter test [] h = tt
token_filter test (t ∷ ts) h = token_by (test t) t (filter test ts) h.0 (token_filter test ts h.1)

token_found_by : (b : Bool) (t : Token) (o : Option Token) → t.result < 2 ^ 64 → IfSome o (λ x. x.result < 2 ^ 64) → IfSome (cond b (Some t) o) (λ x. x.result < 2 ^ 64)
token_found_by true t o h k = h
token_found_by false t o h k = k

token_found : (test : Token → Bool) (ts : List Token) → EachToken ts → IfSome (find test ts) (λ t. t.result < 2 ^ 64)
token_found test [] h = tt
token_found test (t ∷ ts) h = token_found_by (test t) t (find test ts) h.0 (token_found test ts h.1)

with_token_fits : (c : ℕ) (q : Seat) (ts : List Token) → SeatFits q → EachToken ts → EachToken (with_token c q ts)
with_token_fits c Free ts h k = k
with_token_fits c (Open j t) ts h k = k
with_token_fits c (Done j false x S) ts h k = k
with_token_fits c (Done j true x S) ts h k = (h, k)

pub seat_set : (qs : List Seat) (c : ℕ) (q : Seat) → SeatFits q → ((k : ℕ) → SeatFits (slice_index_or qs k Free)) → (k : ℕ) → SeatFits (slice_index_or (slice_set qs c q) k Free)
seat_set [] c q h each k = each k
seat_set (x ∷ qs) zero q h each zero = h
seat_set (x ∷ qs) zero q h each (suc k) = each (suc k)
seat_set (x ∷ qs) (suc c) q h each zero = each 0
seat_set (x ∷ qs) (suc c) q h each (suc k) = seat_set qs c q h (λ i. each (suc i)) k

number_set : (xs : List ℕ) (c x : ℕ) → x < 2 ^ 64 → ((k : ℕ) → slice_index_or xs k 0 < 2 ^ 64) → (k : ℕ) → slice_index_or (slice_set xs c x) k 0 < 2 ^ 64
number_set [] c x h each k = each k
number_set (y ∷ xs) zero x h each zero = h
number_set (y ∷ xs) zero x h each (suc k) = each (suc k)
number_set (y ∷ xs) (suc c) x h each zero = each 0
number_set (y ∷ xs) (suc c) x h each (suc k) = number_set xs c x h (λ i. each (suc i)) k

-- a job that was run is one of the list
done_within : (qs : List Seat) (c : ℕ) → IsDone (slice_index_or qs c Free) → c < length qs
done_within [] c h = absurd h
done_within (q ∷ qs) zero h = omega arith
done_within (q ∷ qs) (suc c) h = omega (arith, done_within qs c h)

-- CHANGES

put_fits : (into x : ℕ) (s : Serving) → x < 2 ^ 64 → ServingFits s → ServingFits (put into x s)
put_fits into x s h k =
    record {
      variables_fit = number_set s.variables into x h k.variables_fit;
      live_fit = k.live_fit;
      last_fits = k.last_fits;
      pool_fits = k.pool_fits;
      few = k.few;
      seats_fit = k.seats_fit;
      tokens_fit = k.tokens_fit;
    }

pub put_on_fits : (S : Status) (into x : ℕ) (s : Serving) → x < 2 ^ 64 → ServingFits s → ServingFits (put_on S into x s)
put_on_fits Success into x s h k = put_fits into x s h k
put_on_fits _ into x s h k = k

with_seats : (s : Serving) (qs : List Seat) (ts : List Token) → length qs ≡ length s.seats → ((c : ℕ) → SeatFits (slice_index_or qs c Free)) → EachToken ts → ServingFits s
    → KnownFits s.variables s.registrations s.pool qs ts
with_seats s qs ts size seats tokens k =
    record {
      variables_fit = k.variables_fit;
      live_fit = k.live_fit;
      last_fits = k.last_fits;
      pool_fits = k.pool_fits;
      few = subst (λ n. n ≤ 64) (sym size) k.few;
      seats_fit = seats;
      tokens_fit = tokens;
    }

pub collected_fits : (c : ℕ) (s : Serving) → ServingFits s → ServingFits (collected c s)
collected_fits c s k =
    with_seats s (slice_set s.seats c Free) (with_token c (seat s c) s.tokens) (length-set s.seats c Free) (seat_set s.seats c Free tt k.seats_fit)
    (with_token_fits c (seat s c) s.tokens (k.seats_fit c) k.tokens_fit) k

result_fits : (q : Seat) (into : ℕ) (s : Serving) → SeatFits q → ServingFits s → ServingFits (put_result q into s)
result_fits Free into s h k = k
result_fits (Open j t) into s h k = k
result_fits (Done j t x S) into s h k = put_on_fits S into x s h k

pub returned_fits : (c into : ℕ) (s : Serving) → ServingFits s → ServingFits (returned c into s)
returned_fits c into s k = result_fits (seat s c) into (collected c s) (k.seats_fit c) (collected_fits c s k)

run_fits : (q : Seat) (x : ℕ) (S : Status) → x < 2 ^ 64 → SeatFits q → SeatFits (run_at q x S)
run_fits Free x S h k = tt
run_fits (Open j t) x S h k = h
run_fits (Done j t y T) x S h k = k

pub ran_fits : (c x : ℕ) (S : Status) (s : Serving) → x < 2 ^ 64 → ServingFits s → ServingFits (ran c x S s)
ran_fits c x S s h k =
    let q = run_at (seat s c) x S in
    with_seats s (slice_set s.seats c q) s.tokens (length-set s.seats c q) (seat_set s.seats c q (run_fits (seat s c) x S h (k.seats_fit c)) k.seats_fit) k.tokens_fit k

given_fits : (c j : ℕ) (t : Bool) (s : Serving) → j < 2 ^ 32 → ServingFits s → ServingFits (given_to c j t s)
given_fits c j t s h k =
    with_seats s (slice_set s.seats c (Open j t)) s.tokens (length-set s.seats c (Open j t)) (seat_set s.seats c (Open j t) h k.seats_fit) k.tokens_fit k

dropped_fits : (n : ℕ) (s : Serving) → ServingFits s → ServingFits (dropped n s)
dropped_fits n s k = with_seats s s.seats (filter (λ t. not (t.job == n)) s.tokens) refl k.seats_fit (token_filter (λ t. not (t.job == n)) s.tokens k.tokens_fit) k

drop_fits : (S : Status) (n : ℕ) (s : Serving) → ServingFits s → ServingFits (drop_on S n s)
drop_fits Success n s k = dropped_fits n s k
drop_fits _ n s k = k

with_pool : (s : Serving) (pool : PoolState) → PoolFits pool → ServingFits s → KnownFits s.variables s.registrations pool s.seats s.tokens
with_pool s pool h k =
    record {
      variables_fit = k.variables_fit;
      live_fit = k.live_fit;
      last_fits = k.last_fits;
      pool_fits = h;
      few = k.few;
      seats_fit = k.seats_fit;
      tokens_fit = k.tokens_fit;
    }

with_registrations : (s : Serving) (g : Registrations) → EachLive g.live → g.last < 2 ^ 32 → ServingFits s → KnownFits s.variables g s.pool s.seats s.tokens
with_registrations s g live last k =
    record {
      variables_fit = k.variables_fit;
      live_fit = live;
      last_fits = last;
      pool_fits = k.pool_fits;
      few = k.few;
      seats_fit = k.seats_fit;
      tokens_fit = k.tokens_fit;
    }

-- a serial number more, while they aren't used up
not_last : (a b : Bool) → (a || b) ≡ false → b ≡ false
not_last true b h = absurd (true≢false h)
not_last false b h = h

pub next_serial : (g : Registrations) → is_full g ≡ false → g.last < 2 ^ 32 → g.last + 1 < 2 ^ 32
next_serial g h few =
    let open_still = not_last (length g.live == 64) (g.last == 4294967295) h in
    let other : g.last ≡ 4294967295 → ⊥ = λ e. true≢false (sym (eq-eqb g.last 4294967295 e) ∙ open_still) in
    omega (arith, few, other)

record Registers (s : Serving) (n h : ℕ) (kind : HandlerType) (S : Status) : Type 0 where
  serial : n < 2 ^ 32
  known : ServingFits (register_on S kind h s)

registers_fit : (b : Bool) (s : Serving) (n h : ℕ) (kind : HandlerType) (S : Status) → is_full s.registrations ≡ b → RegisterShows b s n S → h < 2 ^ 16 → ServingFits s → Registers s n h kind S
registers_fit true s n h kind S e r few k =
    record { serial = let z = r.0 in omega (arith, z); known = subst (λ T. ServingFits (register_on T kind h s)) (sym r.1) k }
registers_fit false s n h kind S e r few k =
    let next = next_serial s.registrations e k.last_fits in
    record {
      serial = let z = r.0 in omega (arith, z, next);
      known = subst (λ T. ServingFits (register_on T kind h s)) (sym r.1)
          (with_registrations s (registered kind h s.registrations) (live_push s.registrations.live (record { serial = s.registrations.last + 1; kind = kind; handler = h }) few k.live_fit) next k);
    }

-- LABELS

number_fits : (s : Serving) (o : Operand) → HasWidth o → ServingFits s → number s o < 2 ^ 64
number_fits s (Number n) h k = h
number_fits s (Variable v) h k = k.variables_fit v

same_fits : (x y limit : ℕ) → x ≡ y → y < limit → x < limit
same_fits x y limit e h = subst (λ z. z < limit) (sym e) h

-- a read shows a number of 64 bits; what it shows is no matter of the list
abbrev pub ReadFits : Label → Type 0
ReadFits (say.Read c r w x S) = x < 2 ^ 64
ReadFits _ = Unit {0}

-- an operation of a file with at most 64 handlers and procedures
pub record OpFits (o : OpDef) : Type 0 where
  pub handlers : ℕ
  pub few : handlers ≤ 64
  pub range : op_fits handlers o ≡ true
  pub widths : HasWidths o

waited : (o : Option Token) (who : Option ℕ) (x : ℕ) (S : Status) → IfSome o (λ t. t.result < 2 ^ 64) → WaitShows (state_of o who) x S → x < 2 ^ 64
waited (Some t) who x S h r = same_fits x t.result (2 ^ 64) r.0 h
waited None (Some c) x S h r = absurd r
waited None None x S h r = let z = r.0 in omega (arith, z)

allocates : (r : Result ℕ PoolError) (x : ℕ) (S : Status) → IfOk r (λ place. place < 2 ^ 64) → AllocShows r x S → x < 2 ^ 64
allocates (Ok place) x S h k = same_fits x place (2 ^ 64) k.0 h
allocates (Err e) x S h k = let z = k.0 in omega (arith, z)

pub record DoneFits (o : OpDef) (s : Serving) (l : Label) : Type 0 where
  pub label : IsLabel l
  pub known : ServingFits (after o s l)
  pub units : (after o s l).given + (after o s l).left ≤ 1 + s.given + s.left

units_put : (S : Status) (into x : ℕ) (s : Serving) → (put_on S into x s).given + (put_on S into x s).left ≡ s.given + s.left
units_put Success into x s = refl
units_put _ into x s = refl

units_drop : (S : Status) (n : ℕ) (s : Serving) → (drop_on S n s).given + (drop_on S n s).left ≡ s.given + s.left
units_drop Success n s = refl
units_drop _ n s = refl

units_register : (S : Status) (kind : HandlerType) (h : ℕ) (s : Serving) → (register_on S kind h s).given + (register_on S kind h s).left ≡ s.given + s.left
units_register Success kind h s = refl
units_register _ kind h s = refl

variable_of : (v : ℕ) → is_variable v ≡ true → v ≤ 7
variable_of v h = let l : v < 8 = ltb-true v 8 h in omega (arith, l)

place_of_procedure : (ps : List ProcedureDef) (name : List ℕ) (p : ℕ) → procedure_place ps name ≡ Some p → p < length ps
place_of_procedure [] name p e = absurd cc
place_of_procedure (x ∷ ps) name p e = (position-Some (λ (q : ProcedureDef). same_text q.name name) (x ∷ ps) p x e).0

-- a job that is given
pub record StartFits (c j p a : ℕ) : Type 0 where
  pub processor : c < 2 ^ 16
  pub job : j < 2 ^ 32
  pub procedure : p < 2 ^ 16
  pub argument : a < 2 ^ 64

starts_fit : (ps : List ProcedureDef) (s : Serving) (cpu : ℕ) (name : List ℕ) (arg c j p a : ℕ) → length ps ≤ 64 → cpu < 2 ^ 16 → arg < 2 ^ 64 → 1 + s.given + s.left < 2 ^ 32
    → Starts ps s cpu name arg c j p a → StartFits c j p a
starts_fit ps s cpu name arg c j p a few processor argument units h =
    let place = place_of_procedure ps name p h.procedure in
    record {
      processor = same_fits c cpu (2 ^ 16) h.processor processor;
      job = let e = h.job in omega (arith, e, units);
      procedure = omega (arith, few, place);
      argument = same_fits a arg (2 ^ 64) h.argument argument;
    }

pub after_fits : (ps : List ProcedureDef) → length ps ≤ 64 → (o : OpDef) (s : Serving) (l : Label) → OpFits o → ServingFits s → 1 + s.given + s.left < 2 ^ 32 → ReadFits l → Fits ps o s l → DoneFits o s l
after_fits ps few (op.Set into value) s (say.Set v x) f k units r h =
    let range = and_parts (is_variable into) (is_operand value) f.range in
    let number : x < 2 ^ 64 = same_fits x _ (2 ^ 64) h.1 (number_fits s value f.widths k) in
    record { label = (subst (λ z. z ≤ 7) (sym h.0) (variable_of into range.0), number); known = put_fits into x s number k; units = omega arith }
after_fits ps few (op.Read cpu reg width into) s (say.Read c q w x S) f k units r h =
    let range = and_parts (is_register_number reg && nat_le width 24) (is_variable into) f.range in
    let wide = leb-true width 24 (and_parts (is_register_number reg) (nat_le width 24) range.0).1 in
    let e = h.2 in
    let u = units_put S into x s in
    record { label = (same_fits c cpu (2 ^ 16) h.0 f.widths, omega (arith, e, wide), r); known = put_on_fits S into x s r k; units = omega (arith, u) }
after_fits ps few (op.Write cpu reg width value) s (say.Write c q w x S) f k units r h =
    let range = and_parts (is_register_number reg && nat_le width 24) (is_operand value) f.range in
    let wide = leb-true width 24 (and_parts (is_register_number reg) (nat_le width 24) range.0).1 in
    let e = h.2 in
    record {
      label = (same_fits c cpu (2 ^ 16) h.0 f.widths.0, omega (arith, e, wide), same_fits x _ (2 ^ 64) h.3 (number_fits s value f.widths.1 k));
      known = k;
      units = omega arith;
    }
after_fits ps few (op.Start cpu name arg into) s (say.Refuse c cause) f k units r h = record { label = same_fits c cpu (2 ^ 16) h f.widths.0; known = k; units = omega arith }
after_fits ps few (op.Start cpu name arg into) s (say.Start c j p a) f k units r h =
    let t = starts_fit ps s cpu name _ c j p a few f.widths.0 (number_fits s arg f.widths.1 k) units h in
    let e = h.job in
    record { label = (t.processor, t.job, t.procedure, t.argument); known = given_fits cpu j false s t.job k; units = omega (arith, e) }
after_fits ps few (op.Launch cpu name arg into) s (say.Refuse c cause) f k units r h = record { label = same_fits c cpu (2 ^ 16) h f.widths.0; known = k; units = omega arith }
after_fits ps few (op.Launch cpu name arg into) s (say.Start c j p a) f k units r h =
    let t = starts_fit ps s cpu name _ c j p a few f.widths.0 (number_fits s arg f.widths.1 k) units h in
    let e = h.job in
    let job = t.job in
    record { label = (t.processor, t.job, t.procedure, t.argument); known = put_fits into j (given_to cpu j true s) (omega (arith, job)) (given_fits cpu j true s t.job k); units = omega (arith, e) }
after_fits ps few (op.Check token) s (say.Check j S) f k units r h =
    let u = units_drop S j s in
    record { label = same_fits j _ (2 ^ 64) h.0 (number_fits s token f.widths k); known = drop_fits S j s k; units = omega (arith, u) }
after_fits ps few (op.Wait token into) s (say.Wait j x S) f k units r h =
    let number = waited (find (λ (t : Token). t.job == number s token) s.tokens) (owner (number s token) s.seats) x S (token_found (λ (t : Token). t.job == number s token) s.tokens k.tokens_fit) h.1 in
    let u = units_put S into x (dropped j s) in
    record {
      label = (same_fits j _ (2 ^ 64) h.0 (number_fits s token f.widths k), number);
      known = put_on_fits S into x (dropped j s) number (dropped_fits j s k);
      units = omega (arith, u);
    }
after_fits ps few (op.Alloc size into) s (say.Alloc n x S) f k units r h =
    let place = allocates (allocated (number s size) s.pool).0 x S (place_fits (number s size) s.pool k.pool_fits) h.1 in
    let t : Serving = record s { pool = (allocated n s.pool).1 } in
    let u = units_put S into x t in
    record {
      label = (same_fits n _ (2 ^ 64) h.0 (number_fits s size f.widths k), place);
      known = put_on_fits S into x t place (with_pool s (allocated n s.pool).1 (allocated_keeps n s.pool k.pool_fits) k);
      units = omega (arith, u);
    }
after_fits ps few (op.Free place) s (say.Free n S) f k units r h =
    record {
      label = same_fits n _ (2 ^ 64) h.0 (number_fits s place f.widths k);
      known = with_pool s (freed n s.pool).1 (freed_keeps n s.pool k.pool_fits) k;
      units = omega arith;
    }
after_fits ps few (op.Register handler kind into) s (say.Register g n S) f k units r h =
    let range = and_parts (nat_lt handler f.handlers) (is_variable into) f.range in
    let within = ltb-true handler f.handlers range.0 in
    let handlers = f.few in
    let small : handler < 2 ^ 16 = omega (arith, within, handlers) in
    let t = registers_fit (is_full s.registrations) s n handler kind S refl h.1 small k in
    let serial = t.serial in
    let u = units_put S into n (register_on S kind handler s) in
    let v = units_register S kind handler s in
    record {
      label = (same_fits g handler (2 ^ 16) h.0 small, t.serial);
      known = put_on_fits S into n (register_on S kind handler s) (omega (arith, serial)) t.known;
      units = omega (arith, u, v);
    }
after_fits ps few (op.Unregister handle) s (say.Unregister n S) f k units r h =
    record {
      label = same_fits n _ (2 ^ 64) h.0 (number_fits s handle f.widths k);
      known = with_registrations s (unregistered n s.registrations) (live_filter (λ q. not (has_serial n q)) s.registrations.live k.live_fit) k.last_fits k;
      units = omega arith;
    }
after_fits ps few _ s _ f k units r h = absurd h

-- a job that is collected before a label
collects_done : (o : OpDef) (s : Serving) (c : ℕ) → Collects o s c → IsDone (seat s c)
collects_done (op.Read cpu reg width into) s c h = subst (λ z. IsDone (seat s z)) (sym h.0) h.1
collects_done (op.Write cpu reg width value) s c h = subst (λ z. IsDone (seat s z)) (sym h.0) h.1
collects_done (op.Start cpu name arg into) s c h = subst (λ z. IsDone (seat s z)) (sym h.0) h.1
collects_done (op.Launch cpu name arg into) s c h = subst (λ z. IsDone (seat s z)) (sym h.0) h.1
collects_done (op.Check token) s c h = h.1
collects_done (op.Wait token into) s c h = h.1
collects_done _ s c h = absurd h

pub collects_few : (o : OpDef) (s : Serving) (c : ℕ) → ServingFits s → Collects o s c → c < 2 ^ 16
collects_few o s c k h = let few = k.few in let within = done_within s.seats c (collects_done o s c h) in omega (arith, few, within)
