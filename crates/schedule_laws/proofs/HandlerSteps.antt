-- A label that the server's place takes is taken by the place that has some of the jobs run already, where the seats that the label goes
-- by are the same in both; and the places after it differ in the jobs alone.
use Rattle.std.proofs.Common.{◌≡◌, ℕ, zero, suc, ◌<◌, Bool, true, false, List, [], ◌∷◌, length, Option, Some, None, refl, sym, ap, subst, ◌∙◌}
use Rattle.std.specs.Prelude.{◌==◌, slice_set, slice_index_or}
use Rattle.std.specs.List.{find}
use Rattle.smm_base.specs.declared.kinds.HandlerType.{HandlerType}
use Rattle.smm_base.specs.declared.status.Status.{Status}
use Rattle.smm_base.specs.declared.status.Status.TheVariants.{Success, NotReady}
use Rattle.cpu_table.specs.Data.{SetupData}
use Rattle.cpu_table.specs.Ranges.{handlers_fit}
use Rattle.cpu_table.specs.declared.handlers.OpDef.{OpDef}
use Rattle.cpu_table.specs.declared.handlers.OpDef.TheVariants as op
use Rattle.cpu_table.specs.declared.handlers.Operand.{Operand}
use Rattle.cpu_table.specs.declared.handlers.Operand.TheVariants.{Number, Variable}
use Rattle.cpu_table.specs.declared.handlers.ProcedureDef.{ProcedureDef}
use Rattle.sync_words.specs.declared.label.Label.{Label}
use Rattle.sync_words.specs.declared.label.Label.TheVariants as say
use Rattle.handler_registry.specs.declared.registration.Registration.{Registration}
use Rattle.handler_registry.specs.Registrations.{is_full}
use Rattle.smi_manage.specs.declared.running.Running.{Running}
use Rattle.smi_manage.specs.Answers.{ended_with}
use Rattle.serving_place.specs.declared.seat.Seat.{Seat}
use Rattle.serving_place.specs.declared.seat.Seat.TheVariants.{Free, Open, Done}
use Rattle.serving_place.specs.declared.token.Token.{Token}
use Rattle.serving_place.specs.declared.token.TokenState.{TokenState}
use Rattle.serving_place.specs.Serving.{Serving, IsFree, IsDone, IsOutOn, HasEnded, number, put_on, dropped, collected, put_result, owner, state_of, token_of, with_token}
use Rattle.serving_place.specs.Operations.{Fits, after, Collects, ReadShows, WriteShows, CheckShows, WaitShows, RegisterShows, register_on, drop_on, Starts}
use Rattle.serving_place.specs.Forms.{Own, status_of, by_left, by_turn, by_collect, turn_of}
use Rattle.serving_place.specs.Beginning.{program_of}
use Rattle.serving_place.specs.Places.{Call, OpenWalk, Begun, First, Started, Awaited, Place, one_less, levels_left, at_left, at_turn, at_collect, place_at, place_begun, begun_by, MayOperate, after_operating, with_walk, MayOpen, MayDo, after_doing, MayTurn, after_turn, MayInCall, after_in_call, MayInWalk, after_in_walk, MayInWalks, after_in_walks, MayBegun, after_begun, Accepts, next}
use Rattle.schedule_laws.proofs.HandlerFits.{IsOp, AreOps, CallFits, WalksFit, BegunFits, PlaceFits, ops_fit, first_op}

-- a place with these jobs
abbrev pub with_seats : List Seat → Serving → Serving
with_seats rs s = record s { seats = rs }

abbrev pub placed : List Seat → Place → Place
placed rs p = record p { state = with_seats rs p.state }

abbrev pub seat_in : List Seat → ℕ → Seat
seat_in qs c = slice_index_or qs c Free

-- the jobs have the same tokens
pub record IsAlike (qs rs : List Seat) : Type 0 where
  pub size : length rs ≡ length qs
  pub owner_is : (n : ℕ) → owner n rs ≡ owner n qs

-- the seat that a label goes by is the same in both
abbrev pub AgreesNotReady : Status → ℕ → List Seat → List Seat → Type 0
AgreesNotReady NotReady n qs rs = (c : ℕ) → owner n qs ≡ Some c → seat_in rs c ≡ seat_in qs c
AgreesNotReady _ n qs rs = Unit {0}

abbrev pub Agrees : Label → List Seat → List Seat → Type 0
Agrees (say.Read c register width x S) qs rs = seat_in rs c ≡ seat_in qs c
Agrees (say.Write c register width x S) qs rs = seat_in rs c ≡ seat_in qs c
Agrees (say.Start c j p a) qs rs = seat_in rs c ≡ seat_in qs c
Agrees (say.Collect c) qs rs = seat_in rs c ≡ seat_in qs c
Agrees (say.Check n S) qs rs = AgreesNotReady S n qs rs
Agrees _ qs rs = Unit {0}

-- what a label makes of the seats of both
abbrev pub SeatsBoth : Label → List Seat → List Seat → List Seat → List Seat → Type 0
SeatsBoth (say.Start c j p a) qs qs' rs rs' = (b : Bool) × (qs' ≡ slice_set qs c (Open j b)) × (rs' ≡ slice_set rs c (Open j b))
SeatsBoth (say.Collect c) qs qs' rs rs' = (qs' ≡ slice_set qs c Free) × (rs' ≡ slice_set rs c Free)
SeatsBoth _ qs qs' rs rs' = (qs' ≡ qs) × (rs' ≡ rs)

-- the state after an operation's own label
record FitsBoth (l : Label) (A : Type 0) (s s' : Serving) (rs : List Seat) (u' : Serving) : Type 0 where
  may : A
  later : List Seat
  is : u' ≡ with_seats later s'
  seats : SeatsBoth l s.seats s'.seats rs later

-- the places after a label
pub record Both (d : SetupData) (l : Label) (qs rs : List Seat) (A : Type 0) (x y : Place) : Type 0 where
  pub may : A
  pub later : List Seat
  pub same : y ≡ placed later x
  pub seats : SeatsBoth l qs x.state.seats rs later
  pub fits : PlaceFits d x

number_same : (s : Serving) (rs : List Seat) (v : Operand) → number (with_seats rs s) v ≡ number s v
number_same s rs (Number n) = refl
number_same s rs (Variable v) = refl

put_both : (S : Status) (into x : ℕ) (s : Serving) (rs : List Seat) → put_on S into x (with_seats rs s) ≡ with_seats rs (put_on S into x s)
put_both Success into x s rs = refl
put_both _ into x s rs = refl

put_seats : (S : Status) (into x : ℕ) (s : Serving) → (put_on S into x s).seats ≡ s.seats
put_seats Success into x s = refl
put_seats _ into x s = refl

drop_both : (S : Status) (n : ℕ) (s : Serving) (rs : List Seat) → drop_on S n (with_seats rs s) ≡ with_seats rs (drop_on S n s)
drop_both Success n s rs = refl
drop_both _ n s rs = refl

drop_seats : (S : Status) (n : ℕ) (s : Serving) → (drop_on S n s).seats ≡ s.seats
drop_seats Success n s = refl
drop_seats _ n s = refl

register_both : (S : Status) (kind : HandlerType) (h : ℕ) (s : Serving) (rs : List Seat) → register_on S kind h (with_seats rs s) ≡ with_seats rs (register_on S kind h s)
register_both Success kind h s rs = refl
register_both _ kind h s rs = refl

register_seats : (S : Status) (kind : HandlerType) (h : ℕ) (s : Serving) → (register_on S kind h s).seats ≡ s.seats
register_seats Success kind h s = refl
register_seats _ kind h s = refl

result_both : (q : Seat) (into : ℕ) (s : Serving) (rs : List Seat) → put_result q into (with_seats rs s) ≡ with_seats rs (put_result q into s)
result_both Free into s rs = refl
result_both (Open j t) into s rs = refl
result_both (Done j t x S) into s rs = put_both S into x s rs

result_seats : (q : Seat) (into : ℕ) (s : Serving) → (put_result q into s).seats ≡ s.seats
result_seats Free into s = refl
result_seats (Open j t) into s = refl
result_seats (Done j t x S) into s = put_seats S into x s

collected_both : (c : ℕ) (s : Serving) (rs : List Seat) → seat_in rs c ≡ seat_in s.seats c → collected c (with_seats rs s) ≡ with_seats (slice_set rs c Free) (collected c s)
collected_both c s rs e = ap (λ (q : Seat). record s { seats = slice_set rs c Free; tokens = with_token c q s.tokens }) e

register_shows : (b : Bool) (s : Serving) (rs : List Seat) (n : ℕ) (S : Status) → RegisterShows b s n S → RegisterShows b (with_seats rs s) n S
register_shows true s rs n S h = h
register_shows false s rs n S h = h

-- a check, by what became of the token
check_shows : (s : Serving) (rs : List Seat) (a : Option Token) (o : Option ℕ) (S : Status) → (S ≡ NotReady → (c : ℕ) → o ≡ Some c → seat_in rs c ≡ seat_in s.seats c)
    → CheckShows s (state_of a o) S → CheckShows (with_seats rs s) (state_of a o) S
check_shows s rs (Some t) o S g h = h
check_shows s rs None (Some c) S g h = (subst (λ (q : Seat). IsDone q → ⊥) (sym (g h.1 c refl)) h.0, h.1)
check_shows s rs None None S g h = h

token_same : (s : Serving) (rs : List Seat) (n : ℕ) → owner n rs ≡ owner n s.seats → token_of (with_seats rs s) n ≡ token_of s n
token_same s rs n e = ap (λ (o : Option ℕ). state_of (find (λ t. t.job == n) s.tokens) o) e

module _ (ps : List ProcedureDef) (s : Serving) (rs : List Seat) (alike : IsAlike s.seats rs) where
  -- the token that an operand names
  token_at : (v : Operand) → token_of (with_seats rs s) (number (with_seats rs s) v) ≡ token_of s (number s v)
  token_at v = ap (λ (n : ℕ). token_of (with_seats rs s) n) (number_same s rs v) ∙ token_same s rs (number s v) (alike.owner_is (number s v))

  check_at : (v : Operand) (j : ℕ) (S : Status) → j ≡ number s v → AgreesNotReady S j s.seats rs
      → CheckShows s (token_of s (number s v)) S → CheckShows (with_seats rs s) (token_of (with_seats rs s) (number (with_seats rs s) v)) S
  check_at v j S e g h =
      subst (λ (t : TokenState). CheckShows (with_seats rs s) t S) (sym (token_at v))
      (check_shows s rs (find (λ t. t.job == number s v) s.tokens) (owner (number s v) s.seats) S
      (λ z. subst (λ (n : ℕ). (c : ℕ) → owner n s.seats ≡ Some c → seat_in rs c ≡ seat_in s.seats c) e (subst (λ (T : Status). AgreesNotReady T j s.seats rs) z g)) h)

  starts_at : (cpu : ℕ) (name : List ℕ) (v : Operand) (c j p a : ℕ) → seat_in rs c ≡ seat_in s.seats c → Starts ps s cpu name (number s v) c j p a
      → Starts ps (with_seats rs s) cpu name (number (with_seats rs s) v) c j p a
  starts_at cpu name v c j p a g h =
      record {
        processor = h.processor;
        there = subst (λ (n : ℕ). cpu < n) (sym alike.size) h.there;
        free = subst (λ (i : ℕ). IsFree (seat_in rs i)) h.processor (subst (λ (q : Seat). IsFree q) (sym g) (subst (λ (i : ℕ). IsFree (seat_in s.seats i)) (sym h.processor) h.free));
        job = h.job;
        procedure = h.procedure;
        argument = h.argument ∙ sym (number_same s rs v);
      }

  own_at : (c cpu : ℕ) → c ≡ cpu → seat_in rs c ≡ seat_in s.seats c → seat_in rs cpu ≡ seat_in s.seats cpu
  own_at c cpu e g = subst (λ (i : ℕ). seat_in rs i ≡ seat_in s.seats i) e g

  -- an operation's own label
  fits_both : (o : OpDef) (l : Label) → Agrees l s.seats rs → Fits ps o s l → FitsBoth l (Fits ps o (with_seats rs s) l) s (after o s l) rs (after o (with_seats rs s) l)
  fits_both (op.Set into v) (say.Set k x) g h = record { may = (h.0, h.1 ∙ sym (number_same s rs v)); later = rs; is = refl; seats = (refl, refl) }
  fits_both (op.Read cpu reg width into) (say.Read c r w x S) g h =
      record {
        may = (h.0, h.1, h.2, subst (λ (q : Seat). ReadShows q x S) (sym (own_at c cpu h.0 g)) h.3);
        later = rs;
        is = put_both S into x s rs;
        seats = (put_seats S into x s, refl);
      }
  fits_both (op.Write cpu reg width v) (say.Write c r w x S) g h =
      record {
        may = (h.0, h.1, h.2, h.3 ∙ sym (number_same s rs v), subst (λ (q : Seat). WriteShows q S) (sym (own_at c cpu h.0 g)) h.4);
        later = rs;
        is = refl;
        seats = (refl, refl);
      }
  fits_both (op.Start cpu name arg into) (say.Start c j p a) g h =
      record {
        may = starts_at cpu name arg c j p a g h;
        later = slice_set rs cpu (Open j false);
        is = refl;
        seats = (false, ap (λ (i : ℕ). slice_set s.seats i (Open j false)) (sym h.processor), ap (λ (i : ℕ). slice_set rs i (Open j false)) (sym h.processor));
      }
  fits_both (op.Start cpu name arg into) (say.Refuse c x) g h = record { may = h; later = rs; is = refl; seats = (refl, refl) }
  fits_both (op.Launch cpu name arg into) (say.Start c j p a) g h =
      record {
        may = starts_at cpu name arg c j p a g h;
        later = slice_set rs cpu (Open j true);
        is = refl;
        seats = (true, ap (λ (i : ℕ). slice_set s.seats i (Open j true)) (sym h.processor), ap (λ (i : ℕ). slice_set rs i (Open j true)) (sym h.processor));
      }
  fits_both (op.Launch cpu name arg into) (say.Refuse c x) g h = record { may = h; later = rs; is = refl; seats = (refl, refl) }
  fits_both (op.Check v) (say.Check j S) g h =
      record {
        may = (h.0 ∙ sym (number_same s rs v), check_at v j S h.0 g h.1);
        later = rs;
        is = drop_both S j s rs;
        seats = (drop_seats S j s, refl);
      }
  fits_both (op.Wait v into) (say.Wait j x S) g h =
      record {
        may = (h.0 ∙ sym (number_same s rs v), subst (λ (t : TokenState). WaitShows t x S) (sym (token_at v)) h.1);
        later = rs;
        is = put_both S into x (dropped j s) rs;
        seats = (put_seats S into x (dropped j s), refl);
      }
  fits_both (op.Alloc v into) (say.Alloc n x S) g h =
      rw (number_same s rs v) (record { may = h; later = rs; is = put_both S into x _ rs; seats = (put_seats S into x _, refl) })
  fits_both (op.Free v) (say.Free n S) g h = rw (number_same s rs v) (record { may = h; later = rs; is = refl; seats = (refl, refl) })
  fits_both (op.Register handler kind into) (say.Register k n S) g h =
      record {
        may = (h.0, register_shows (is_full s.registrations) s rs n S h.1);
        later = rs;
        is = ap (put_on S into n) (register_both S kind handler s rs) ∙ put_both S into n (register_on S kind handler s) rs;
        seats = (put_seats S into n (register_on S kind handler s) ∙ register_seats S kind handler s, refl);
      }
  fits_both (op.Unregister v) (say.Unregister n S) g h = rw (number_same s rs v) (record { may = h; later = rs; is = refl; seats = (refl, refl) })
  fits_both _ _ g h = absurd h

  -- a job that may be collected
  out_at : (v : Operand) (c : ℕ) → seat_in rs c ≡ seat_in s.seats c → IsOutOn (token_of s (number s v)) c × IsDone (seat_in s.seats c)
      → IsOutOn (token_of (with_seats rs s) (number (with_seats rs s) v)) c × IsDone (seat_in rs c)
  out_at v c g h = (subst (λ (t : TokenState). IsOutOn t c) (sym (token_at v)) h.0, subst (λ (q : Seat). IsDone q) (sym g) h.1)

  done_at : (c cpu : ℕ) → seat_in rs c ≡ seat_in s.seats c → (c ≡ cpu) × IsDone (seat_in s.seats cpu) → (c ≡ cpu) × IsDone (seat_in rs cpu)
  done_at c cpu g h = (h.0, subst (λ (q : Seat). IsDone q) (sym (own_at c cpu h.0 g)) h.1)

  collects_both : (o : OpDef) (c : ℕ) → seat_in rs c ≡ seat_in s.seats c → Collects o s c → Collects o (with_seats rs s) c
  collects_both (op.Read cpu reg width into) c g h = done_at c cpu g h
  collects_both (op.Write cpu reg width v) c g h = done_at c cpu g h
  collects_both (op.Start cpu name arg into) c g h = done_at c cpu g h
  collects_both (op.Launch cpu name arg into) c g h = done_at c cpu g h
  collects_both (op.Check v) c g h = out_at v c g h
  collects_both (op.Wait v into) c g h = out_at v c g h
  collects_both _ c g h = absurd h

-- PLACES

-- a label that leaves all seats
plain : (d : SetupData) (l k : Label) (qs rs : List Seat) (x y : Place) → l ≡ k → SeatsBoth k qs x.state.seats rs rs → y ≡ placed rs x → PlaceFits d x → Both d l qs rs (l ≡ k) x y
plain d l k qs rs x y e h g f =
    record { may = e; later = rs; same = g; seats = subst (λ (i : Label). SeatsBoth i qs x.state.seats rs rs) (sym e) h; fits = f }

left_both : (d : SetupData) (n : ℕ) (l : Label) (qs rs : List Seat) (A A' : Type 0) (F F' : ℕ → Type 0) (x x' : Place) (f f' : ℕ → Place)
    → (A → Both d l qs rs A' x x') → ((m : ℕ) → F m → Both d l qs rs (F' m) (f m) (f' m)) → by_left n A F → Both d l qs rs (by_left n A' F') (at_left n x f) (at_left n x' f')
left_both d zero l qs rs A A' F F' x x' f f' h k = h
left_both d (suc n) l qs rs A A' F F' x x' f f' h k = k n

turn_both : (d : SetupData) (o : Option Registration) (l : Label) (qs rs : List Seat) (A A' : Type 0) (F F' : ℕ → Type 0) (x x' : Place) (f f' : ℕ → Place)
    → (A → Both d l qs rs A' x x') → ((m : ℕ) → F m → Both d l qs rs (F' m) (f m) (f' m)) → by_turn o A F → Both d l qs rs (by_turn o A' F') (at_turn o x f) (at_turn o x' f')
turn_both d None l qs rs A A' F F' x x' f f' h k = h
turn_both d (Some r) l qs rs A A' F F' x x' f f' h k = k r.handler

collect_both : (d : SetupData) (l : Label) (qs rs : List Seat) (A A' : Type 0) (F F' : ℕ → Type 0) (x x' : Place) (f f' : ℕ → Place) → Agrees l qs rs
    → (A → Both d l qs rs A' x x') → ((c : ℕ) → seat_in rs c ≡ seat_in qs c → F c → Both d (say.Collect c) qs rs (F' c) (f c) (f' c))
    → by_collect l F A → Both d l qs rs (by_collect l F' A') (at_collect l f x) (at_collect l f' x')
collect_both d (say.Collect c) qs rs A A' F F' x x' f f' g h k = k c g
collect_both d _ qs rs A A' F F' x x' f f' g h k = h

ended_fits : (d : SetupData) (s : Serving) → PlaceFits d (place_at [] [] s)
ended_fits d s = record { walks = tt; begun = tt }

awaits_fits : (d : SetupData) (o : OpDef) (s : Serving) (l : Label) → length s.seats ≡ d.processors → Fits (program_of d).procedures o s l → BegunFits d (begun_by o l)
awaits_fits d (op.Start cpu name arg into) s (say.Start c j p a) size h = subst (λ (n : ℕ). cpu < n) size h.there
awaits_fits d (op.Start cpu name arg into) s _ size h = tt
awaits_fits d _ s l size h = tt

operating_both : (d : SetupData) (kinds : List HandlerType) (ws : List OpenWalk) (o : OpDef) (s : Serving) (rs : List Seat) (l : Label) → IsAlike s.seats rs
    → length s.seats ≡ d.processors → Agrees l s.seats rs → WalksFit d ws → IsOp d o → MayOperate (program_of d).procedures o s l
    → Both d l s.seats rs (MayOperate (program_of d).procedures o (with_seats rs s) l) (after_operating kinds ws o s l) (after_operating kinds ws o (with_seats rs s) l)
operating_both d kinds ws o s rs l alike size g w i =
    let ps : List ProcedureDef = (program_of d).procedures in
    collect_both d l s.seats rs (Fits ps o s l) (Fits ps o (with_seats rs s) l) (λ c. Collects o s c) (λ c. Collects o (with_seats rs s) c) _ _ _ _ g
    (λ h.
    let b = fits_both ps s rs alike o l g h in
    record {
      may = b.may;
      later = b.later;
      same = ap (λ (u : Serving). record { kinds = kinds; walks = ws; begun = begun_by o l; state = u }) b.is;
      seats = b.seats;
      fits = record { walks = w; begun = awaits_fits d o s l size h };
    })
    (λ c e h.
    record {
      may = collects_both ps s rs alike o c e h;
      later = slice_set rs c Free;
      same = ap (λ (u : Serving). place_begun kinds ws (Started o) u) (collected_both c s rs e);
      seats = (refl, refl);
      fits = record { walks = w; begun = i };
    })

walk_both : (d : SetupData) (n : ℕ) (kinds : List HandlerType) (ws : List OpenWalk) (kind : HandlerType) (s : Serving) (rs : List Seat) (l : Label) → WalksFit d ws
    → MayOpen n kind l → Both d l s.seats rs (MayOpen n kind l) (with_walk n kinds ws kind s) (with_walk n kinds ws kind (with_seats rs s))
walk_both d zero kinds ws kind s rs l w e = plain d l (say.Deep kind) s.seats rs _ _ e (refl, refl) refl (record { walks = w; begun = tt })
walk_both d (suc n) kinds ws kind s rs l w e = plain d l (say.Manage kind) s.seats rs _ _ e (refl, refl) refl (record { walks = (tt, w); begun = tt })

doing_both : (d : SetupData) (n : ℕ) (kinds : List HandlerType) (ws : List OpenWalk) (o : OpDef) (s : Serving) (rs : List Seat) (l : Label) → IsAlike s.seats rs
    → length s.seats ≡ d.processors → Agrees l s.seats rs → WalksFit d ws → IsOp d o → MayDo (program_of d).procedures n o s l
    → Both d l s.seats rs (MayDo (program_of d).procedures n o (with_seats rs s) l) (after_doing n kinds ws o s l) (after_doing n kinds ws o (with_seats rs s) l)
doing_both d n kinds ws (op.Manage kind) s rs l alike size g w i h = walk_both d n kinds ws kind s rs l w h
doing_both d n kinds ws o s rs l alike size g w i h = operating_both d kinds ws o s rs l alike size g w i h

module _ (d : SetupData) (fitting : handlers_fit d.handlers ≡ true) where
  turns_both : (kinds : List HandlerType) (ws : List OpenWalk) (kind : HandlerType) (turns : List ℕ) (r : Running) (s : Serving) (rs : List Seat) (l : Label) → WalksFit d ws
      → MayTurn kind turns r s l
      → Both d l s.seats rs (MayTurn kind turns r (with_seats rs s) l) (after_turn (program_of d) kinds ws kind turns r s) (after_turn (program_of d) kinds ws kind turns r (with_seats rs s))
  turns_both kinds ws kind [] r s rs l w e = plain d l (say.Answer (ended_with kind r)) s.seats rs _ _ e (refl, refl) refl (record { walks = w; begun = tt })
  turns_both kinds ws kind (n ∷ turns) r s rs l w h =
      turn_both d (turn_of kind s.registrations n) l s.seats rs _ _ _ _ _ _ _ _ (turns_both kinds ws kind turns r s rs l w)
      (λ m. left_both d s.left l s.seats rs (l ≡ say.Spent) (l ≡ say.Spent) (λ q. l ≡ say.Call m) (λ q. l ≡ say.Call m) _ _ _ _
      (λ e. plain d l say.Spent s.seats rs _ _ e (refl, refl) refl (ended_fits d s))
      (λ q e. plain d l (say.Call m) s.seats rs _ _ e (refl, refl) refl (record { walks = (ops_fit d fitting m, w); begun = tt }))) h

  in_call_both : (kinds : List HandlerType) (ws : List OpenWalk) (w : OpenWalk) (h : ℕ) (os : List OpDef) (s : Serving) (rs : List Seat) (l : Label) → IsAlike s.seats rs
      → length s.seats ≡ d.processors → Agrees l s.seats rs → WalksFit d ws → AreOps d os → MayInCall (program_of d) (one_less (levels_left ws)) h os s l
      → Both d l s.seats rs (MayInCall (program_of d) (one_less (levels_left ws)) h os (with_seats rs s) l) (after_in_call (program_of d) kinds ws w h os s l) (after_in_call (program_of d) kinds ws w h os (with_seats rs s) l)
  in_call_both kinds ws w h [] s rs l alike size g f i e =
      plain d l (say.Return h (status_of (program_of d) h)) s.seats rs _ _ e (refl, refl) refl (record { walks = (tt, f); begun = tt })
  in_call_both kinds ws w h (o ∷ os) s rs l alike size g f i e =
      let parts = first_op d o os i in
      left_both d s.left l s.seats rs (l ≡ say.Spent) (l ≡ say.Spent)
      (λ m. MayDo (program_of d).procedures (one_less (levels_left ws)) o (record s { left = m }) l)
      (λ m. MayDo (program_of d).procedures (one_less (levels_left ws)) o (record (with_seats rs s) { left = m }) l) _ _ _ _
      (λ q. plain d l say.Spent s.seats rs _ _ q (refl, refl) refl (ended_fits d s))
      (λ m q. doing_both d (one_less (levels_left ws)) kinds _ o (record s { left = m }) rs l alike size g (parts.1, f) parts.0 q) e

  in_walk_both : (kinds : List HandlerType) (ws : List OpenWalk) (w : OpenWalk) (c : Option Call) (s : Serving) (rs : List Seat) (l : Label) → IsAlike s.seats rs
      → length s.seats ≡ d.processors → Agrees l s.seats rs → WalksFit d ws → CallFits d c → MayInWalk (program_of d) (one_less (levels_left ws)) w c s l
      → Both d l s.seats rs (MayInWalk (program_of d) (one_less (levels_left ws)) w c (with_seats rs s) l) (after_in_walk (program_of d) kinds ws w c s l) (after_in_walk (program_of d) kinds ws w c (with_seats rs s) l)
  in_walk_both kinds ws w None s rs l alike size g f i = turns_both kinds ws w.kind w.turns w.running s rs l f
  in_walk_both kinds ws w (Some c) s rs l alike size g f i = in_call_both kinds ws w c.handler c.ops s rs l alike size g f i

  in_walks_both : (kinds : List HandlerType) (walks : List OpenWalk) (s : Serving) (rs : List Seat) (l : Label) → IsAlike s.seats rs → length s.seats ≡ d.processors
      → Agrees l s.seats rs → WalksFit d walks → MayInWalks (program_of d) kinds walks s l
      → Both d l s.seats rs (MayInWalks (program_of d) kinds walks (with_seats rs s) l) (after_in_walks (program_of d) kinds walks s l) (after_in_walks (program_of d) kinds walks (with_seats rs s) l)
  in_walks_both [] [] s rs l alike size g f h = absurd h
  in_walks_both (kind ∷ kinds) [] s rs l alike size g f h =
      left_both d s.left l s.seats rs (l ≡ say.Spent) (l ≡ say.Spent) (λ m. l ≡ say.Manage kind) (λ m. l ≡ say.Manage kind) _ _ _ _
      (λ e. plain d l say.Spent s.seats rs _ _ e (refl, refl) refl (ended_fits d s))
      (λ m e. walk_both d 4 kinds [] kind (record s { left = m }) rs l tt e) h
  in_walks_both [] (w ∷ ws) s rs l alike size g f h = in_walk_both [] ws w w.called s rs l alike size g f.1 f.0 h
  in_walks_both (k ∷ ks) (w ∷ ws) s rs l alike size g f h = in_walk_both (k ∷ ks) ws w w.called s rs l alike size g f.1 f.0 h

  begun_both : (kinds : List HandlerType) (walks : List OpenWalk) (b : Option Begun) (s : Serving) (rs : List Seat) (l : Label) → IsAlike s.seats rs
      → length s.seats ≡ d.processors → Agrees l s.seats rs → WalksFit d walks → BegunFits d b → MayBegun (program_of d) kinds walks b s l
      → Both d l s.seats rs (MayBegun (program_of d) kinds walks b (with_seats rs s) l) (after_begun (program_of d) kinds walks b s l) (after_begun (program_of d) kinds walks b (with_seats rs s) l)
  begun_both kinds walks None s rs l alike size g f i h = in_walks_both kinds walks s rs l alike size g f h
  begun_both kinds walks (Some (First w)) s rs l alike size g f i h = absurd i
  begun_both kinds walks (Some (Started o)) s rs l alike size g f i h = doing_both d (levels_left walks) kinds walks o s rs l alike size g f i h
  begun_both kinds walks (Some (Awaited c into)) s rs l alike size g f i h =
      let e : seat_in rs c ≡ seat_in s.seats c = subst (λ (k : Label). Agrees k s.seats rs) h.0 g in
      let q : Seat = seat_in s.seats c in
      record {
        may = (h.0, subst (λ (q : Seat). HasEnded q) (sym e) h.1);
        later = slice_set rs c Free;
        same = ap (λ (u : Serving). place_at kinds walks u)
            (ap (λ (p : Seat). put_result p into (collected c (with_seats rs s))) e
            ∙ ap (λ (u : Serving). put_result q into u) (collected_both c s rs e)
            ∙ result_both q into (collected c s) (slice_set rs c Free));
        seats = subst (λ (k : Label). SeatsBoth k s.seats (put_result q into (collected c s)).seats rs (slice_set rs c Free)) (sym h.0) (result_seats q into (collected c s), refl);
        fits = record { walks = f; begun = tt };
      }

  -- a label that the server's place takes, behind the first
  pub both_go : (p : Place) (rs : List Seat) (l : Label) → IsAlike p.state.seats rs → length p.state.seats ≡ d.processors → Agrees l p.state.seats rs → PlaceFits d p
      → Accepts (program_of d) p (Own l)
      → Both d l p.state.seats rs (Accepts (program_of d) (placed rs p) (Own l)) (next (program_of d) p (Own l)) (next (program_of d) (placed rs p) (Own l))
  both_go p rs l alike size g f h = begun_both p.kinds p.walks p.begun p.state rs l alike size g f.walks f.begun h
