-- What the row that the server was told says of the world and the machine.
use Rattle.std.proofs.Common.{ℕ, zero, suc, ◌+◌, ◌≡◌, ◌≢◌, ◌<◌, ◌≤◌, ◌⊎◌, inl, inr, arith, Bool, true, false, cond, List, [], ◌∷◌, length, get_or, Option, Some, None, refl, sym, ap, subst, ⊎_elim, ◌∙◌}
use Rattle.std.specs.Prelude.{IsSomeAnd, is_none, not, ◌&&◌, ◌||◌, ◌==◌, nat_lt, nat_le, if◌then◌else◌, unwrap_or, option_map}
use Rattle.std.specs.List.{filter}
use Rattle.std.proofs.lemmas.Bool.{cases_eq, cases_lt, eq-eqb, ne_eqb, lt-ltb, le-ltb, and_parts, eqb-true}
use Rattle.smm_base.specs.Register.{register_number, is_register_number}
use Rattle.smm_base.specs.declared.kinds.HandlerType.{HandlerType}
use Rattle.smm_base.specs.declared.status.Status.{Status}
use Rattle.smm_base.specs.declared.status.Status.TheVariants.{InvalidParameter, NotReady}
use Rattle.cpu_table.specs.Data.{SetupData}
use Rattle.cpu_table.specs.declared.handlers.OpDef.{OpDef}
use Rattle.cpu_table.specs.declared.handlers.OpDef.TheVariants as op
use Rattle.sync_words.specs.declared.label.StartRefusal.{StartRefusal}
use Rattle.sync_words.specs.declared.label.StartRefusal.TheVariants as cause
use Rattle.sync_words.specs.declared.label.Label.{Label}
use Rattle.sync_words.specs.declared.label.Label.TheVariants as say
use Rattle.handler_registry.specs.Registrations.{is_full}
use Rattle.handler_ops.specs.declared.desk.Job.{Job}
use Rattle.serving_place.specs.declared.seat.Seat.{Seat}
use Rattle.serving_place.specs.declared.seat.Seat.TheVariants.{Free, Open, Done}
use Rattle.serving_place.specs.declared.token.Token.{Token}
use Rattle.handler_ops.specs.declared.reach.Reach.TheVariants.{Outside, AtHand, Working, Elsewhere}
use Rattle.handler_ops.specs.declared.row.Row.{Row}
use Rattle.handler_ops.specs.declared.row.Row.TheVariants as told
use Rattle.serving_place.specs.Serving.{Serving, IsFree, number, owner, owes_token, state_of, has_token, tokens_out}
use Rattle.serving_place.specs.Operations.{register_of, procedure_place}
use Rattle.serving_place.specs.Beginning.{program_of}
use Rattle.serving_place.specs.Places.{Place}
use Rattle.serving_place.specs.Due.{Due, Nothing, Saying, Awaiting, Doing, due}
use Rattle.serving_place.specs.Setting.{first_cause}
use Rattle.handler_ops.specs.Course.{is_held, has_job, read_of, write_of, shown_value, blank, register_label, open_label, read_label, write_label}
use Rattle.handler_ops.specs.Conditions.{IsSound}
use Rattle.handler_ops.specs.NextRow.{desk_row, reading_row, writing_row, start_row, starting_row, checking_row, waiting_row, operation_row, due_row, row_of}
use Rattle.rendezvous_machine.specs.Machines.{Machine, member, is_here}
use Rattle.rendezvous_machine.specs.Listed.{place_of}
use Rattle.rendezvous_machine.specs.Refusals.{refusal, refusal_of, refusal_due, cause_for, later_cause, or_else, is_open}
use Rattle.rendezvous_machine.specs.Services.{setting, target, Target, NoProcessor, JobOpen, Image, by_job, ReadShows, WriteShows, written}
use Rattle.rendezvous_laws.proofs.Writes.{register_known}
use Rattle.schedule_laws.proofs.Scenes.{Scene}
use Rattle.schedule_laws.proofs.Stations.{work_of, work_done}
use Rattle.schedule_laws.proofs.Invariant.{Context, by_done, with_done, seat_known}
use Rattle.schedule_laws.proofs.HandlerFits.{IsOp, IsOfWalk, DueFits, PlaceFits, due_fits}
use Rattle.schedule_laws.proofs.HandlerSteps.{seat_in, with_seats, Agrees}
use Rattle.schedule_laws.proofs.HandlerPlaces.{IsTied, agree_at}
use Rattle.schedule_laws.proofs.HandlerSays.{Asks, read_absent, write_status, unwritten}

-- WHAT IS KNOWN OF OTHER PROCESSORS

-- Of another processor: one whose desk is held is there without a job; one whose desk isn't held, has no job and isn't marked present
-- isn't there; and the job of one whose word `busy` isn't 2 wasn't run.
pub record IsSeen (d : SetupData) (c : Context) (m : Machine) (present busy x : ℕ) : Type 0 where
  pub held_idle : is_held c.held x ≡ true → (member m x).job ≡ None
  pub held_here : is_held c.held x ≡ true → is_here (member m x).phase ≡ true
  pub away : is_held c.held x ≡ false → (member m x).job ≡ None → present ≢ 1 → is_here (member m x).phase ≡ false
  pub unrun : busy ≢ 2 → work_of (member m x).job ≢ 2

pub record IsWatched (d : SetupData) (c : Context) (s : Scene) (m : Machine) : Type 0 where
  pub tied : IsTied d c m
  pub sound : IsSound (setting d c.bsp) (is_held c.held) c.chair.course.place.state
  pub seen : (x : ℕ) → x < d.processors → x ≢ c.bsp → IsSeen d c m (get_or s.words.present x 0) (get_or s.words.busy x 0) x
  pub place : place_of d m ≡ c.place

-- a label that the BSP may say
abbrev pub Says : SetupData → Context → Machine → Label → Type 0
Says d c m l = Asks d m c.bsp l × Agrees l c.chair.course.place.state.seats c.place.state.seats

abbrev pub AtHandOf : Context → ℕ → Type 0
AtHandOf c x = (x ≡ c.bsp) ⊎ (is_held c.held x ≡ true)

-- what a raise says
pub record IsStart (d : SetupData) (c : Context) (m : Machine) (x : ℕ) (l : Label) : Type 0 where
  pub job : ℕ
  pub procedure : ℕ
  pub argument : ℕ
  pub is : l ≡ say.Start x job procedure argument
  pub known : procedure < length d.procedures
  pub allowed : refusal d m c.bsp ≡ None

abbrev pub RowFits : SetupData → Context → Scene → Machine → Row → Type 0
RowFits d c s m told.Finished = Unit {0}
RowFits d c s m (told.Looking l) = Says d c m l
RowFits d c s m (told.ClaimingDesk x l) =
    (x < d.processors) × (x ≢ c.bsp) × (is_held c.held x ≡ false) × (has_job (seat_known c x) ≡ false) × (get_or s.words.present x 0 ≢ 1 → Says d c m l)
RowFits d c s m (told.ClaimingJob x l) = (x < d.processors) × (x ≢ c.bsp) × (get_or s.words.busy x 0 ≢ 2 → Says d c m l)
RowFits d c s m (told.AwaitingJob x) = x < d.processors
RowFits d c s m (told.Putting x) = (x < d.processors) × (x ≢ c.bsp) × (is_held c.held x ≡ true) × (has_job (seat_known c x) ≡ false)
RowFits d c s m (told.Raising x l) = (x < d.processors) × (x ≢ c.bsp) × (is_held c.held x ≡ true) × (has_job (seat_known c x) ≡ false) × IsStart d c m x l
RowFits d c s m (told.Reading x reg width) = (x < d.processors) × AtHandOf c x × (is_register_number reg ≡ true)
RowFits d c s m (told.Writing x reg width v) = (x < d.processors) × AtHandOf c x × (is_register_number reg ≡ true)
RowFits d c s m (told.Allocating n) = Unit {0}
RowFits d c s m (told.Freeing n) = Unit {0}

-- the need of a row is of a processor of the platform
pub job_none : (job : Option Job) → work_of job ≡ 0 → job ≡ None
job_none None h = refl
job_none (Some job) h = absurd (done_some job.done h)
  where
    done_some : (o : Option (ℕ × Status)) → work_done o ≡ 0 → ⊥
    done_some None e = absurd (omega arith)
    done_some (Some answer) e = absurd (omega arith)

open_done : (o : Option (ℕ × Status)) → work_done o ≢ 2 → o ≡ None
open_done None h = refl
open_done (Some answer) h = absurd (h refl)

-- a job that wasn't run is open
pub job_open : (job : Option Job) (P : Job → Type 0) → IsSomeAnd job P → work_of job ≢ 2 → (is_open job ≡ true) × ((present : Bool) → by_job job present ≡ JobOpen)
job_open None P h u = absurd h
job_open (Some job) P h u = let e = open_done job.done u in rw e (refl, λ present. refl)

module _ (d : SetupData) (c : Context) (s : Scene) (m : Machine) (w : IsWatched d c s m) where
  abbrev known : Serving
  known = c.chair.course.place.state

  abbrev busy_of : ℕ → ℕ
  busy_of x = get_or s.words.busy x 0

  no_job : (x : ℕ) → x < d.processors → x ≢ c.bsp → has_job (seat_known c x) ≡ false → (member m x).job ≡ None
  no_job x l n h = job_none (member m x).job (w.tied.free x l n h)

  -- targets
  target_out : (x : ℕ) → nat_lt x d.processors ≡ false → target d m c.bsp x ≡ NoProcessor
  target_out x e = rw e refl

  pub target_other : (x : ℕ) → x < d.processors → x ≢ c.bsp → target d m c.bsp x ≡ by_job (member m x).job (is_here (member m x).phase)
  target_other x l n = simp (lt-ltb x d.processors l, ne_eqb x c.bsp n) refl

  pub target_own : (x : ℕ) → x < d.processors → x ≡ c.bsp → target d m c.bsp x ≡ Image true
  target_own x l n = simp (lt-ltb x d.processors l, eq-eqb x c.bsp n) refl

  -- the label agrees where the job wasn't run
  agrees_out : (x : ℕ) → d.processors ≤ x → seat_in c.place.state.seats x ≡ seat_in known.seats x
  agrees_out x l = agree_at d c m w.tied x (λ z. absurd (omega (arith, l, z)))

  agrees_none : (x : ℕ) → x < d.processors → x ≢ c.bsp → (member m x).job ≡ None → seat_in c.place.state.seats x ≡ seat_in known.seats x
  agrees_none x l n e = agree_at d c m w.tied x (λ _ _ z. let u = ap work_of e in absurd (omega (arith, u, z)))

  agrees_busy : (x : ℕ) → x < d.processors → x ≢ c.bsp → busy_of x ≢ 2 → seat_in c.place.state.seats x ≡ seat_in known.seats x
  agrees_busy x l n b = agree_at d c m w.tied x (λ _ _. (w.seen x l n).unrun b)

  job_undone : (x : ℕ) → x < d.processors → x ≢ c.bsp → has_job (seat_known c x) ≡ true → busy_of x ≢ 2
      → (is_open (member m x).job ≡ true) × ((present : Bool) → by_job (member m x).job present ≡ JobOpen)
  job_undone x l n h b = job_open (member m x).job _ (w.tied.given x l n h) ((w.seen x l n).unrun b)

  -- THE DESK RULE

  desk_cases : (T : Row → Type 0) (out hand job : Bool) (x : ℕ) (refused : Status → Label) (absent : Status) (own : Row)
      → (out ≡ true → T (told.Looking (refused InvalidParameter)))
      → (out ≡ false → hand ≡ true → T own)
      → (out ≡ false → hand ≡ false → job ≡ true → T (told.ClaimingJob x (refused NotReady)))
      → (out ≡ false → hand ≡ false → job ≡ false → T (told.ClaimingDesk x (refused absent)))
      → T (desk_row (if out then Outside else (if hand then AtHand else (if job then Working else Elsewhere))) x refused absent own)
  desk_cases T true hand job x refused absent own a b e f = a refl
  desk_cases T false true job x refused absent own a b e f = b refl refl
  desk_cases T false false true x refused absent own a b e f = e refl refl refl
  desk_cases T false false false x refused absent own a b e f = f refl refl refl

  not_true : (b : Bool) → not b ≡ true → b ≡ false
  not_true true h = cc
  not_true false h = refl

  not_false : (b : Bool) → not b ≡ false → b ≡ true
  not_false true h = refl
  not_false false h = cc

  below : (x : ℕ) → nat_lt x d.processors ≡ true → x < d.processors
  below x e = ⊎_elim (λ (l : x < d.processors). l) (λ (l : d.processors ≤ x). absurd (let u = sym e ∙ le-ltb x d.processors l in cc)) (cases_lt x d.processors)

  above : (x : ℕ) → nat_lt x d.processors ≡ false → d.processors ≤ x
  above x e = ⊎_elim (λ (l : x < d.processors). absurd (let u = sym e ∙ lt-ltb x d.processors l in cc)) (λ (l : d.processors ≤ x). l) (cases_lt x d.processors)

  or_true : (a b : Bool) → (a || b) ≡ true → (a ≡ true) ⊎ (b ≡ true)
  or_true true b h = inl refl
  or_true false b h = inr h

  or_false : (a b : Bool) → (a || b) ≡ false → (a ≡ false) × (b ≡ false)
  or_false true b h = cc
  or_false false b h = (refl, h)

  apart : (x : ℕ) → (x == c.bsp) ≡ false → x ≢ c.bsp
  apart x e = λ q. let u = sym e ∙ eq-eqb x c.bsp q in cc

  at_hand : (x : ℕ) → ((x == c.bsp) || is_held c.held x) ≡ true → AtHandOf c x
  at_hand x e = ⊎_elim (λ (q : (x == c.bsp) ≡ true). inl (eqb-true x c.bsp q)) (λ (q : is_held c.held x ≡ true). inr q) (or_true (x == c.bsp) (is_held c.held x) e)

  out_is : (x : ℕ) → not (nat_lt x d.processors) ≡ true → nat_lt x d.processors ≡ false
  out_is x e = not_true (nat_lt x d.processors) e

  in_is : (x : ℕ) → not (nat_lt x d.processors) ≡ false → x < d.processors
  in_is x e = below x (not_false (nat_lt x d.processors) e)

  abbrev T : Row → Type 0
  T r = RowFits d c s m r

  reading_fits : (x reg width : ℕ) → is_register_number reg ≡ true → T (reading_row (setting d c.bsp) c.held known x reg width)
  reading_fits x reg width k =
      desk_cases T (not (nat_lt x d.processors)) ((x == c.bsp) || is_held c.held x) (has_job (seat_known c x)) x (read_label x reg width 0) (read_of (setting d c.bsp) false blank x reg width).status (told.Reading x reg width)
      (λ o. (rw (target_out x (out_is x o)) (refl, refl), agrees_out x (above x (out_is x o))))
      (λ o h. (in_is x o, at_hand x h, k))
      (λ o h j.
      let l = in_is x o in
      let n = apart x (or_false (x == c.bsp) (is_held c.held x) h).0 in (
        l,
        n,
        λ b. (
          subst (λ (t : Target). ReadShows t (λ present. read_of (setting d c.bsp) present (member m x).image x (register_number (register_of reg)) width) 0 NotReady)
              (sym (target_other x l n ∙ (job_undone x l n j b).1 (is_here (member m x).phase))) (refl, refl),
          agrees_busy x l n b,
        ),
      ))
      (λ o h j.
      let l = in_is x o in
      let f = or_false (x == c.bsp) (is_held c.held x) h in
      let n = apart x f.0 in
      let e = no_job x l n j in (
        l,
        n,
        f.1,
        j,
        λ p. (
          subst (λ (t : Target). ReadShows t (λ present. read_of (setting d c.bsp) present (member m x).image x (register_number (register_of reg)) width) 0 (read_of (setting d c.bsp) false blank x reg width).status)
              (sym (target_other x l n ∙ ap (λ (o : Option Job). by_job o (is_here (member m x).phase)) e ∙ ap Image ((w.seen x l n).away f.1 e p)))
              (subst (λ (r : ℕ). (0 ≡ shown_value (read_of (setting d c.bsp) false (member m x).image x r width)) × ((read_of (setting d c.bsp) false blank x reg width).status ≡ (read_of (setting d c.bsp) false (member m x).image x r width).status))
              (sym (register_known reg k)) (read_absent (setting d c.bsp) (member m x).image x reg width)),
          agrees_none x l n e,
        ),
      ))

  writing_fits : (x reg width v : ℕ) → is_register_number reg ≡ true → T (writing_row (setting d c.bsp) c.held known x reg width v)
  writing_fits x reg width v k =
      desk_cases T (not (nat_lt x d.processors)) ((x == c.bsp) || is_held c.held x) (has_job (seat_known c x)) x (write_label x reg width v) (write_of false blank reg width v).status (told.Writing x reg width v)
      (λ o. ((rw (target_out x (out_is x o)) refl, refl), agrees_out x (above x (out_is x o))))
      (λ o h. (in_is x o, at_hand x h, k))
      (λ o h j.
      let l = in_is x o in
      let n = apart x (or_false (x == c.bsp) (is_held c.held x) h).0 in (
        l,
        n,
        λ b. (
          (
            subst (λ (t : Target). WriteShows t (λ present. write_of present (member m x).image (register_number (register_of reg)) width v) NotReady)
                (sym (target_other x l n ∙ (job_undone x l n j b).1 (is_here (member m x).phase))) refl,
            refl,
          ),
          agrees_busy x l n b,
        ),
      ))
      (λ o h j.
      let l = in_is x o in
      let f = or_false (x == c.bsp) (is_held c.held x) h in
      let n = apart x f.0 in
      let e = no_job x l n j in
      let known = register_known reg k in (
        l,
        n,
        f.1,
        j,
        λ p. (
          (
            subst (λ (t : Target). WriteShows t (λ present. write_of present (member m x).image (register_number (register_of reg)) width v) (write_of false blank reg width v).status)
                (sym (target_other x l n ∙ ap (λ (o : Option Job). by_job o (is_here (member m x).phase)) e ∙ ap Image ((w.seen x l n).away f.1 e p)))
                (subst (λ (r : ℕ). (write_of false blank reg width v).status ≡ (write_of false (member m x).image r width v).status) (sym known)
                (write_status blank reg width v ∙ sym (write_status (member m x).image reg width v))),
            subst (λ (r : ℕ). written (write_of false blank r width v).status (register_of reg) width v (member m x).image ≡ (member m x).image) known
                (unwritten (member m x).image blank (register_of reg) width v),
          ),
          agrees_none x l n e,
        ),
      ))

-- THE START RULE

start_cases : (T : Row → Type 0) (o : Option StartRefusal) (job held marked : Bool) (x : ℕ) (collect : Row) (start : Label)
    → ((y : StartRefusal) → o ≡ Some y → T (told.Looking (say.Refuse x y)))
    → (o ≡ None → job ≡ true → T collect)
    → (o ≡ None → job ≡ false → held ≡ false → T (told.ClaimingDesk x (say.Refuse x cause.Absent)))
    → (o ≡ None → job ≡ false → held ≡ true → T (told.Putting x) × T (told.Raising x start))
    → T (start_row o job held marked x collect start)
start_cases T (Some y) job held marked x collect start a b e f = a y refl
start_cases T None true held marked x collect start a b e f = b refl refl
start_cases T None false false marked x collect start a b e f = e refl refl refl
start_cases T None false true false x collect start a b e f = (f refl refl refl).0
start_cases T None false true true x collect start a b e f = (f refl refl refl).1

-- no cause: the processor is another one, and there is such a procedure
none_parts : (a b e f : Bool)
    → (if a then Some cause.OutOfRange else (if b then Some cause.BootProcessor else (if e then Some cause.UnknownProcedure else (if f then Some cause.Tokens else None)))) ≡ None
    → (a ≡ false) × (b ≡ false) × (e ≡ false)
none_parts true b e f h = cc
none_parts false true e f h = cc
none_parts false false true f h = cc
none_parts false false false f h = (refl, refl, refl)

place_known : (b : Bool) (n most : ℕ) → nat_lt n most ≡ b → is_none (cond b (Some n) None) ≡ false → unwrap_or (cond b (Some n) None) 0 < most
place_known true n most e h = ⊎_elim (λ (l : n < most). l) (λ (l : most ≤ n). absurd (let u = sym e ∙ le-ltb n most l in cc)) (cases_lt n most)
place_known false n most e h = cc

and_no : (b : Bool) → (b && false) ≡ false
and_no true = refl
and_no false = refl

-- the tokens are as many
len_cond : (a b : Bool) (q r : Seat) (xs ys : List Seat) → a ≡ b → length xs ≡ length ys → length (cond a (r ∷ xs) xs) ≡ length (cond b (q ∷ ys) ys)
len_cond true true q r xs ys e h = ap suc h
len_cond false false q r xs ys e h = h
len_cond true false q r xs ys e h = cc
len_cond false true q r xs ys e h = cc

tokens_same : (qs rs : List Seat) → length rs ≡ length qs → ((x : ℕ) → x < length qs → has_token (seat_in rs x) ≡ has_token (seat_in qs x))
    → length (filter has_token rs) ≡ length (filter has_token qs)
tokens_same [] [] e f = refl
tokens_same [] (r ∷ rs) e f = absurd (omega (arith, e))
tokens_same (q ∷ qs) [] e f = absurd (omega (arith, e))
tokens_same (q ∷ qs) (r ∷ rs) e f =
    len_cond (has_token r) (has_token q) q r (filter has_token rs) (filter has_token qs) (f 0 (omega arith)) (tokens_same qs rs (omega (arith, e)) (λ x l. f (suc x) (omega (arith, l))))

done_token : (o : Option (ℕ × Status)) (q : Seat) → has_token (by_done o q) ≡ has_token q
done_token None q = refl
done_token (Some answer) Free = refl
done_token (Some answer) (Open j t) = refl
done_token (Some answer) (Done j t x S) = refl

job_token : (job : Option Job) (q : Seat) → has_token (with_done job q) ≡ has_token q
job_token None q = refl
job_token (Some job) q = done_token job.done q

-- a token that is out has its job's processor
owner_there : (n : ℕ) (qs : List Seat) (x : ℕ) → owner n qs ≡ Some x → (x < length qs) × (has_job (seat_in qs x) ≡ true)
owner_there n [] x e = cc
owner_there n (q ∷ qs) x e = first q refl e (λ y h. owner_there n qs y h)
  where
    some_inj : (a b : ℕ) → Some a ≡ Some b → a ≡ b
    some_inj a b e = ap (λ (o : Option ℕ). unwrap_or o 0) e

    behind : (o : Option ℕ) → ((y : ℕ) → o ≡ Some y → (y < length qs) × (has_job (seat_in qs y) ≡ true)) → option_map suc o ≡ Some x
        → (x < length (q ∷ qs)) × (has_job (seat_in (q ∷ qs) x) ≡ true)
    behind None f h = cc
    behind (Some y) f h =
        let u = f y refl in
        let v : suc y ≡ x = some_inj (suc y) x h in
        subst (λ (i : ℕ). (i < length (q ∷ qs)) × (has_job (seat_in (q ∷ qs) i) ≡ true)) v (omega (arith, u.0), u.1)

    here : (p : Seat) (b : Bool) → owes_token n p ≡ b → q ≡ p → cond b (Some 0) (option_map suc (owner n qs)) ≡ Some x
        → ((y : ℕ) → owner n qs ≡ Some y → (y < length qs) × (has_job (seat_in qs y) ≡ true))
        → (x < length (q ∷ qs)) × (has_job (seat_in (q ∷ qs) x) ≡ true)
    here p false k i h f = behind (owner n qs) f h
    here Free true k i h f = cc
    here (Open j t) true k i h f =
        subst (λ (y : ℕ). (y < length (q ∷ qs)) × (has_job (seat_in (q ∷ qs) y) ≡ true)) (some_inj 0 x h) (omega arith, ap has_job i)
    here (Done j t y S) true k i h f =
        subst (λ (z : ℕ). (z < length (q ∷ qs)) × (has_job (seat_in (q ∷ qs) z) ≡ true)) (some_inj 0 x h) (omega arith, ap has_job i)

    first : (p : Seat) → q ≡ p → owner n (q ∷ qs) ≡ Some x → ((y : ℕ) → owner n qs ≡ Some y → (y < length qs) × (has_job (seat_in qs y) ≡ true))
        → (x < length (q ∷ qs)) × (has_job (seat_in (q ∷ qs) x) ≡ true)
    first p i h f = here p (owes_token n p) refl i (subst (λ (r : Seat). cond (owes_token n r) (Some 0) (option_map suc (owner n qs)) ≡ Some x) i h) f

pub free_no_job : (q : Seat) → IsFree q → has_job q ≡ false
free_no_job Free h = refl
free_no_job (Open j t) h = absurd h
free_no_job (Done j t x S) h = absurd h

true_apart : (b : Bool) → b ≡ true → b ≡ false → ⊥
true_apart true h k = cc
true_apart false h k = cc

module _ (d : SetupData) (c : Context) (s : Scene) (m : Machine) (w : IsWatched d c s m) where
  abbrev state : Serving
  state = c.chair.course.place.state

  abbrev listed : List Seat
  listed = c.place.state.seats

  abbrev U : Row → Type 0
  U r = RowFits d c s m r

  -- one with a job is another than the BSP
  worker_apart : (x : ℕ) → has_job (seat_known c x) ≡ true → x ≢ c.bsp
  worker_apart x h = λ q. true_apart (has_job (seat_known c x)) h (subst (λ (i : ℕ). has_job (seat_known c i) ≡ false) (sym q) (free_no_job (seat_known c c.bsp) (w.sound.idle c.bsp w.sound.mine)))

  tokens_are : tokens_out (with_seats listed state) ≡ tokens_out state
  tokens_are =
      let e = tokens_same state.seats listed (w.tied.listed_size ∙ sym w.tied.size)
      (λ x l.
      ⊎_elim
      (λ (q : x ≡ c.bsp). ap has_token (subst (λ (i : ℕ). seat_in listed i ≡ seat_in state.seats i) (sym q) w.tied.own))
      (λ (q : x ≢ c.bsp). ap has_token (w.tied.listed x (let e = w.tied.size in omega (arith, e, l)) q) ∙ job_token (member m x).job (seat_known c x))
      (cases_eq x c.bsp)) in
      ap (λ (n : ℕ). length state.tokens + n) e

  cause_same : (b : Bool) (x : ℕ) (place : Option ℕ) → first_cause (setting d c.bsp) (with_seats listed state) b x place ≡ first_cause (setting d c.bsp) state b x place
  cause_same b x place =
      ap (λ (n : ℕ). if not (nat_lt x d.processors) then Some cause.OutOfRange else (if x == c.bsp then Some cause.BootProcessor else (if is_none place then Some cause.UnknownProcedure else (if (b && nat_le 64 n) then Some cause.Tokens else None))))
      tokens_are

  -- the machine's cause is that of the operation at which the server stands
  refusal_is : (n : ℕ) (o : OpDef) → due (program_of d) c.chair.course.place ≡ Doing n o → refusal d m c.bsp ≡ refusal_of d m c.bsp (with_seats listed state) o
  refusal_is n o e =
      ap (λ (q : Place). refusal_due d m c.bsp q.state (due (program_of d) q)) (w.place ∙ w.tied.same)
      ∙ ap (λ (x : Due). refusal_due d m c.bsp (with_seats listed state) x) e

  refused : (n : ℕ) (o : OpDef) (b : Bool) (x : ℕ) (name : List ℕ) → due (program_of d) c.chair.course.place ≡ Doing n o
      → refusal_of d m c.bsp (with_seats listed state) o ≡ cause_for d m c.bsp (with_seats listed state) b x name → (y : Option StartRefusal)
      → first_cause (setting d c.bsp) state b x (procedure_place d.procedures name) ≡ y → refusal d m c.bsp ≡ or_else y (later_cause m b x)
  refused n o b x name e k y h =
      refusal_is n o e ∙ k ∙ ap (λ (r : Option StartRefusal). or_else r (later_cause m b x)) (cause_same b x (procedure_place d.procedures name) ∙ h)

  starting_fits : (n : ℕ) (o : OpDef) (b : Bool) (x : ℕ) (name : List ℕ) (arg : ℕ) (collect : Row) (marked : Bool) → due (program_of d) c.chair.course.place ≡ Doing n o
      → refusal_of d m c.bsp (with_seats listed state) o ≡ cause_for d m c.bsp (with_seats listed state) b x name
      → (x < d.processors → x ≢ c.bsp → has_job (seat_known c x) ≡ true → refusal d m c.bsp ≡ later_cause m b x → U collect)
      → U (starting_row (setting d c.bsp) c.held state marked b x (procedure_place d.procedures name) arg collect)
  starting_fits n o b x name arg collect marked e k on =
      let place : Option ℕ = procedure_place d.procedures name in
      let first : Option StartRefusal = first_cause (setting d c.bsp) state b x place in
      let parts : first ≡ None → (x < d.processors) × (x ≢ c.bsp) × (is_none place ≡ false) =
      (λ h.
      let u = none_parts (not (nat_lt x d.processors)) (x == c.bsp) (is_none place) (b && nat_le 64 (tokens_out state)) h in
      (in_is d c s m w x u.0, apart d c s m w x u.1, u.2)) in
      start_cases U first (has_job (seat_known c x)) (is_held c.held x) marked x collect (say.Start x (state.given + 1) (unwrap_or place 0) arg)
      (λ y h. (refused n o b x name e k (Some y) h, tt))
      (λ h j. let p = parts h in on p.0 p.1 j (refused n o b x name e k None h))
      (λ h j g.
      let p = parts h in
      let f = no_job d c s m w x p.0 p.1 j in
      (p.0, p.1, g, j, λ q. (refused n o b x name e k None h ∙ (let a = (w.seen x p.0 p.1).away g f q in rw (f, and_no b, a) refl), tt)))
      (λ h j g.
      let p = parts h in
      let f = no_job d c s m w x p.0 p.1 j in (
        (p.0, p.1, g, j),
        (
          p.0,
          p.1,
          g,
          j,
          record {
            job = state.given + 1;
            procedure = unwrap_or place 0;
            argument = arg;
            is = refl;
            known = place_known (nat_lt _ (length d.procedures)) _ (length d.procedures) refl p.2;
            allowed = refused n o b x name e k None h ∙ (let a = (w.seen x p.0 p.1).held_here g in rw (f, and_no b, a) refl);
          },
        ),
      ))

  -- CHECKS AND WAITS

  checking_fits : (n : ℕ) (t : Option Token) (o : Option ℕ) → owner n state.seats ≡ o → U (checking_row (state_of t o) n)
  checking_fits n (Some t) o e = (tt, tt)
  checking_fits n None None e = (tt, tt)
  checking_fits n None (Some x) e =
      let there = owner_there n state.seats x e in
      let l : x < d.processors = (let z = w.tied.size in omega (arith, z, there.0)) in
      let a = worker_apart x there.1 in
      (l, a, λ b. (tt, λ y h. let same : y ≡ x = ap (λ (i : Option ℕ). unwrap_or i 0) (sym h ∙ e) in subst (λ (i : ℕ). seat_in listed i ≡ seat_in state.seats i) (sym same) (agrees_busy d c s m w x l a b)))

  waiting_fits : (n : ℕ) (t : Option Token) (o : Option ℕ) → owner n state.seats ≡ o → U (waiting_row (state_of t o) n)
  waiting_fits n (Some t) o e = (tt, tt)
  waiting_fits n None None e = (tt, tt)
  waiting_fits n None (Some x) e = let there = owner_there n state.seats x e in let z = w.tied.size in omega (arith, z, there.0)

  register_fits : (b : Bool) (h last : ℕ) → U (told.Looking (register_label b h last))
  register_fits true h last = (tt, tt)
  register_fits false h last = (tt, tt)

  open_fits : (n : ℕ) (kind : HandlerType) → U (told.Looking (open_label n kind))
  open_fits zero kind = (tt, tt)
  open_fits (suc n) kind = (tt, tt)

  operation_fits : (marked : Bool) (n : ℕ) (o : OpDef) → IsOp d o → due (program_of d) c.chair.course.place ≡ Doing n o
      → U (operation_row (setting d c.bsp) c.held state marked n o)
  operation_fits marked n (op.Set into v) fits e = (tt, tt)
  operation_fits marked n (op.Read x reg width into) fits e =
      reading_fits d c s m w x reg width (and_parts (is_register_number reg) _ (and_parts (is_register_number reg && nat_le width 24) _ fits).0).0
  operation_fits marked n (op.Write x reg width v) fits e =
      writing_fits d c s m w x reg width (number state v) (and_parts (is_register_number reg) _ (and_parts (is_register_number reg && nat_le width 24) _ fits).0).0
  operation_fits marked n (op.Start x name arg into) fits e =
      starting_fits n (op.Start x name arg into) false x name (number state arg) (told.AwaitingJob x) marked e refl (λ l a j r. l)
  operation_fits marked n (op.Launch x name arg into) fits e =
      starting_fits n (op.Launch x name arg into) true x name (number state arg) (told.ClaimingJob x (say.Refuse x cause.Busy)) marked e refl
      (λ l a j r. (l, a, λ b. (r ∙ (let u = (job_undone d c s m w x l a j b).0 in rw u refl), tt)))
  operation_fits marked n (op.Check v) fits e = checking_fits (number state v) _ _ refl
  operation_fits marked n (op.Wait v into) fits e = waiting_fits (number state v) _ _ refl
  operation_fits marked n (op.Alloc v into) fits e = tt
  operation_fits marked n (op.Free v) fits e = tt
  operation_fits marked n (op.Register h kind into) fits e = register_fits (is_full state.registrations) h state.registrations.last
  operation_fits marked n (op.Unregister v) fits e = (tt, tt)
  operation_fits marked n (op.Manage kind) fits e = open_fits n kind

  walk_fits : (l : Label) → IsOfWalk l → Says d c m l
  walk_fits (say.Manage kind) h = (tt, tt)
  walk_fits (say.Call k) h = (tt, tt)
  walk_fits (say.Return k S) h = (tt, tt)
  walk_fits (say.Answer S) h = (tt, tt)
  walk_fits say.Spent h = (tt, tt)
  walk_fits _ h = absurd h

  due_row_fits : (marked : Bool) (x : Due) → DueFits d x → due (program_of d) c.chair.course.place ≡ x → U (due_row (setting d c.bsp) c.held state marked x)
  due_row_fits marked Nothing fits e = tt
  due_row_fits marked (Saying l) fits e = walk_fits l fits
  due_row_fits marked (Awaiting x) fits e = fits
  due_row_fits marked (Doing n o) fits e = operation_fits marked n o fits e

  -- the row of the course
  pub row_fits : PlaceFits d c.chair.course.place → U (row_of (setting d c.bsp) c.held c.chair.course)
  row_fits fits = due_row_fits c.chair.course.marked (due (program_of d) c.chair.course.place) (due_fits d c.chair.course.place fits) refl
