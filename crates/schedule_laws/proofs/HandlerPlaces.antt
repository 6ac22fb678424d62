-- While serving goes on: what the place of the machine's list has beside the server's, and what a label of the server makes of both.
use Rattle.std.proofs.Common.{ℕ, zero, suc, ◌≡◌, ◌≢◌, ◌<◌, ◌≤◌, arith, Bool, true, false, cond, List, [], ◌∷◌, ◌++◌, length, Option, Some, None, refl, sym, ap, subst, ⊎_elim, ◌∙◌}
use Rattle.std.specs.Prelude.{IsSomeAnd, option_map}
use Rattle.std.proofs.lemmas.Bool.{cases_eq, cases_lt}
use Rattle.std.proofs.lemmas.List.{length-set}
use Rattle.smm_base.specs.declared.status.Status.{Status}
use Rattle.cpu_table.specs.Data.{SetupData}
use Rattle.cpu_table.specs.Ranges.{handlers_fit}
use Rattle.sync_words.specs.declared.label.Label.{Label}
use Rattle.sync_words.specs.declared.label.Label.TheVariants as say
use Rattle.handler_registry.specs.Registrations.{Registrations}
use Rattle.smram_pool.specs.State.{PoolState}
use Rattle.handler_ops.specs.declared.desk.Job.{Job}
use Rattle.serving_place.specs.declared.seat.Seat.{Seat}
use Rattle.serving_place.specs.declared.seat.Seat.TheVariants.{Free, Open, Done}
use Rattle.serving_place.specs.Serving.{HasOpen, owes_token, owner}
use Rattle.serving_place.specs.Forms.{Event, Own, IsPrefix}
use Rattle.serving_place.specs.Beginning.{at_begin, program_of, walks_of}
use Rattle.serving_place.specs.Places.{Place, Accepts, next}
use Rattle.serving_place.specs.Stands.{Leads}
use Rattle.handler_ops.specs.Course.{has_job}
use Rattle.serving_place.proofs.Judging.{begins, follows}
use Rattle.handler_ops.proofs.Sessions.{stands_along}
use Rattle.rendezvous_machine.specs.Machines.{Machine, member}
use Rattle.rendezvous_machine.specs.Listed.{grown, place_by}
use Rattle.rendezvous_laws.proofs.Places.{leads_after, leads_on}
use Rattle.schedule_laws.proofs.Scenes.{Scene}
use Rattle.schedule_laws.proofs.Stations.{bit, work_of, work_done}
use Rattle.schedule_laws.proofs.Leads.{serves_at}
use Rattle.schedule_laws.proofs.Invariant.{Context, IsReady, IsListed, GoesOn, by_done, with_done, seat_known, seat_listed, serves_from, mode_of, first_place}
use Rattle.schedule_laws.proofs.LeadFrames.{at_stage}
use Rattle.schedule_laws.proofs.HandlerFits.{PlaceFits}
use Rattle.schedule_laws.proofs.HandlerSteps.{placed, seat_in, IsAlike, Agrees, SeatsBoth, both_go}

pub serves_is : (r : Bool) → serves_at r ≡ serves_from (bit r)
serves_is true = refl
serves_is false = refl

-- THE JOBS OF BOTH PLACES

done_undone : (o : Option (ℕ × Status)) (q : Seat) → work_done o ≢ 2 → by_done o q ≡ q
done_undone None q h = refl
done_undone (Some answer) q h = absurd (h refl)

pub with_undone : (job : Option Job) (q : Seat) → work_of job ≢ 2 → with_done job q ≡ q
with_undone None q h = refl
with_undone (Some job) q h = done_undone job.done q h

done_owes : (n : ℕ) (o : Option (ℕ × Status)) (q : Seat) → owes_token n (by_done o q) ≡ owes_token n q
done_owes n None q = refl
done_owes n (Some answer) Free = refl
done_owes n (Some answer) (Open j t) = refl
done_owes n (Some answer) (Done j t x S) = refl

job_owes : (n : ℕ) (job : Option Job) (q : Seat) → owes_token n (with_done job q) ≡ owes_token n q
job_owes n None q = refl
job_owes n (Some job) q = done_owes n job.done q

pub beyond : (qs : List Seat) (x : ℕ) → length qs ≤ x → seat_in qs x ≡ Free
beyond [] x h = refl
beyond (q ∷ qs) zero h = absurd (omega (arith, h))
beyond (q ∷ qs) (suc x) h = beyond qs x (omega (arith, h))

pub owner_same : (n : ℕ) (qs rs : List Seat) → length rs ≡ length qs → ((c : ℕ) → c < length qs → owes_token n (seat_in rs c) ≡ owes_token n (seat_in qs c))
    → owner n rs ≡ owner n qs
owner_same n [] [] e f = refl
owner_same n [] (r ∷ rs) e f = absurd (omega (arith, e))
owner_same n (q ∷ qs) [] e f = absurd (omega (arith, e))
owner_same n (q ∷ qs) (r ∷ rs) e f =
    ap (λ (b : Bool). cond b (Some 0) (option_map suc (owner n rs))) (f 0 (omega arith))
    ∙ ap (λ (o : Option ℕ). cond (owes_token n q) (Some 0) (option_map suc o)) (owner_same n qs rs (omega (arith, e)) (λ c l. f (suc c) (omega (arith, l))))

-- what ties the two
pub record IsTied (d : SetupData) (c : Context) (m : Machine) : Type 0 where
  pub size : length c.chair.course.place.state.seats ≡ d.processors
  pub listed_size : length c.place.state.seats ≡ d.processors
  pub same : c.place ≡ placed c.place.state.seats c.chair.course.place
  pub free : (x : ℕ) → x < d.processors → x ≢ c.bsp → has_job (seat_known c x) ≡ false → work_of (member m x).job ≡ 0
  pub given : (x : ℕ) → x < d.processors → x ≢ c.bsp → has_job (seat_known c x) ≡ true → IsSomeAnd (member m x).job (λ j. HasOpen (seat_known c x) j.number)
  pub listed : (x : ℕ) → x < d.processors → x ≢ c.bsp → seat_listed c x ≡ with_done (member m x).job (seat_known c x)
  pub own : seat_listed c c.bsp ≡ seat_known c c.bsp

pub tied : (d : SetupData) (c : Context) (k : ℕ) (s : Scene) (m : Machine) → k ≡ serves_from (mode_of d) → IsReady d (at_stage c k 0) s m → GoesOn c.chair.course.place
    → seat_listed c c.bsp ≡ seat_known c c.bsp → IsTied d c m
tied d c k s m at g more own =
    let both = g.course.listed (omega (arith, at)) in
    record {
      size = g.course.size;
      listed_size = both.size ∙ g.course.size;
      same = both.same;
      free = λ x l n h. (g.jobs x l n).free at h;
      given = λ x l n h. (g.jobs x l n).given at h;
      listed = λ x l n. (g.jobs x l n).listed at more;
      own = own;
    }

-- a processor whose job wasn't run has the same seat in both
pub agree_at : (d : SetupData) (c : Context) (m : Machine) → IsTied d c m → (x : ℕ) → (x < d.processors → x ≢ c.bsp → work_of (member m x).job ≢ 2)
    → seat_in c.place.state.seats x ≡ seat_in c.chair.course.place.state.seats x
agree_at d c m t x h =
    ⊎_elim
    (λ (l : x < d.processors).
    ⊎_elim
    (λ (q : x ≡ c.bsp). subst (λ (i : ℕ). seat_listed c i ≡ seat_known c i) (sym q) t.own)
    (λ (q : x ≢ c.bsp). t.listed x l q ∙ with_undone (member m x).job (seat_known c x) (h l q))
    (cases_eq x c.bsp))
    (λ (l : d.processors ≤ x).
    beyond c.place.state.seats x (let e = t.listed_size in omega (arith, e, l)) ∙ sym (beyond c.chair.course.place.state.seats x (let e = t.size in omega (arith, e, l))))
    (cases_lt x d.processors)

pub alike : (d : SetupData) (c : Context) (m : Machine) → IsTied d c m → IsAlike c.chair.course.place.state.seats c.place.state.seats
alike d c m t =
    record {
      size = t.listed_size ∙ sym t.size;
      owner_is = λ n. owner_same n c.chair.course.place.state.seats c.place.state.seats (t.listed_size ∙ sym t.size)
          (λ x l.
          ⊎_elim
          (λ (q : x ≡ c.bsp). ap (owes_token n) (subst (λ (i : ℕ). seat_listed c i ≡ seat_known c i) (sym q) t.own))
          (λ (q : x ≢ c.bsp). ap (owes_token n) (t.listed x (let e = t.size in omega (arith, e, l)) q) ∙ job_owes n (member m x).job (seat_known c x))
          (cases_eq x c.bsp));
    }

-- A LABEL

both_length : (l : Label) (qs qs' rs rs' : List Seat) → SeatsBoth l qs qs' rs rs' → length rs ≡ length qs → length rs' ≡ length qs'
both_length (say.Start c j p a) qs qs' rs rs' h e =
    ap (λ (xs : List Seat). length xs) h.2 ∙ length-set rs c (Open j h.0) ∙ e ∙ sym (length-set qs c (Open j h.0)) ∙ sym (ap (λ (xs : List Seat). length xs) h.1)
both_length (say.Collect c) qs qs' rs rs' h e =
    ap (λ (xs : List Seat). length xs) h.1 ∙ length-set rs c Free ∙ e ∙ sym (length-set qs c Free) ∙ sym (ap (λ (xs : List Seat). length xs) h.0)
both_length _ qs qs' rs rs' h e = ap (λ (xs : List Seat). length xs) h.1 ∙ e ∙ sym (ap (λ (xs : List Seat). length xs) h.0)

-- the machine's place q takes the label of the server's place p, and they stay together
pub record IsNext (d : SetupData) (l : Label) (p q : Place) : Type 0 where
  pub accepts : Accepts (program_of d) q (Own l)
  pub listed : IsListed (next (program_of d) p (Own l)) (next (program_of d) q (Own l))
  pub seats : SeatsBoth l p.state.seats (next (program_of d) p (Own l)).state.seats q.state.seats (next (program_of d) q (Own l)).state.seats
  pub fits : PlaceFits d (next (program_of d) p (Own l))

listed_by : (p1 q1 : Place) (rs : List Seat) → length rs ≡ length p1.state.seats → q1 ≡ placed rs p1 → IsListed p1 q1
listed_by p1 q1 rs e h =
    let seats : q1.state.seats ≡ rs = ap (λ (x : Place). x.state.seats) h in
    record { size = ap (λ (xs : List Seat). length xs) seats ∙ e; same = h ∙ ap (λ (xs : List Seat). placed xs p1) (sym seats) }

pub next_both : (d : SetupData) → handlers_fit d.handlers ≡ true → (p q : Place) (l : Label) → q ≡ placed q.state.seats p → IsAlike p.state.seats q.state.seats
    → length p.state.seats ≡ d.processors → Agrees l p.state.seats q.state.seats → PlaceFits d p → Accepts (program_of d) p (Own l) → IsNext d l p q
next_both d fitting p q l same alike size agrees fits may =
    let rs : List Seat = q.state.seats in
    let p1 : Place = next (program_of d) p (Own l) in
    let b = both_go d fitting p rs l alike size agrees fits may in
    let after : next (program_of d) q (Own l) ≡ placed b.later p1 = ap (λ (x : Place). next (program_of d) x (Own l)) same ∙ b.same in
    let seats : (next (program_of d) q (Own l)).state.seats ≡ b.later = ap (λ (x : Place). x.state.seats) after in
    record {
      accepts = subst (λ (x : Place). Accepts (program_of d) x (Own l)) (sym same) b.may;
      listed = listed_by p1 (next (program_of d) q (Own l)) b.later (both_length l p.state.seats p1.state.seats rs b.later b.seats alike.size) after;
      seats = subst (λ (xs : List Seat). SeatsBoth l p.state.seats p1.state.seats rs xs) (sym seats) b.seats;
      fits = b.fits;
    }

-- THE LIST

-- what was said leads to this place
abbrev pub LedTo : SetupData → ℕ → Registrations → PoolState → Place → Option (List Event) → Type 0
LedTo d wave registrations pool q serving = IsSomeAnd serving (λ said. Leads (program_of d) (first_place d wave registrations pool) said q)

pub place_is : (d : SetupData) (wave : ℕ) (g : Registrations) (k : PoolState) (q : Place) (served : Option ℕ) (serving : Option (List Event)) → served ≡ Some wave
    → LedTo d wave g k q serving → place_by d (at_begin d g k) served serving ≡ q
place_is d wave g k q served None e h = absurd h
place_is d wave g k q served (Some said) e h =
    ap (λ (o : Option ℕ). place_by d (at_begin d g k) o (Some said)) e ∙ leads_after (program_of d) (first_place d wave g k) said q h

-- the list with a label that the place takes can be made whole
prefix_of : (d : SetupData) (wave : ℕ) (g : Registrations) (k : PoolState) (q : Place) (said : List Event) (e : Event)
    → Leads (program_of d) (first_place d wave g k) said q → Accepts (program_of d) q e
    → IsPrefix (program_of d) wave (walks_of d.waves wave) (at_begin d g k) (said ++ e ∷ [])
prefix_of d wave g k q said e led may =
    let stands = stands_along (program_of d) wave (walks_of d.waves wave) (at_begin d g k) (first_place d wave g k) [] said q (begins (program_of d) wave (walks_of d.waves wave) (at_begin d g k)) led in
    (follows (program_of d) wave (walks_of d.waves wave) (at_begin d g k) q said e stands).exact.0 may

pub can_say : (d : SetupData) (wave : ℕ) (g : Registrations) (k : PoolState) (q : Place) (served : Option ℕ) (serving : Option (List Event)) (l : Label) → served ≡ Some wave
    → LedTo d wave g k q serving → Accepts (program_of d) q (Own l)
    → IsSomeAnd served (λ w. IsSomeAnd serving (λ es. IsPrefix (program_of d) w (walks_of d.waves w) (at_begin d g k) (es ++ Own l ∷ [])))
can_say d wave g k q served None l e h may = absurd h
can_say d wave g k q served (Some said) l e h may =
    subst (λ (o : Option ℕ). IsSomeAnd o (λ w. IsPrefix (program_of d) w (walks_of d.waves w) (at_begin d g k) (said ++ Own l ∷ []))) (sym e)
    (prefix_of d wave g k q said (Own l) h may)

pub led_on : (d : SetupData) (wave : ℕ) (g : Registrations) (k : PoolState) (q : Place) (serving : Option (List Event)) (e : Event) → LedTo d wave g k q serving
    → Accepts (program_of d) q e → LedTo d wave g k (next (program_of d) q e) (grown e serving)
led_on d wave g k q None e h may = absurd h
led_on d wave g k q (Some said) e h may = leads_on (program_of d) (first_place d wave g k) said q e h may
