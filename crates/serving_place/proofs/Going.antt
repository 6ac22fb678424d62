-- A label keeps a seat for each processor, and no more jobs are given than units begin.
use Rattle.std.proofs.Common.{◌≡◌, ◌≤◌, ◌+◌, ℕ, zero, suc, List, [], ◌∷◌, length, Option, Some, None, refl, ap, ◌∙◌, arith}
use Rattle.std.specs.Prelude.{slice_set, Result, Ok, Err}
use Rattle.smm_base.specs.declared.kinds.HandlerType.{HandlerType}
use Rattle.smm_base.specs.declared.status.Status.{Status}
use Rattle.smm_base.specs.declared.status.Status.TheVariants.{Success}
use Rattle.cpu_table.specs.declared.handlers.OpDef.{OpDef}
use Rattle.cpu_table.specs.declared.handlers.OpDef.TheVariants as op
use Rattle.sync_words.specs.declared.label.Label.{Label}
use Rattle.sync_words.specs.declared.label.Label.TheVariants as say
use Rattle.handler_registry.specs.declared.registration.Registration.{Registration}
use Rattle.smi_manage.specs.declared.running.Running.{Running}
use Rattle.smram_pool.specs.declared.error.PoolError.{PoolError}
use Rattle.serving_place.specs.Serving.{Serving, Seat, Free, Open, Done, seat, put_on, collected, put_result, dropped, ran}
use Rattle.serving_place.specs.Operations.{after, register_on, drop_on, alloc_label}
use Rattle.serving_place.specs.Forms.{Program, Own, turn_of}
use Rattle.serving_place.specs.Places.{Place, OpenWalk, Call, Begun, First, Started, Awaited, one_less, levels_left, at_left, at_turn, at_collect, begun_by, with_walk, after_operating, after_doing, after_turn, after_in_call, after_in_walk, after_in_walks, after_begun, next}
use Rattle.serving_place.specs.Due.{due, due_in_call, due_in_walk, due_in_walks, due_begun}
use Rattle.serving_place.specs.Progresses.{begun_jobs, Goes}
use Rattle.serving_place.specs.Sayings.{Known, Fits, operation_due}

-- the seats and the units of two states
record Keeps (k : ℕ) (s t : Serving) : Type 0 where
  seats : length t.seats ≡ length s.seats
  units : t.given + t.left ≤ s.given + s.left + k

size : (qs : List Seat) (c : ℕ) (q : Seat) → length (slice_set qs c q) ≡ length qs
size [] c q = refl
size (x ∷ qs) zero q = refl
size (x ∷ qs) (suc c) q = ap suc (size qs c q)

same : (k : ℕ) (s : Serving) → Keeps k s s
same k s = record { seats = refl; units = omega arith }

put_keeps : (k : ℕ) (S : Status) (into x : ℕ) (s t : Serving) → Keeps k s t → Keeps k s (put_on S into x t)
put_keeps k Success into x s t h = record { seats = h.seats; units = h.units }
put_keeps k _ into x s t h = h

drop_keeps : (k : ℕ) (S : Status) (n : ℕ) (s : Serving) → Keeps k s (drop_on S n s)
drop_keeps k Success n s = record { seats = refl; units = omega arith }
drop_keeps k _ n s = same k s

register_keeps : (k : ℕ) (S : Status) (kind : HandlerType) (h : ℕ) (s : Serving) → Keeps k s (register_on S kind h s)
register_keeps k Success kind h s = record { seats = refl; units = omega arith }
register_keeps k _ kind h s = same k s

-- a start has the next number
abbrev pub NextJob : Label → ℕ → Type 0
NextJob (say.Start c j p a) given = j ≡ given + 1
NextJob _ given = Unit {0}

after_keeps : (o : OpDef) (s : Serving) (l : Label) → NextJob l s.given → Keeps 1 s (after o s l)
after_keeps (op.Set into v) s (say.Set k x) h = record { seats = refl; units = omega arith }
after_keeps (op.Read cpu reg width into) s (say.Read c r w x S) h = put_keeps 1 S into x s s (same 1 s)
after_keeps (op.Start cpu name arg into) s (say.Start c j p a) h = record { seats = size s.seats cpu _; units = omega (arith, h) }
after_keeps (op.Launch cpu name arg into) s (say.Start c j p a) h = record { seats = size s.seats cpu _; units = omega (arith, h) }
after_keeps (op.Check v) s (say.Check j S) h = drop_keeps 1 S j s
after_keeps (op.Wait v into) s (say.Wait j x S) h = put_keeps 1 S into x s (dropped j s) (record { seats = refl; units = omega arith })
after_keeps (op.Alloc v into) s (say.Alloc n x S) h = put_keeps 1 S into x s _ (record { seats = refl; units = omega arith })
after_keeps (op.Free v) s (say.Free n S) h = record { seats = refl; units = omega arith }
after_keeps (op.Register handler kind into) s (say.Register g n S) h = put_keeps 1 S into n s (register_on S kind handler s) (register_keeps 1 S kind handler s)
after_keeps (op.Unregister v) s (say.Unregister n S) h = record { seats = refl; units = omega arith }
after_keeps _ s _ h = same 1 s

collect_keeps : (c : ℕ) (s : Serving) → Keeps 0 s (collected c s)
collect_keeps c s = record { seats = size s.seats c Free; units = omega arith }

return_keeps : (q : Seat) (into : ℕ) (s t : Serving) → Keeps 0 s t → Keeps 0 s (put_result q into t)
return_keeps Free into s t h = h
return_keeps (Open j k) into s t h = h
return_keeps (Done j k x S) into s t h = put_keeps 0 S into x s t h

begun_none : (o : OpDef) (l : Label) → begun_jobs (begun_by o l) ≡ 0
begun_none (op.Start cpu name arg into) (say.Start c j p a) = refl
begun_none (op.Start cpu name arg into) _ = refl
begun_none _ l = refl

-- The seats and the units of a place after a step, from the state before.
record Reaches (k : ℕ) (s : Serving) (p : Place) : Type 0 where
  seats : length p.state.seats ≡ length s.seats
  units : p.state.given + p.state.left + begun_jobs p.begun ≤ s.given + s.left + k

stands : (k : ℕ) (s t : Serving) (kinds : List HandlerType) (ws : List OpenWalk) → Keeps k s t → Reaches k s (record { kinds = kinds; walks = ws; begun = None; state = t })
stands k s t kinds ws h = record { seats = h.seats; units = omega (arith, h.units) }

walk_reaches : (k n : ℕ) (kinds : List HandlerType) (ws : List OpenWalk) (kind : HandlerType) (s : Serving) → Reaches k s (with_walk n kinds ws kind s)
walk_reaches k zero kinds ws kind s = stands k s s kinds ws (same k s)
walk_reaches k (suc n) kinds ws kind s = stands k s s kinds _ (same k s)

collect_reaches : (s : Serving) (l : Label) (x : Place) (f : ℕ → Place) → ((c : ℕ) → Reaches 1 s (f c)) → (NextJob l s.given → Reaches 1 s x) → NextJob l s.given → Reaches 1 s (at_collect l f x)
collect_reaches s (say.Collect c) x f h k e = h c
collect_reaches s l x f h k e = k e

operating_reaches : (kinds : List HandlerType) (ws : List OpenWalk) (o : OpDef) (s : Serving) (l : Label) → NextJob l s.given → Reaches 1 s (after_operating kinds ws o s l)
operating_reaches kinds ws o s l e =
    collect_reaches s l _ _
    (λ c. record { seats = size s.seats c Free; units = omega arith })
    (λ e. let h = after_keeps o s l e in record { seats = h.seats; units = omega (arith, h.units, begun_none o l) }) e

doing_reaches : (n : ℕ) (kinds : List HandlerType) (ws : List OpenWalk) (o : OpDef) (s : Serving) (l : Label) → NextJob l s.given → Reaches 1 s (after_doing n kinds ws o s l)
doing_reaches n kinds ws (op.Manage kind) s l e = walk_reaches 1 n kinds ws kind s
doing_reaches n kinds ws o s l e = operating_reaches kinds ws o s l e

-- where an operation is due a start has the next number
abbrev pub JobDue : Option OpDef → Label → ℕ → Type 0
JobDue None l given = Unit {0}
JobDue (Some o) l given = NextJob l given

-- a unit less
less : (s : Serving) (m : ℕ) (p : Place) → s.left ≡ suc m → Reaches 1 (record s { left = m }) p → Reaches 0 s p
less s m p e h = record { seats = h.seats; units = omega (arith, e, h.units) }

left_reaches : (n : ℕ) (s : Serving) (x : Place) (f : ℕ → Place) → s.left ≡ n → Reaches 0 s x → ((m : ℕ) → n ≡ suc m → Reaches 1 (record s { left = m }) (f m)) → Reaches 0 s (at_left n x f)
left_reaches zero s x f e h k = h
left_reaches (suc m) s x f e h k = less s m (f m) e (k m refl)

turn_reaches : (program : Program) (kinds : List HandlerType) (ws : List OpenWalk) (kind : HandlerType) (turns : List ℕ) (r : Running) (s : Serving)
    → Reaches 0 s (after_turn program kinds ws kind turns r s)
turn_reaches program kinds ws kind [] r s = stands 0 s s kinds ws (same 0 s)
turn_reaches program kinds ws kind (n ∷ turns) r s = at_registration (turn_of kind s.registrations n) _ _ (turn_reaches program kinds ws kind turns r s)
    (λ h. left_reaches s.left s _ _ refl (stands 0 s s [] [] (same 0 s)) (λ m e. stands 1 (record s { left = m }) (record s { left = m }) kinds _ (same 1 (record s { left = m }))))
  where
    at_registration : (o : Option Registration) (x : Place) (f : ℕ → Place) → Reaches 0 s x → ((h : ℕ) → Reaches 0 s (f h)) → Reaches 0 s (at_turn o x f)
    at_registration None x f h k = h
    at_registration (Some r) x f h k = k r.handler

call_reaches : (program : Program) (kinds : List HandlerType) (ws : List OpenWalk) (w : OpenWalk) (h : ℕ) (os : List OpDef) (s : Serving) (l : Label) (n : ℕ)
    → JobDue (operation_due (due_in_call program n h os s.left)) l s.given → Reaches 0 s (after_in_call program kinds ws w h os s l)
call_reaches program kinds ws w h [] s l n e = stands 0 s s kinds _ (same 0 s)
call_reaches program kinds ws w h (o ∷ os) s l n e = at_units s.left refl e
  where
    at_units : (k : ℕ) → s.left ≡ k → JobDue (operation_due (due_in_call program n h (o ∷ os) k)) l s.given
        → Reaches 0 s (at_left k (record { kinds = []; walks = []; begun = None; state = s })
        (λ m. after_doing (one_less (levels_left ws)) kinds (record w { called = Some (record { handler = h; ops = os }) } ∷ ws) o (record s { left = m }) l))
    at_units zero q e = stands 0 s s [] [] (same 0 s)
    at_units (suc m) q e = less s m _ q (doing_reaches (one_less (levels_left ws)) kinds _ o (record s { left = m }) l e)

in_walk_reaches : (program : Program) (kinds : List HandlerType) (ws : List OpenWalk) (w : OpenWalk) (c : Option Call) (s : Serving) (l : Label) (n : ℕ)
    → JobDue (operation_due (due_in_walk program n w c s.registrations s.left)) l s.given → Reaches 0 s (after_in_walk program kinds ws w c s l)
in_walk_reaches program kinds ws w None s l n e = turn_reaches program kinds ws w.kind w.turns w.running s
in_walk_reaches program kinds ws w (Some c) s l n e = call_reaches program kinds ws w c.handler c.ops s l n e

walks_reach : (program : Program) (kinds : List HandlerType) (ws : List OpenWalk) (s : Serving) (l : Label)
    → JobDue (operation_due (due_in_walks program kinds ws s.registrations s.left)) l s.given → Reaches 0 s (after_in_walks program kinds ws s l)
walks_reach program [] [] s l e = stands 0 s s [] [] (same 0 s)
walks_reach program (kind ∷ kinds) [] s l e =
    left_reaches s.left s _ _ refl (stands 0 s s [] [] (same 0 s)) (λ m q. walk_reaches 1 4 kinds [] kind (record s { left = m }))
walks_reach program [] (w ∷ ws) s l e = in_walk_reaches program [] ws w w.called s l (levels_left (w ∷ ws)) e
walks_reach program (d ∷ ds) (w ∷ ws) s l e = in_walk_reaches program (d ∷ ds) ws w w.called s l (levels_left (w ∷ ws)) e

begun_reaches : (program : Program) (kinds : List HandlerType) (ws : List OpenWalk) (b : Option Begun) (s : Serving) (l : Label)
    → JobDue (operation_due (due_begun program kinds ws b s.registrations s.left)) l s.given → Reaches (begun_jobs b) s (after_begun program kinds ws b s l)
begun_reaches program kinds ws None s l e = walks_reach program kinds ws s l e
begun_reaches program kinds ws (Some (First w)) s l e = stands 0 s s kinds ws (same 0 s)
begun_reaches program kinds ws (Some (Started o)) s l e = doing_reaches (levels_left ws) kinds ws o s l e
begun_reaches program kinds ws (Some (Awaited c into)) s l e = stands 0 s _ kinds ws (return_keeps (seat s c) into s (collected c s) (collect_keeps c s))

pub next_goes : (program : Program) (n : ℕ) (p : Place) (l : Label) → JobDue (operation_due (due program p)) l p.state.given → Goes n p → Goes n (next program p (Own l))
next_goes program n p l e g =
    let h = begun_reaches program p.kinds p.walks p.begun p.state l e in
    record { seats = h.seats ∙ g.seats; units = omega (arith, h.units, g.units) }

pub ran_goes : (n : ℕ) (p : Place) (c x : ℕ) (S : Status) → Goes n p → Goes n (record p { state = ran c x S p.state })
ran_goes n p c x S g = record { seats = size p.state.seats c _ ∙ g.seats; units = g.units }

pub known_job : (o : Option OpDef) (l : Label) (s : Serving) → Fits (Known l) o s → JobDue o l s.given
known_job None l s h = tt
known_job (Some o) (say.Start c j p a) s h = h.0
known_job (Some o) _ s h = tt

pub alloc_job : (o : Option OpDef) (n given : ℕ) (r : Result ℕ PoolError) → JobDue o (alloc_label n r) given
alloc_job None n given r = tt
alloc_job (Some o) n given (Ok place) = tt
alloc_job (Some o) n given (Err e) = tt

pub plain_job : (o : Option OpDef) (n given : ℕ) (S : Status) → JobDue o (say.Free n S) given
plain_job None n given S = tt
plain_job (Some o) n given S = tt

pub collect_job : (o : Option OpDef) (c given : ℕ) → JobDue o (say.Collect c) given
collect_job None c given = tt
collect_job (Some o) c given = tt
