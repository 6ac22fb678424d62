-- From every place the rest can be said.
use Rattle.std.proofs.Common.{◌≡◌, ◌+◌, ℕ, zero, suc, Bool, true, false, ◌&&◌, cond, List, [], ◌∷◌, Option, Some, None, Result, Ok, Err, refl, ap, ◌∙◌, subst}
use Rattle.std.specs.Prelude.{slice_index_or, slice_set, option_map, ◌==◌}
use Rattle.std.specs.List.{find}
use Rattle.smm_base.specs.declared.kinds.HandlerType.{HandlerType}
use Rattle.smm_base.specs.declared.status.Status.{Status}
use Rattle.smm_base.specs.declared.status.Status.TheVariants.{Success, InvalidParameter, NotReady, OutOfResources}
use Rattle.cpu_table.specs.declared.handlers.Operand.{Operand}
use Rattle.cpu_table.specs.declared.handlers.OpDef.{OpDef}
use Rattle.cpu_table.specs.declared.handlers.OpDef.TheVariants as op
use Rattle.cpu_table.specs.declared.handlers.ProcedureDef.{ProcedureDef}
use Rattle.sync_words.specs.declared.label.StartRefusal.TheVariants.{OutOfRange}
use Rattle.sync_words.specs.declared.label.Label.{Label}
use Rattle.sync_words.specs.declared.label.Label.TheVariants as say
use Rattle.handler_registry.specs.declared.registration.Registration.{Registration}
use Rattle.handler_registry.specs.Registrations.{is_live, is_full}
use Rattle.smram_pool.specs.declared.error.PoolError.{PoolError}
use Rattle.smram_pool.specs.State.{allocated, freed}
use Rattle.smi_manage.specs.Answers.{stops}
use Rattle.serving_place.specs.Serving.{Serving, Seat, Free, Open, Done, Token, number, seat, ran, run_at, collected, returned, with_token, owes_token, owner, IsDone, HasEnded}
use Rattle.serving_place.specs.Operations.{after, Collects, register_of, pool_status, free_status, unregister_status}
use Rattle.serving_place.specs.Forms.{Event, Own, Ran, Program, operations_of, status_of, Rest, Part, Ends, Exactly, Returning, Operating, InUnit, Operation, Operations, Calling, Calls, Answering, Walk, Entries, by_left, by_turn, by_test, turn_of, count_up}
use Rattle.serving_place.specs.Places.{Call, OpenWalk, Begun, First, Started, Awaited, Place, one_less, levels_left, AnsweringLater, OpenWalkRest, OpenWalksRest, StillToSay}

-- some list may stand in the rest
abbrev CanFrom : Rest → Serving → Type 0
CanFrom k s = (es : List Event) × k s es

abbrev Can : Rest → Type 0
Can k = (s : Serving) → CanFrom k s

exactly_can : (l : Label) (k : Rest) (s : Serving) → CanFrom k s → CanFrom (Exactly l k) s
exactly_can l k s h = (Own l ∷ h.0, (refl, h.1))

ends_can : Can Ends
ends_can s = ([], refl)

left_can : (n : ℕ) (A : List Event → Type 0) (F : ℕ → List Event → Type 0)
    → ((es : List Event) × A es) → ((m : ℕ) → (es : List Event) × F m es) → (es : List Event) × by_left n (A es) (λ m. F m es)
left_can zero A F h k = h
left_can (suc n) A F h k = k n

turn_can : (o : Option Registration) (A : List Event → Type 0) (F : ℕ → List Event → Type 0)
    → ((es : List Event) × A es) → ((m : ℕ) → (es : List Event) × F m es) → (es : List Event) × by_turn o (A es) (λ m. F m es)
turn_can None A F h k = h
turn_can (Some r) A F h k = k r.handler

unit_can : (part : Part) (k : Rest) → Can (part k) → Can (InUnit part k)
unit_can part k h s =
    left_can s.left (λ es. Exactly say.Spent Ends s es) (λ n es. part k (record s { left = n }) es)
    (exactly_can say.Spent Ends s (ends_can s)) (λ n. h (record s { left = n }))

-- the seats after a job was run or collected
pub now_free : (qs : List Seat) (c : ℕ) → slice_index_or (slice_set qs c Free) c Free ≡ Free
now_free [] c = refl
now_free (q ∷ qs) zero = refl
now_free (q ∷ qs) (suc c) = now_free qs c

now_done : (qs : List Seat) (c j : ℕ) (t : Bool) (q : Seat) → slice_index_or qs c Free ≡ Open j t → slice_index_or (slice_set qs c q) c Free ≡ q
now_done [] c j t q h = cc
now_done (x ∷ qs) zero j t q h = refl
now_done (x ∷ qs) (suc c) j t q h = now_done qs c j t q h

pub seat_ran : (s : Serving) (c j x : ℕ) (t : Bool) (S : Status) → seat s c ≡ Open j t → seat (ran c x S s) c ≡ Done j t x S
seat_ran s c j x t S e = now_done s.seats c j t (run_at (seat s c) x S) e ∙ ap (λ (q : Seat). run_at q x S) e

-- running a job changes no token
owes_ran : (n x : ℕ) (S : Status) (q : Seat) → owes_token n (run_at q x S) ≡ owes_token n q
owes_ran n x S Free = refl
owes_ran n x S (Open j t) = refl
owes_ran n x S (Done j t y T) = refl

pub owner_ran : (n x c : ℕ) (S : Status) (qs : List Seat) → owner n (slice_set qs c (run_at (slice_index_or qs c Free) x S)) ≡ owner n qs
owner_ran n x c S [] = refl
owner_ran n x zero S (q ∷ qs) = rw (owes_ran n x S q) refl
owner_ran n x (suc c) S (q ∷ qs) = rw (owner_ran n x c S qs) refl

owes_after : (n c : ℕ) (q : Seat) (qs : List Seat) (o : Option ℕ) → ((d : ℕ) → o ≡ Some d → owes_token n (slice_index_or qs d Free) ≡ true)
    → option_map suc o ≡ Some c → owes_token n (slice_index_or (q ∷ qs) c Free) ≡ true
owes_after n c q qs None again h = cc
owes_after n zero q qs (Some m) again h = cc
owes_after n (suc c) q qs (Some m) again h = again c (let e : m ≡ c = cc in ap Some e)

owes_at : (n c : ℕ) (q : Seat) (qs : List Seat) (b : Bool) → owes_token n q ≡ b → ((d : ℕ) → owner n qs ≡ Some d → owes_token n (slice_index_or qs d Free) ≡ true)
    → cond b (Some 0) (option_map suc (owner n qs)) ≡ Some c → owes_token n (slice_index_or (q ∷ qs) c Free) ≡ true
owes_at n zero q qs true f again h = f
owes_at n (suc c) q qs true f again h = cc
owes_at n c q qs false f again h = owes_after n c q qs (owner n qs) again h

owner_owes : (n : ℕ) (qs : List Seat) (c : ℕ) → owner n qs ≡ Some c → owes_token n (slice_index_or qs c Free) ≡ true
owner_owes n [] c e = cc
owner_owes n (q ∷ qs) c e = owes_at n c q qs (owes_token n q) refl (owner_owes n qs) e

-- the labels of an operation
with_collect : (ps : List ProcedureDef) (o : OpDef) (c : ℕ) (k : Rest) (s : Serving) (h : CanFrom (Operating ps o k) (collected c s))
    → Collects o s c → CanFrom (Operating ps o k) s
with_collect ps o c k s h f = (Own (say.Collect c) ∷ h.0, (f, h.1))

-- a read or a write, by the job of its processor
read_can : (ps : List ProcedureDef) (cpu reg width into : ℕ) (k : Rest) → Can k → Can (Operating ps (op.Read cpu reg width into) k)
read_can ps cpu reg width into k h s = by_seat (seat s cpu) refl
  where
    at_free : (s : Serving) → seat s cpu ≡ Free → CanFrom (Operating ps (op.Read cpu reg width into) k) s
    at_free s e =
        let l = say.Read cpu (register_of reg) width 0 Success in
        let t = h (after (op.Read cpu reg width into) s l) in (Own l ∷ t.0, ((refl, refl, refl, rw e tt), t.1))

    by_seat : (q : Seat) → seat s cpu ≡ q → CanFrom (Operating ps (op.Read cpu reg width into) k) s
    by_seat Free e = at_free s e
    by_seat (Open j t) e =
        let l = say.Read cpu (register_of reg) width 0 NotReady in
        let r = h (after (op.Read cpu reg width into) s l) in (Own l ∷ r.0, ((refl, refl, refl, rw e (refl, refl)), r.1))
    by_seat (Done j t x S) e = with_collect ps (op.Read cpu reg width into) cpu k s (at_free (collected cpu s) (now_free s.seats cpu)) (refl, rw e tt)

write_can : (ps : List ProcedureDef) (cpu reg width : ℕ) (v : Operand) (k : Rest) → Can k → Can (Operating ps (op.Write cpu reg width v) k)
write_can ps cpu reg width v k h s = by_seat (seat s cpu) refl
  where
    at_free : (s : Serving) → seat s cpu ≡ Free → CanFrom (Operating ps (op.Write cpu reg width v) k) s
    at_free s e = let t = h s in (Own (say.Write cpu (register_of reg) width (number s v) Success) ∷ t.0, ((refl, refl, refl, refl, rw e tt), t.1))

    by_seat : (q : Seat) → seat s cpu ≡ q → CanFrom (Operating ps (op.Write cpu reg width v) k) s
    by_seat Free e = at_free s e
    by_seat (Open j t) e = let r = h s in (Own (say.Write cpu (register_of reg) width (number s v) NotReady) ∷ r.0, ((refl, refl, refl, refl, rw e refl), r.1))
    by_seat (Done j t x S) e = with_collect ps (op.Write cpu reg width v) cpu k s (at_free (collected cpu s) (now_free s.seats cpu)) (refl, rw e tt)

-- a check or a wait of a token whose job's processor is known
token_collected : (n c j x : ℕ) (t : Bool) (S : Status) (ts : List Token) → (t && (j == n)) ≡ true
    → find (λ u. u.job == n) (with_token c (Done j t x S) ts) ≡ Some (record { job = j; cpu = c; result = x; status = S })
token_collected n c j x true S ts e = rw e refl
token_collected n c j x false S ts e = cc

check_known : (ps : List ProcedureDef) (v : Operand) (k : Rest) → Can k → (s : Serving) (t : Token)
    → find (λ u. u.job == number s v) s.tokens ≡ Some t → CanFrom (Operating ps (op.Check v) k) s
check_known ps v k h s t e =
    let l = say.Check (number s v) Success in
    let r = h (after (op.Check v) s l) in (Own l ∷ r.0, ((refl, rw e refl), r.1))

wait_known : (ps : List ProcedureDef) (v : Operand) (into : ℕ) (k : Rest) → Can k → (s : Serving) (t : Token)
    → find (λ u. u.job == number s v) s.tokens ≡ Some t → CanFrom (Operating ps (op.Wait v into) k) s
wait_known ps v into k h s t e =
    let l = say.Wait (number s v) t.result t.status in
    let r = h (after (op.Wait v into) s l) in (Own l ∷ r.0, ((refl, rw e (refl, refl)), r.1))

-- the token of the job is out, and the job was run
check_done : (ps : List ProcedureDef) (v : Operand) (k : Rest) → Can k → (s : Serving) (c j x : ℕ) (t : Bool) (S : Status)
    → find (λ u. u.job == number s v) s.tokens ≡ None → owner (number s v) s.seats ≡ Some c → seat s c ≡ Done j t x S → CanFrom (Operating ps (op.Check v) k) s
check_done ps v k h s c j x t S none who e =
    let owes : owes_token (number s v) (seat s c) ≡ true = owner_owes (number s v) s.seats c who in
    let has : (t && (j == number s v)) ≡ true = subst (λ (q : Seat). owes_token (number s v) q ≡ true) e owes in
    let found : find (λ u. u.job == number s v) (collected c s).tokens ≡ Some (record { job = j; cpu = c; result = x; status = S }) =
    rw e (token_collected (number s v) c j x t S s.tokens has) in
    with_collect ps (op.Check v) c k s (check_known ps v k h (collected c s) _ found) (rw (none, who) refl, rw e tt)

wait_done : (ps : List ProcedureDef) (v : Operand) (into : ℕ) (k : Rest) → Can k → (s : Serving) (c j x : ℕ) (t : Bool) (S : Status)
    → find (λ u. u.job == number s v) s.tokens ≡ None → owner (number s v) s.seats ≡ Some c → seat s c ≡ Done j t x S → CanFrom (Operating ps (op.Wait v into) k) s
wait_done ps v into k h s c j x t S none who e =
    let owes : owes_token (number s v) (seat s c) ≡ true = owner_owes (number s v) s.seats c who in
    let has : (t && (j == number s v)) ≡ true = subst (λ (q : Seat). owes_token (number s v) q ≡ true) e owes in
    let found : find (λ u. u.job == number s v) (collected c s).tokens ≡ Some (record { job = j; cpu = c; result = x; status = S }) =
    rw e (token_collected (number s v) c j x t S s.tokens has) in
    with_collect ps (op.Wait v into) c k s (wait_known ps v into k h (collected c s) _ found) (rw (none, who) refl, rw e tt)

check_can : (ps : List ProcedureDef) (v : Operand) (k : Rest) → Can k → Can (Operating ps (op.Check v) k)
check_can ps v k h s = by_token (find (λ u. u.job == number s v) s.tokens) refl
  where
    not_ready : (c : ℕ) → find (λ u. u.job == number s v) s.tokens ≡ None → owner (number s v) s.seats ≡ Some c → (IsDone (seat s c) → ⊥)
        → CanFrom (Operating ps (op.Check v) k) s
    not_ready c e f d = let r = h s in (Own (say.Check (number s v) NotReady) ∷ r.0, ((refl, rw (e, f) (d, refl)), r.1))

    by_seat : (c : ℕ) (q : Seat) → seat s c ≡ q → find (λ u. u.job == number s v) s.tokens ≡ None → owner (number s v) s.seats ≡ Some c
        → CanFrom (Operating ps (op.Check v) k) s
    by_seat c Free g e f = not_ready c e f (rw g (λ d. d))
    by_seat c (Open j t) g e f = not_ready c e f (rw g (λ d. d))
    by_seat c (Done j t x S) g e f = check_done ps v k h s c j x t S e f g

    by_owner : (o : Option ℕ) → owner (number s v) s.seats ≡ o → find (λ u. u.job == number s v) s.tokens ≡ None → CanFrom (Operating ps (op.Check v) k) s
    by_owner None f e = let r = h s in (Own (say.Check (number s v) InvalidParameter) ∷ r.0, ((refl, rw (e, f) refl), r.1))
    by_owner (Some c) f e = by_seat c (seat s c) refl e f

    by_token : (o : Option Token) → find (λ u. u.job == number s v) s.tokens ≡ o → CanFrom (Operating ps (op.Check v) k) s
    by_token (Some t) e = check_known ps v k h s t e
    by_token None e = by_owner (owner (number s v) s.seats) refl e

wait_can : (ps : List ProcedureDef) (v : Operand) (into : ℕ) (k : Rest) → Can k → Can (Operating ps (op.Wait v into) k)
wait_can ps v into k h s = by_token (find (λ u. u.job == number s v) s.tokens) refl
  where
    by_seat : (c : ℕ) (q : Seat) → seat s c ≡ q → find (λ u. u.job == number s v) s.tokens ≡ None → owner (number s v) s.seats ≡ Some c
        → CanFrom (Operating ps (op.Wait v into) k) s
    by_seat c Free g e f = let owes : owes_token (number s v) (seat s c) ≡ true = owner_owes (number s v) s.seats c f in let x = rw g at owes in cc
    by_seat c (Open j t) g e f =
        let r = wait_done ps v into k h (ran c 0 Success s) c j 0 t Success e (owner_ran (number s v) 0 c Success s.seats ∙ f) (seat_ran s c j 0 t Success g) in
        (Ran c j 0 Success ∷ r.0, (rw g refl, r.1))
    by_seat c (Done j t x S) g e f = wait_done ps v into k h s c j x t S e f g

    by_owner : (o : Option ℕ) → owner (number s v) s.seats ≡ o → find (λ u. u.job == number s v) s.tokens ≡ None → CanFrom (Operating ps (op.Wait v into) k) s
    by_owner None f e =
        let l = say.Wait (number s v) 0 InvalidParameter in
        let r = h (after (op.Wait v into) s l) in (Own l ∷ r.0, ((refl, rw (e, f) (refl, refl)), r.1))
    by_owner (Some c) f e = by_seat c (seat s c) refl e f

    by_token : (o : Option Token) → find (λ u. u.job == number s v) s.tokens ≡ o → CanFrom (Operating ps (op.Wait v into) k) s
    by_token (Some t) e = wait_known ps v into k h s t e
    by_token None e = by_owner (owner (number s v) s.seats) refl e

alloc_can : (ps : List ProcedureDef) (v : Operand) (into : ℕ) (k : Rest) → Can k → Can (Operating ps (op.Alloc v into) k)
alloc_can ps v into k h s = by_place (allocated (number s v) s.pool).0 refl
  where
    by_place : (o : Result ℕ PoolError) → (allocated (number s v) s.pool).0 ≡ o → CanFrom (Operating ps (op.Alloc v into) k) s
    by_place (Err e) f =
        let l = say.Alloc (number s v) 0 (pool_status e) in
        let r = h (after (op.Alloc v into) s l) in (Own l ∷ r.0, ((refl, rw f (refl, refl)), r.1))
    by_place (Ok place) f =
        let l = say.Alloc (number s v) place Success in
        let r = h (after (op.Alloc v into) s l) in (Own l ∷ r.0, ((refl, rw f (refl, refl)), r.1))

register_can : (ps : List ProcedureDef) (handler : ℕ) (kind : HandlerType) (into : ℕ) (k : Rest) → Can k → Can (Operating ps (op.Register handler kind into) k)
register_can ps handler kind into k h s = by_full (is_full s.registrations) refl
  where
    by_full : (b : Bool) → is_full s.registrations ≡ b → CanFrom (Operating ps (op.Register handler kind into) k) s
    by_full true e =
        let l = say.Register handler 0 OutOfResources in
        let r = h (after (op.Register handler kind into) s l) in (Own l ∷ r.0, ((refl, rw e (refl, refl)), r.1))
    by_full false e =
        let l = say.Register handler (s.registrations.last + 1) Success in
        let r = h (after (op.Register handler kind into) s l) in (Own l ∷ r.0, ((refl, rw e (refl, refl)), r.1))

operation_can : (ps : List ProcedureDef) (deeper : HandlerType → Part) → ((kind : HandlerType) (k : Rest) → Can k → Can (deeper kind k))
    → (o : OpDef) (k : Rest) → Can k → Can (Operation ps deeper o k)
operation_can ps deeper d (op.Manage kind) k h = d kind k h
operation_can ps deeper d (op.Set into v) k h = λ s.
    let t = h (after (op.Set into v) s (say.Set into (number s v))) in (Own (say.Set into (number s v)) ∷ t.0, ((refl, refl), t.1))
operation_can ps deeper d (op.Read cpu reg width into) k h = read_can ps cpu reg width into k h
operation_can ps deeper d (op.Write cpu reg width v) k h = write_can ps cpu reg width v k h
operation_can ps deeper d (op.Start cpu name arg into) k h = λ s. let t = h s in (Own (say.Refuse cpu OutOfRange) ∷ t.0, (refl, t.1))
operation_can ps deeper d (op.Launch cpu name arg into) k h = λ s. let t = h s in (Own (say.Refuse cpu OutOfRange) ∷ t.0, (refl, t.1))
operation_can ps deeper d (op.Check v) k h = check_can ps v k h
operation_can ps deeper d (op.Wait v into) k h = wait_can ps v into k h
operation_can ps deeper d (op.Alloc v into) k h = alloc_can ps v into k h
operation_can ps deeper d (op.Free v) k h = λ s.
    let l = say.Free (number s v) (free_status (freed (number s v) s.pool).0) in
    let t = h (after (op.Free v) s l) in (Own l ∷ t.0, ((refl, refl), t.1))
operation_can ps deeper d (op.Register handler kind into) k h = register_can ps handler kind into k h
operation_can ps deeper d (op.Unregister v) k h = λ s.
    let l = say.Unregister (number s v) (unregister_status (is_live (number s v) s.registrations)) in
    let t = h (after (op.Unregister v) s l) in (Own l ∷ t.0, ((refl, refl), t.1))

operations_can : (ps : List ProcedureDef) (deeper : HandlerType → Part) → ((kind : HandlerType) (k : Rest) → Can k → Can (deeper kind k))
    → (os : List OpDef) (k : Rest) → Can k → Can (Operations ps deeper os k)
operations_can ps deeper d [] k h = h
operations_can ps deeper d (o ∷ os) k h =
    unit_can (Operation ps deeper o) (Operations ps deeper os k) (operation_can ps deeper d o (Operations ps deeper os k) (operations_can ps deeper d os k h))

test_can : (b : Bool) (p q : Rest) → Can p → Can q → Can (by_test b p q)
test_can true p q h k = h
test_can false p q h k = k

calls_can : (program : Program) (deeper : HandlerType → Part) → ((kind : HandlerType) (k : Rest) → Can k → Can (deeper kind k))
    → (kind : HandlerType) (turns : List ℕ) (k : List Status → Rest) → ((xs : List Status) → Can (k xs)) → Can (Calls program deeper kind turns k)
calls_can program deeper d kind [] k h = h []
calls_can program deeper d kind (n ∷ turns) k h = λ s.
    turn_can (turn_of kind s.registrations n) _ _ (calls_can program deeper d kind turns k h s)
    (λ m. let S = status_of program m in
    let rest : Can (by_test (stops kind S) (k (S ∷ [])) (Calls program deeper kind turns (λ xs. k (S ∷ xs)))) =
    test_can (stops kind S) _ _ (h (S ∷ [])) (calls_can program deeper d kind turns (λ xs. k (S ∷ xs)) (λ xs. h (S ∷ xs))) in
    unit_can (Calling program deeper m) _
    (λ t. exactly_can (say.Call m) _ t (operations_can program.procedures deeper d (operations_of program m) _ (λ u. exactly_can _ _ u (rest u)) t)) s)

walk_can : (program : Program) (n : ℕ) (kind : HandlerType) (k : Rest) → Can k → Can (Walk program n kind k)
walk_can program zero kind k h = λ s. exactly_can _ k s (h s)
walk_can program (suc n) kind k h = λ s.
    exactly_can (say.Manage kind) _ s
    (calls_can program (Walk program n) (walk_can program n) kind (count_up 0 s.registrations.last) (Answering kind k) (λ xs t. exactly_can _ k t (h t)) s)

entries_can : (program : Program) (kinds : List HandlerType) → Can (Entries program kinds)
entries_can program [] = ends_can
entries_can program (d ∷ ds) = unit_can (Walk program 4 d) (Entries program ds) (walk_can program 4 d (Entries program ds) (entries_can program ds))

in_walk_can : (program : Program) (n : ℕ) (w : OpenWalk) (c : Option Call) → w.called ≡ c → (k : Rest) → Can k → Can (OpenWalkRest program (Walk program n) w k)
in_walk_can program n w None e k h = λ s.
    rw e (calls_can program (Walk program n) (walk_can program n) w.kind w.turns (AnsweringLater w.kind w.running k) (λ xs t. exactly_can _ k t (h t)) s)
in_walk_can program n w (Some c) e k h = λ s.
    rw e (let S = status_of program c.handler in
    operations_can program.procedures (Walk program n) (walk_can program n) c.ops _
    (λ t. exactly_can _ _ t (test_can (stops w.kind S) _ _ (λ u. exactly_can _ k u (h u))
    (calls_can program (Walk program n) (walk_can program n) w.kind w.turns (λ xs. AnsweringLater w.kind w.running k (S ∷ xs)) (λ xs u. exactly_can _ k u (h u))) t)) s)

walks_can : (program : Program) (kinds : List HandlerType) (walks : List OpenWalk) → Can (OpenWalksRest program kinds walks)
walks_can program kinds [] = entries_can program kinds
walks_can program kinds (w ∷ ws) = in_walk_can program (one_less (levels_left ws)) w w.called refl _ (walks_can program kinds ws)

-- the job that a start began, also where it is still to be run
returning_can : (c into : ℕ) (k : Rest) → Can k → Can (Returning c into k)
returning_can c into k h s = by_seat (seat s c) refl
  where
    at_end : (s : Serving) → HasEnded (seat s c) → CanFrom (Returning c into k) s
    at_end s e = let t = h (returned c into s) in (Own (say.Collect c) ∷ t.0, ((refl, e), t.1))

    by_seat : (q : Seat) → seat s c ≡ q → CanFrom (Returning c into k) s
    by_seat Free e = at_end s (rw e tt)
    by_seat (Open j t) e = let r = at_end (ran c 0 Success s) (rw (seat_ran s c j 0 t Success e) tt) in (Ran c j 0 Success ∷ r.0, (rw e refl, r.1))
    by_seat (Done j t x S) e = at_end s (rw e tt)

pub completes : (program : Program) (p : Place) → (es : List Event) × StillToSay program p es
completes program p = by_begun p.begun refl
  where
    by_begun : (b : Option Begun) → p.begun ≡ b → (es : List Event) × StillToSay program p es
    by_begun None e = rw e (walks_can program p.kinds p.walks p.state)
    by_begun (Some (First w)) e = rw e (exactly_can (say.Begin w) _ p.state (walks_can program p.kinds p.walks p.state))
    by_begun (Some (Started o)) e =
        rw e (operation_can program.procedures (Walk program (levels_left p.walks)) (walk_can program (levels_left p.walks)) o (OpenWalksRest program p.kinds p.walks) (walks_can program p.kinds p.walks) p.state)
    by_begun (Some (Awaited c into)) e = rw e (returning_can c into (OpenWalksRest program p.kinds p.walks) (walks_can program p.kinds p.walks) p.state)
