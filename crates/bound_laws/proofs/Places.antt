-- What a label spends of the weight of a place.
use Rattle.std.proofs.Common.{ℕ, zero, suc, ◌+◌, ◌-◌, ◌*◌, ◌≡◌, ◌≢◌, ◌<◌, ◌≤◌, arith, Bool, true, false, List, [], ◌∷◌, slice_set, replicate, Option, Some, None, refl, sym, ap, subst, ⊎_elim, ◌∙◌}
use Rattle.std.specs.Prelude.{slice_index_or}
use Rattle.smm_base.specs.declared.kinds.HandlerType.{HandlerType}
use Rattle.smm_base.specs.declared.status.Status.{Status}
use Rattle.smm_base.specs.declared.status.Status.TheVariants.{Success}
use Rattle.cpu_table.specs.declared.handlers.OpDef.{OpDef}
use Rattle.cpu_table.specs.declared.handlers.OpDef.TheVariants as op
use Rattle.cpu_table.specs.declared.handlers.ProcedureDef.{ProcedureDef}
use Rattle.sync_words.specs.declared.label.Label.{Label}
use Rattle.sync_words.specs.declared.label.Label.TheVariants as say
use Rattle.handler_registry.specs.declared.registration.Registration.{Registration}
use Rattle.smi_manage.specs.declared.running.Running.{Running}
use Rattle.smi_manage.specs.Answers.{ended_with}
use Rattle.serving_place.specs.declared.seat.Seat.{Seat}
use Rattle.serving_place.specs.declared.seat.Seat.TheVariants.{Free, Open, Done}
use Rattle.serving_place.specs.Serving.{Serving, IsDone, seat, run_at, put_on, dropped, collected, put_result}
use Rattle.serving_place.specs.Operations.{Collects, after, register_on, drop_on}
use Rattle.serving_place.specs.Forms.{Own, Ran, Program, operations_of, status_of, by_left, by_turn, turn_of}
use Rattle.serving_place.specs.Places.{Call, OpenWalk, Begun, First, Started, Awaited, Place, one_less, levels_left, at_left, at_turn, place_at, place_begun, awaits_after, begun_by, MayOperate, after_operating, with_walk, MayOpen, MayDo, after_doing, MayTurn, after_turn, MayInCall, after_in_call, MayInWalk, after_in_walk, MayInWalks, after_in_walks, MayBegun, after_begun, Accepts, next}
use Rattle.handler_ops.specs.Course.{has_job}
use Rattle.schedule_laws.proofs.Frames.{bit-le}
use Rattle.schedule_laws.proofs.Stations.{bit}
use Rattle.bound_laws.proofs.Energies.{started, jobs_left, call_weight, walks_weight, begun_weight, more_weight, jobs_weight, place_weight}

-- JOBS

pub more-le : (b : Option Begun) (ws : List OpenWalk) (ks : List HandlerType) → more_weight b ws ks ≤ 1
more-le (Some b) ws ks = omega arith
more-le None (w ∷ ws) ks = omega arith
more-le None [] (k ∷ ks) = omega arith
more-le None [] [] = omega arith

pub free_jobs : (n : ℕ) → jobs_weight (replicate n Free) ≡ 0
free_jobs zero = refl
free_jobs (suc n) = let ih = free_jobs n in omega (arith, ih)

-- one more job at most
set_jobs : (qs : List Seat) (c : ℕ) (q : Seat) → jobs_weight (slice_set qs c q) ≤ jobs_weight qs + 1
set_jobs [] c q = omega arith
set_jobs (x ∷ xs) zero q = let a = bit-le (has_job q) in omega (arith, a)
set_jobs (x ∷ xs) (suc c) q = let ih = set_jobs xs c q in omega (arith, ih)

-- a job that was collected is one less
freed_jobs : (qs : List Seat) (c : ℕ) → jobs_weight (slice_set qs c Free) ≤ jobs_weight qs
freed_jobs [] c = omega arith
freed_jobs (x ∷ xs) zero = omega arith
freed_jobs (x ∷ xs) (suc c) = let ih = freed_jobs xs c in omega (arith, ih)

done_job : (q : Seat) → IsDone q → bit (has_job q) ≡ 1
done_job Free h = absurd h
done_job (Open j t) h = absurd h
done_job (Done j t x S) h = refl

collected_jobs : (qs : List Seat) (c : ℕ) → IsDone (slice_index_or qs c Free) → jobs_weight (slice_set qs c Free) + 1 ≤ jobs_weight qs
collected_jobs [] c h = absurd h
collected_jobs (x ∷ xs) zero h = let a = done_job x h in omega (arith, a)
collected_jobs (x ∷ xs) (suc c) h = let ih = collected_jobs xs c h in omega (arith, ih)

run_bit : (q : Seat) (x : ℕ) (S : Status) → bit (has_job (run_at q x S)) ≡ bit (has_job q)
run_bit Free x S = refl
run_bit (Open j t) x S = refl
run_bit (Done j t y T) x S = refl

-- a job that was run is still one
run_jobs : (qs : List Seat) (c x : ℕ) (S : Status) → jobs_weight (slice_set qs c (run_at (slice_index_or qs c Free) x S)) ≡ jobs_weight qs
run_jobs [] c x S = refl
run_jobs (q ∷ qs) zero x S = let a = run_bit q x S in omega (arith, a)
run_jobs (q ∷ qs) (suc c) x S = let ih = run_jobs qs c x S in omega (arith, ih)

-- OPERATIONS

abbrev pub is_start : Label → Bool
is_start (say.Start c j p a) = true
is_start _ = false

-- the units that are left stay, and only a start gives a job
abbrev AfterFits : Serving → Serving → Bool → Type 0
AfterFits s u b = (u.left ≡ s.left) × (jobs_weight u.seats ≤ jobs_weight s.seats + bit b)

put_fits : (S : Status) (into x : ℕ) (s u : Serving) (b : Bool) → AfterFits s u b → AfterFits s (put_on S into x u) b
put_fits Success into x s u b h = h
put_fits _ into x s u b h = h

same_fits : (s : Serving) (b : Bool) → AfterFits s s b
same_fits s b = (refl, omega arith)

drop_fits : (S : Status) (n : ℕ) (s : Serving) (b : Bool) → AfterFits s (drop_on S n s) b
drop_fits Success n s b = (refl, omega arith)
drop_fits _ n s b = (refl, omega arith)

register_fits : (S : Status) (kind : HandlerType) (h : ℕ) (s : Serving) (b : Bool) → AfterFits s (register_on S kind h s) b
register_fits Success kind h s b = (refl, omega arith)
register_fits _ kind h s b = (refl, omega arith)

after_fits : (o : OpDef) (s : Serving) (l : Label) → AfterFits s (after o s l) (is_start l)
after_fits (op.Set into value) s (say.Set v x) = (refl, omega arith)
after_fits (op.Read cpu reg width into) s (say.Read c r w x S) = put_fits S into x s s false (same_fits s false)
after_fits (op.Start cpu name arg into) s (say.Start c j p a) = (refl, set_jobs s.seats cpu (Open j false))
after_fits (op.Launch cpu name arg into) s (say.Start c j p a) = (refl, set_jobs s.seats cpu (Open j true))
after_fits (op.Check token) s (say.Check j S) = drop_fits S j s false
after_fits (op.Wait token into) s (say.Wait j x S) = put_fits S into x s (dropped j s) false (refl, omega arith)
after_fits (op.Alloc size into) s (say.Alloc n x S) = put_fits S into x s _ false (refl, omega arith)
after_fits (op.Free place) s (say.Free n S) = (refl, omega arith)
after_fits (op.Register handler kind into) s (say.Register h n S) = put_fits S into n s (register_on S kind handler s) false (register_fits S kind handler s false)
after_fits (op.Unregister handle) s (say.Unregister n S) = (refl, omega arith)
after_fits _ s l = (refl, omega arith)

awaits_fits : (l : Label) (c into : ℕ) → (begun_weight (awaits_after l (Awaited c into)) ≤ 1) × (started (awaits_after l (Awaited c into)) ≡ 0)
awaits_fits (say.Start k j p a) c into = (omega arith, refl)
awaits_fits _ c into = (omega arith, refl)

begun_fits : (o : OpDef) (l : Label) → (begun_weight (begun_by o l) ≤ 1) × (started (begun_by o l) ≡ 0)
begun_fits (op.Start cpu name arg into) l = awaits_fits l cpu into
begun_fits _ l = (omega arith, refl)

collects_done : (o : OpDef) (s : Serving) (c : ℕ) → Collects o s c → IsDone (seat s c)
collects_done (op.Read cpu reg width into) s c h = subst (λ (x : ℕ). IsDone (seat s x)) (sym h.0) h.1
collects_done (op.Write cpu reg width value) s c h = subst (λ (x : ℕ). IsDone (seat s x)) (sym h.0) h.1
collects_done (op.Start cpu name arg into) s c h = subst (λ (x : ℕ). IsDone (seat s x)) (sym h.0) h.1
collects_done (op.Launch cpu name arg into) s c h = subst (λ (x : ℕ). IsDone (seat s x)) (sym h.0) h.1
collects_done (op.Check token) s c h = h.1
collects_done (op.Wait token into) s c h = h.1
collects_done _ s c h = absurd h

-- WHAT A LABEL SPENDS

-- a start spends more, since the job has to be put, run and collected
abbrev pub Fell : Bool → Place → Place → Type 0
Fell true x y = (place_weight y + 4 ≤ place_weight x) × (jobs_left y + 1 ≤ jobs_left x) × (jobs_weight y.state.seats ≤ jobs_weight x.state.seats + 1)
Fell false x y = (place_weight y + jobs_weight y.state.seats + 1 ≤ place_weight x + jobs_weight x.state.seats) × (jobs_left y ≤ jobs_left x)

-- a label that is no start
said_fell : (l k : Label) (x y : Place) → l ≡ k → is_start k ≡ false → Fell false x y → Fell (is_start l) x y
said_fell l k x y e z h = subst (λ (b : Bool). Fell b x y) (sym (ap is_start e ∙ z)) h

-- an operation that takes, or has taken, its unit
abbrev IsBefore : Place → List OpenWalk → Serving → Type 0
IsBefore x ws s = (place_weight x ≡ 5 * (s.left + 1) + walks_weight ws + 1) × (jobs_left x ≡ s.left + 1) × (jobs_weight x.state.seats ≡ jobs_weight s.seats)

own_fell : (b : Bool) (x : Place) (kinds : List HandlerType) (ws : List OpenWalk) (begun : Option Begun) (s u : Serving) → IsBefore x ws s → begun_weight begun ≤ 1 → started begun ≡ 0
    → AfterFits s u b → Fell b x (record { kinds = kinds; walks = ws; begun = begun; state = u })
own_fell true x kinds ws begun s u h w z f = let m = more-le begun ws kinds in (omega (arith, h.0, w, z, f.0, m), omega (arith, h.1, z, f.0), omega (arith, h.2, f.1))
own_fell false x kinds ws begun s u h w z f = let m = more-le begun ws kinds in (omega (arith, h.0, h.2, w, z, f.0, f.1, m), omega (arith, h.1, z, f.0))

collect_fell : (x : Place) (kinds : List HandlerType) (ws : List OpenWalk) (o : OpDef) (s : Serving) (c : ℕ) → IsBefore x ws s → IsDone (seat s c)
    → Fell false x (place_begun kinds ws (Started o) (collected c s))
collect_fell x kinds ws o s c h q = let a = collected_jobs s.seats c q in (omega (arith, h.0, h.2, a), omega (arith, h.1))

operating_fell : (ps : List ProcedureDef) (x : Place) (kinds : List HandlerType) (ws : List OpenWalk) (o : OpDef) (s : Serving) (l : Label) → IsBefore x ws s → MayOperate ps o s l
    → Fell (is_start l) x (after_operating kinds ws o s l)
operating_fell ps x kinds ws o s (say.Collect c) h may = collect_fell x kinds ws o s c h (collects_done o s c may)
operating_fell ps x kinds ws o s l h may = let b = begun_fits o l in own_fell (is_start l) x kinds ws (begun_by o l) s (after o s l) h b.0 b.1 (after_fits o s l)

walk_fell : (n : ℕ) (x : Place) (kinds : List HandlerType) (ws : List OpenWalk) (kind : HandlerType) (s : Serving) (l : Label) → IsBefore x ws s → MayOpen n kind l
    → Fell (is_start l) x (with_walk n kinds ws kind s)
walk_fell zero x kinds ws kind s l h e = let m = more-le None ws kinds in said_fell l (say.Deep kind) x _ e refl (omega (arith, h.0, h.2, m), omega (arith, h.1))
walk_fell (suc n) x kinds ws kind s l h e = said_fell l (say.Manage kind) x _ e refl (omega (arith, h.0, h.2), omega (arith, h.1))

doing_fell : (ps : List ProcedureDef) (n : ℕ) (x : Place) (kinds : List HandlerType) (ws : List OpenWalk) (o : OpDef) (s : Serving) (l : Label) → IsBefore x ws s → MayDo ps n o s l
    → Fell (is_start l) x (after_doing n kinds ws o s l)
doing_fell ps n x kinds ws (op.Manage kind) s l h may = walk_fell n x kinds ws kind s l h may
doing_fell ps n x kinds ws o s l h may = operating_fell ps x kinds ws o s l h may

-- PLACES

-- where no unit is left serving is over
spent_fell : (x : Place) (s : Serving) (l : Label) → 1 ≤ place_weight x → s.left ≡ 0 → jobs_weight x.state.seats ≡ jobs_weight s.seats → l ≡ say.Spent
    → Fell (is_start l) x (place_at [] [] s)
spent_fell x s l a z q e = said_fell l say.Spent x _ e refl (omega (arith, a, z, q), omega (arith, z))

module _ (program : Program) where
  turns_fell : (x : Place) (kinds : List HandlerType) (ws : List OpenWalk) (kind : HandlerType) (turns : List ℕ) (r : Running) (s : Serving) (l : Label)
      → place_weight x ≡ 5 * s.left + 1 + walks_weight ws + 1 → jobs_left x ≡ s.left → jobs_weight x.state.seats ≡ jobs_weight s.seats
      → MayTurn kind turns r s l → Fell (is_start l) x (after_turn program kinds ws kind turns r s)
  turns_fell x kinds ws kind [] r s l a b q e =
      let m = more-le None ws kinds in said_fell l (say.Answer (ended_with kind r)) x _ e refl (omega (arith, a, q, m), omega (arith, b))
  turns_fell x kinds ws kind (n ∷ turns) r s l a b q h = by_turns (turn_of kind s.registrations n) (turns_fell x kinds ws kind turns r s l a b q) h
    where
      by_units : (units : ℕ) (k : ℕ) → s.left ≡ units → by_left units (l ≡ say.Spent) (λ m. l ≡ say.Call k)
          → Fell (is_start l) x (at_left units (place_at [] [] s)
          (λ m. place_at kinds (record { kind = kind; turns = turns; running = r; called = Some (record { handler = k; ops = operations_of program k }) } ∷ ws) (record s { left = m })))
      by_units zero k z e = spent_fell x s l (omega (arith, a)) z q e
      by_units (suc m) k z e = said_fell l (say.Call k) x _ e refl (omega (arith, a, z, q), omega (arith, b, z))

      by_turns : (o : Option Registration) → (MayTurn kind turns r s l → Fell (is_start l) x (after_turn program kinds ws kind turns r s))
          → by_turn o (MayTurn kind turns r s l) (λ k. by_left s.left (l ≡ say.Spent) (λ m. l ≡ say.Call k))
          → Fell (is_start l) x (at_turn o (after_turn program kinds ws kind turns r s) (λ k. at_left s.left (place_at [] [] s)
          (λ m. place_at kinds (record { kind = kind; turns = turns; running = r; called = Some (record { handler = k; ops = operations_of program k }) } ∷ ws) (record s { left = m }))))
      by_turns None again g = again g
      by_turns (Some y) again g = by_units s.left y.handler refl g

  in_call_fell : (x : Place) (kinds : List HandlerType) (ws : List OpenWalk) (w : OpenWalk) (h : ℕ) (os : List OpDef) (s : Serving) (l : Label)
      → place_weight x ≡ 5 * s.left + 2 + walks_weight ws + 1 → jobs_left x ≡ s.left → jobs_weight x.state.seats ≡ jobs_weight s.seats
      → MayInCall program (one_less (levels_left ws)) h os s l → Fell (is_start l) x (after_in_call program kinds ws w h os s l)
  in_call_fell x kinds ws w h [] s l a b q e = said_fell l (say.Return h (status_of program h)) x _ e refl (omega (arith, a, q), omega (arith, b))
  in_call_fell x kinds ws w h (o ∷ os) s l a b q e = by_units s.left refl e
    where
      by_units : (units : ℕ) → s.left ≡ units → by_left units (l ≡ say.Spent) (λ m. MayDo program.procedures (one_less (levels_left ws)) o (record s { left = m }) l)
          → Fell (is_start l) x (at_left units (place_at [] [] s)
          (λ m. after_doing (one_less (levels_left ws)) kinds (record w { called = Some (record { handler = h; ops = os }) } ∷ ws) o (record s { left = m }) l))
      by_units zero z g = spent_fell x s l (omega (arith, a)) z q g
      by_units (suc m) z g =
          doing_fell program.procedures (one_less (levels_left ws)) x kinds (record w { called = Some (record { handler = h; ops = os }) } ∷ ws) o (record s { left = m }) l
          (omega (arith, a, z), omega (arith, b, z), q) g

  in_walk_fell : (x : Place) (kinds : List HandlerType) (ws : List OpenWalk) (w : OpenWalk) (c : Option Call) (s : Serving) (l : Label)
      → place_weight x ≡ 5 * s.left + (1 + call_weight c) + walks_weight ws + 1 → jobs_left x ≡ s.left → jobs_weight x.state.seats ≡ jobs_weight s.seats
      → MayInWalk program (one_less (levels_left ws)) w c s l → Fell (is_start l) x (after_in_walk program kinds ws w c s l)
  in_walk_fell x kinds ws w None s l a b q h = turns_fell x kinds ws w.kind w.turns w.running s l (omega (arith, a)) b q h
  in_walk_fell x kinds ws w (Some c) s l a b q h = in_call_fell x kinds ws w c.handler c.ops s l (omega (arith, a)) b q h

  in_walks_fell : (x : Place) (kinds : List HandlerType) (walks : List OpenWalk) (s : Serving) (l : Label)
      → place_weight x ≡ 5 * s.left + walks_weight walks + more_weight None walks kinds → jobs_left x ≡ s.left → jobs_weight x.state.seats ≡ jobs_weight s.seats
      → MayInWalks program kinds walks s l → Fell (is_start l) x (after_in_walks program kinds walks s l)
  in_walks_fell x [] [] s l a b q h = absurd h
  in_walks_fell x (kind ∷ kinds) [] s l a b q h = by_units s.left refl h
    where
      by_units : (units : ℕ) → s.left ≡ units → by_left units (l ≡ say.Spent) (λ m. l ≡ say.Manage kind)
          → Fell (is_start l) x (at_left units (place_at [] [] s) (λ m. with_walk 4 kinds [] kind (record s { left = m })))
      by_units zero z g = spent_fell x s l (omega (arith, a)) z q g
      by_units (suc m) z g = said_fell l (say.Manage kind) x _ g refl (omega (arith, a, z, q), omega (arith, b, z))
  in_walks_fell x [] (w ∷ ws) s l a b q h = in_walk_fell x [] ws w w.called s l (omega (arith, a)) b q h
  in_walks_fell x (k ∷ ks) (w ∷ ws) s l a b q h = in_walk_fell x (k ∷ ks) ws w w.called s l (omega (arith, a)) b q h

  result_fits : (q : Seat) (into : ℕ) (s : Serving) → ((put_result q into s).left ≡ s.left) × ((put_result q into s).seats ≡ s.seats)
  result_fits Free into s = (refl, refl)
  result_fits (Open j t) into s = (refl, refl)
  result_fits (Done j t x S) into s = put_is S
    where
      put_is : (S : Status) → ((put_on S into x s).left ≡ s.left) × ((put_on S into x s).seats ≡ s.seats)
      put_is Success = (refl, refl)
      put_is _ = (refl, refl)

  begun_fell : (kinds : List HandlerType) (walks : List OpenWalk) (b : Option Begun) (s : Serving) (l : Label) → MayBegun program kinds walks b s l
      → Fell (is_start l) (record { kinds = kinds; walks = walks; begun = b; state = s }) (after_begun program kinds walks b s l)
  begun_fell kinds walks None s l h = in_walks_fell (record { kinds = kinds; walks = walks; begun = None; state = s }) kinds walks s l (omega arith) (omega arith) refl h
  begun_fell kinds walks (Some (First w)) s l e = let m = more-le None walks kinds in said_fell l (say.Begin w) _ _ e refl (omega (arith, m), omega arith)
  begun_fell kinds walks (Some (Started o)) s l h =
      doing_fell program.procedures (levels_left walks) (record { kinds = kinds; walks = walks; begun = Some (Started o); state = s }) kinds walks o s l (omega arith, omega arith, refl) h
  begun_fell kinds walks (Some (Awaited c into)) s l h =
      let m = more-le None walks kinds in
      let f = result_fits (seat s c) into (collected c s) in
      let j = ap jobs_weight f.1 in
      let g = freed_jobs s.seats c in
      let u = f.0 in
      said_fell l (say.Collect c) _ _ h.0 refl (omega (arith, m, u, j, g), omega (arith, u))

  -- an own label that the place takes
  pub next_fell : (p : Place) (l : Label) → Accepts program p (Own l) → Fell (is_start l) p (next program p (Own l))
  next_fell p l h = begun_fell p.kinds p.walks p.begun p.state l h

  -- a job that was run leaves the weight
  pub ran_weight : (p : Place) (c j x : ℕ) (S : Status) → (place_weight (next program p (Ran c j x S)) ≡ place_weight p) × (jobs_weight (next program p (Ran c j x S)).state.seats ≡ jobs_weight p.state.seats)
      × (jobs_left (next program p (Ran c j x S)) ≡ jobs_left p)
  ran_weight p c j x S = (refl, run_jobs p.state.seats c x S, refl)
