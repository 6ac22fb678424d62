-- What a step keeps: a serial number that was given before it, and is live after it, was live before it.
use Rattle.std.proofs.Common.{◌≡◌, ◌+◌, ℕ, zero, suc, Bool, true, false, not, cond, ◌||◌, List, [], ◌∷◌, ◌++◌, Option, Some, None, refl, subst, arith}
use Rattle.std.specs.List.{filter, list_any}
use Rattle.std.proofs.lemmas.Bool.{ne_eqb}
use Rattle.smm_base.specs.declared.kinds.HandlerType.{HandlerType}
use Rattle.smm_base.specs.declared.status.Status.{Status}
use Rattle.smm_base.specs.declared.status.Status.TheVariants.{Success}
use Rattle.cpu_table.specs.declared.handlers.OpDef.{OpDef}
use Rattle.cpu_table.specs.declared.handlers.OpDef.TheVariants as op
use Rattle.cpu_table.specs.declared.handlers.ProcedureDef.{ProcedureDef}
use Rattle.sync_words.specs.declared.label.Label.{Label}
use Rattle.sync_words.specs.declared.label.Label.TheVariants as say
use Rattle.handler_registry.specs.declared.registration.Registration.{Registration}
use Rattle.handler_registry.specs.Registrations.{has_serial, is_full}
use Rattle.smi_manage.specs.declared.running.Running.{Running}
use Rattle.smram_pool.specs.State.{allocated}
use Rattle.serving_place.specs.Serving.{Serving, Seat, Free, Open, Done, seat, put_on, collected, put_result, returned, dropped}
use Rattle.serving_place.specs.Operations.{Fits, after, Collects, RegisterShows, register_on, drop_on}
use Rattle.serving_place.specs.Forms.{Event, Own, Ran, Program, by_left, by_turn, by_collect, turn_of}
use Rattle.serving_place.specs.Places.{Call, OpenWalk, Begun, First, Started, Awaited, Place, one_less, levels_left, at_left, at_turn, at_collect, MayOperate, after_operating, with_walk, MayDo, after_doing, MayTurn, after_turn, MayInCall, after_in_call, MayInWalk, after_in_walk, MayInWalks, after_in_walks, MayBegun, after_begun, Accepts, next}
use Rattle.serving_place.specs.Stands.{Kept, Leads}

or_right : (a b : Bool) → b ≡ true → (a || b) ≡ true
or_right true b h = refl
or_right false b h = h

or_map : (a b c : Bool) → (b ≡ true → c ≡ true) → (a || b) ≡ true → (a || c) ≡ true
or_map true b c f h = refl
or_map false b c f h = f h

any_filter : (p q : Registration → Bool) (xs : List Registration) → list_any p (filter q xs) ≡ true → list_any p xs ≡ true
any_filter p q [] h = h
any_filter p q (x ∷ xs) h = step (any_filter p q xs) (q x) h
  where
    step : (list_any p (filter q xs) ≡ true → list_any p xs ≡ true) → (b : Bool) → list_any p (cond b (x ∷ filter q xs) (filter q xs)) ≡ true → (p x || list_any p xs) ≡ true
    step again true h = or_map (p x) (list_any p (filter q xs)) (list_any p xs) again h
    step again false h = or_right (p x) (list_any p xs) (again h)

any_push : (n : ℕ) (xs : List Registration) (r : Registration) → (r.serial ≡ n → ⊥) → list_any (has_serial n) (xs ++ r ∷ []) ≡ true → list_any (has_serial n) xs ≡ true
any_push n [] r d h = let f = rw (ne_eqb r.serial n d) at h in cc
any_push n (x ∷ xs) r d h = or_map (has_serial n x) (list_any (has_serial n) (xs ++ r ∷ [])) (list_any (has_serial n) xs) (any_push n xs r d) h

unchanged : (s : Serving) → Kept s s
unchanged s = record { later = omega arith; live = λ n b h. h }

put_kept : (S : Status) (into x : ℕ) (s t : Serving) → Kept s t → Kept s (put_on S into x t)
put_kept Success into x s t k = record { later = k.later; live = k.live }
put_kept _ into x s t k = k

registers_kept : (b : Bool) (s : Serving) (n h : ℕ) (kind : HandlerType) (S : Status) → RegisterShows b s n S → Kept s (register_on S kind h s)
registers_kept b s n h kind Success r =
    record { later = omega arith; live = λ m c. any_push m s.registrations.live (record { serial = s.registrations.last + 1; kind = kind; handler = h }) (λ q. omega arith) }
registers_kept b s n h kind _ r = unchanged s

drop_kept : (S : Status) (n : ℕ) (s : Serving) → Kept s (drop_on S n s)
drop_kept Success n s = record { later = omega arith; live = λ n b q. q }
drop_kept _ n s = unchanged s

after_kept : (ps : List ProcedureDef) (o : OpDef) (s : Serving) (l : Label) → Fits ps o s l → Kept s (after o s l)
after_kept ps (op.Set into v) s (say.Set k x) h = record { later = omega arith; live = λ n b q. q }
after_kept ps (op.Read cpu reg width into) s (say.Read c r w x S) h = put_kept S into x s s (unchanged s)
after_kept ps (op.Write cpu reg width v) s (say.Write c r w x S) h = unchanged s
after_kept ps (op.Start cpu name arg into) s (say.Start c j p a) h = record { later = omega arith; live = λ n b q. q }
after_kept ps (op.Start cpu name arg into) s (say.Refuse c x) h = unchanged s
after_kept ps (op.Launch cpu name arg into) s (say.Start c j p a) h = record { later = omega arith; live = λ n b q. q }
after_kept ps (op.Launch cpu name arg into) s (say.Refuse c x) h = unchanged s
after_kept ps (op.Check v) s (say.Check j S) h = drop_kept S j s
after_kept ps (op.Wait v into) s (say.Wait j x S) h = put_kept S into x s (dropped j s) (record { later = omega arith; live = λ n b q. q })
after_kept ps (op.Alloc v into) s (say.Alloc n x S) h = put_kept S into x s (record s { pool = (allocated n s.pool).1 }) (record { later = omega arith; live = λ n b q. q })
after_kept ps (op.Free v) s (say.Free n S) h = record { later = omega arith; live = λ n b q. q }
after_kept ps (op.Register handler kind into) s (say.Register h n S) f =
    put_kept S into n s (register_on S kind handler s) (registers_kept (is_full s.registrations) s n handler kind S f.1)
after_kept ps (op.Unregister v) s (say.Unregister n S) h = record { later = omega arith; live = λ m b. any_filter (has_serial m) (λ r. not (has_serial n r)) s.registrations.live }
after_kept ps _ s _ h = absurd h

collected_kept : (s : Serving) (c : ℕ) → Kept s (collected c s)
collected_kept s c = record { later = omega arith; live = λ n b h. h }

result_kept : (q : Seat) (into : ℕ) (s t : Serving) → Kept s t → Kept s (put_result q into t)
result_kept Free into s t k = k
result_kept (Open j b) into s t k = k
result_kept (Done j b x S) into s t k = put_kept S into x s t k

returned_kept : (c into : ℕ) (s : Serving) → Kept s (returned c into s)
returned_kept c into s = result_kept (seat s c) into s (collected c s) (collected_kept s c)

with_left : (s t : Serving) (m : ℕ) → Kept (record s { left = m }) t → Kept s t
with_left s t m k = record { later = k.later; live = k.live }

left_kept : (n : ℕ) (s : Serving) (A : Type 0) (F : ℕ → Type 0) (x : Place) (f : ℕ → Place)
    → (A → Kept s x.state) → ((m : ℕ) → F m → Kept s (f m).state) → by_left n A F → Kept s (at_left n x f).state
left_kept zero s A F x f h k = h
left_kept (suc n) s A F x f h k = k n

turn_kept : (o : Option Registration) (s : Serving) (A : Type 0) (F : ℕ → Type 0) (x : Place) (f : ℕ → Place)
    → (A → Kept s x.state) → ((m : ℕ) → F m → Kept s (f m).state) → by_turn o A F → Kept s (at_turn o x f).state
turn_kept None s A F x f h k = h
turn_kept (Some r) s A F x f h k = k r.handler

collect_kept : (l : Label) (s : Serving) (A : Type 0) (F : ℕ → Type 0) (x : Place) (f : ℕ → Place)
    → (A → Kept s x.state) → ((m : ℕ) → F m → Kept s (f m).state) → by_collect l F A → Kept s (at_collect l f x).state
collect_kept (say.Collect c) s A F x f h k = k c
collect_kept _ s A F x f h k = h

operating_kept : (ps : List ProcedureDef) (kinds : List HandlerType) (ws : List OpenWalk) (o : OpDef) (s : Serving) (l : Label)
    → MayOperate ps o s l → Kept s (after_operating kinds ws o s l).state
operating_kept ps kinds ws o s l = collect_kept l s (Fits ps o s l) (λ c. Collects o s c) _ _ (after_kept ps o s l) (λ c h. collected_kept s c)

walk_kept : (n : ℕ) (kinds : List HandlerType) (ws : List OpenWalk) (kind : HandlerType) (s : Serving) → Kept s (with_walk n kinds ws kind s).state
walk_kept zero kinds ws kind s = unchanged s
walk_kept (suc n) kinds ws kind s = unchanged s

doing_kept : (ps : List ProcedureDef) (n : ℕ) (kinds : List HandlerType) (ws : List OpenWalk) (o : OpDef) (s : Serving) (l : Label)
    → MayDo ps n o s l → Kept s (after_doing n kinds ws o s l).state
doing_kept ps n kinds ws (op.Manage kind) s l h = walk_kept n kinds ws kind s
doing_kept ps n kinds ws o s l h = operating_kept ps kinds ws o s l h

turns_kept : (program : Program) (kinds : List HandlerType) (ws : List OpenWalk) (kind : HandlerType) (turns : List ℕ) (r : Running) (s : Serving) (l : Label)
    → MayTurn kind turns r s l → Kept s (after_turn program kinds ws kind turns r s).state
turns_kept program kinds ws kind [] r s l h = unchanged s
turns_kept program kinds ws kind (n ∷ turns) r s l h =
    turn_kept (turn_of kind s.registrations n) s _ _ _ _ (turns_kept program kinds ws kind turns r s l)
    (λ m. left_kept s.left s (l ≡ say.Spent) (λ q. l ≡ say.Call m) _ _ (λ e. unchanged s) (λ q e. record { later = omega arith; live = λ n b y. y })) h

in_call_kept : (program : Program) (kinds : List HandlerType) (ws : List OpenWalk) (w : OpenWalk) (h : ℕ) (os : List OpDef) (s : Serving) (l : Label)
    → MayInCall program (one_less (levels_left ws)) h os s l → Kept s (after_in_call program kinds ws w h os s l).state
in_call_kept program kinds ws w h [] s l e = unchanged s
in_call_kept program kinds ws w h (o ∷ os) s l e =
    left_kept s.left s (l ≡ say.Spent) (λ m. MayDo program.procedures (one_less (levels_left ws)) o (record s { left = m }) l) _ _ (λ e. unchanged s)
    (λ m q. with_left s _ m (doing_kept program.procedures (one_less (levels_left ws)) kinds _ o (record s { left = m }) l q)) e

in_walk_kept : (program : Program) (kinds : List HandlerType) (ws : List OpenWalk) (w : OpenWalk) (c : Option Call) (s : Serving) (l : Label)
    → MayInWalk program (one_less (levels_left ws)) w c s l → Kept s (after_in_walk program kinds ws w c s l).state
in_walk_kept program kinds ws w None s l = turns_kept program kinds ws w.kind w.turns w.running s l
in_walk_kept program kinds ws w (Some c) s l = in_call_kept program kinds ws w c.handler c.ops s l

in_walks_kept : (program : Program) (kinds : List HandlerType) (walks : List OpenWalk) (s : Serving) (l : Label)
    → MayInWalks program kinds walks s l → Kept s (after_in_walks program kinds walks s l).state
in_walks_kept program [] [] s l h = unchanged s
in_walks_kept program (d ∷ ds) [] s l h =
    left_kept s.left s (l ≡ say.Spent) (λ m. l ≡ say.Manage d) _ _ (λ e. unchanged s) (λ m e. with_left s _ m (walk_kept 4 ds [] d (record s { left = m }))) h
in_walks_kept program [] (w ∷ ws) s l h = in_walk_kept program [] ws w w.called s l h
in_walks_kept program (d ∷ ds) (w ∷ ws) s l h = in_walk_kept program (d ∷ ds) ws w w.called s l h

begun_kept : (program : Program) (kinds : List HandlerType) (walks : List OpenWalk) (b : Option Begun) (s : Serving) (l : Label)
    → MayBegun program kinds walks b s l → Kept s (after_begun program kinds walks b s l).state
begun_kept program kinds walks None s l h = in_walks_kept program kinds walks s l h
begun_kept program kinds walks (Some (First w)) s l h = unchanged s
begun_kept program kinds walks (Some (Started o)) s l h = doing_kept program.procedures (levels_left walks) kinds walks o s l h
begun_kept program kinds walks (Some (Awaited c into)) s l h = returned_kept c into s

step_kept : (program : Program) (p : Place) (e : Event) → Accepts program p e → Kept p.state (next program p e).state
step_kept program p (Own l) h = begun_kept program p.kinds p.walks p.begun p.state l h
step_kept program p (Ran c j x S) h = record { later = omega arith; live = λ n b y. y }

pub leads_kept : (program : Program) (p : Place) (es : List Event) (q : Place) → Leads program p es q → Kept p.state q.state
leads_kept program p [] q h = subst (λ (x : Place). Kept p.state x.state) h (unchanged p.state)
leads_kept program p (e ∷ es) q h =
    let a = step_kept program p e h.0 in
    let b = leads_kept program (next program p e) es q h.1 in
    record { later = omega arith; live = λ n c d. a.live n c (b.live n (omega arith) d) }
