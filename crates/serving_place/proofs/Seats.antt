-- What an event makes of the processors' jobs: only a start gives one, and only a collect takes one away.
use Rattle.std.proofs.Common.{◌≡◌, ℕ, zero, suc, Bool, true, false, List, [], ◌∷◌, Option, Some, None, refl, sym, ap, ◌∙◌}
use Rattle.std.specs.Prelude.{slice_set}
use Rattle.smm_base.specs.declared.kinds.HandlerType.{HandlerType}
use Rattle.smm_base.specs.declared.status.Status.{Status}
use Rattle.smm_base.specs.declared.status.Status.TheVariants.{Success}
use Rattle.cpu_table.specs.declared.handlers.OpDef.{OpDef}
use Rattle.cpu_table.specs.declared.handlers.OpDef.TheVariants as op
use Rattle.cpu_table.specs.declared.handlers.ProcedureDef.{ProcedureDef}
use Rattle.sync_words.specs.declared.label.Label.{Label}
use Rattle.sync_words.specs.declared.label.Label.TheVariants as say
use Rattle.handler_registry.specs.declared.registration.Registration.{Registration}
use Rattle.smi_manage.specs.declared.running.Running.{Running}
use Rattle.serving_place.specs.Serving.{Serving, Seat, Free, Open, Done, seat, put_on, collected, put_result, dropped}
use Rattle.serving_place.specs.Operations.{Fits, after, Collects, register_on, drop_on}
use Rattle.serving_place.specs.Forms.{Own, Program, by_left, by_turn, by_collect, turn_of}
use Rattle.serving_place.specs.Places.{Call, OpenWalk, Begun, First, Started, Awaited, Place, one_less, levels_left, at_left, at_turn, at_collect, MayOperate, after_operating, with_walk, MayOpen, MayDo, after_doing, MayTurn, after_turn, MayInCall, after_in_call, MayInWalk, after_in_walk, MayInWalks, after_in_walks, MayBegun, after_begun, Accepts, next}

abbrev pub SeatsBy : Label → List Seat → List Seat → Type 0
SeatsBy (say.Start c j p a) qs rs = (b : Bool) × (rs ≡ slice_set qs c (Open j b))
SeatsBy (say.Collect c) qs rs = rs ≡ slice_set qs c Free
SeatsBy _ qs rs = rs ≡ qs

put_seats : (S : Status) (into x : ℕ) (s : Serving) → (put_on S into x s).seats ≡ s.seats
put_seats Success into x s = refl
put_seats _ into x s = refl

drop_seats : (S : Status) (n : ℕ) (s : Serving) → (drop_on S n s).seats ≡ s.seats
drop_seats Success n s = refl
drop_seats _ n s = refl

register_seats : (S : Status) (kind : HandlerType) (h : ℕ) (s : Serving) → (register_on S kind h s).seats ≡ s.seats
register_seats Success kind h s = refl
register_seats _ kind h s = refl

result_seats : (q : Seat) (into : ℕ) (s : Serving) → (put_result q into s).seats ≡ s.seats
result_seats Free into s = refl
result_seats (Open j t) into s = refl
result_seats (Done j t x S) into s = put_seats S into x s

after_seats : (ps : List ProcedureDef) (o : OpDef) (s : Serving) (l : Label) → Fits ps o s l → SeatsBy l s.seats (after o s l).seats
after_seats ps (op.Set into v) s (say.Set k x) h = refl
after_seats ps (op.Read cpu reg width into) s (say.Read c r w x S) h = put_seats S into x s
after_seats ps (op.Write cpu reg width v) s (say.Write c r w x S) h = refl
after_seats ps (op.Start cpu name arg into) s (say.Start c j p a) h = (false, ap (λ (i : ℕ). slice_set s.seats i (Open j false)) (sym h.processor))
after_seats ps (op.Start cpu name arg into) s (say.Refuse c x) h = refl
after_seats ps (op.Launch cpu name arg into) s (say.Start c j p a) h = (true, ap (λ (i : ℕ). slice_set s.seats i (Open j true)) (sym h.processor))
after_seats ps (op.Launch cpu name arg into) s (say.Refuse c x) h = refl
after_seats ps (op.Check v) s (say.Check j S) h = drop_seats S j s
after_seats ps (op.Wait v into) s (say.Wait j x S) h = put_seats S into x (dropped j s)
after_seats ps (op.Alloc v into) s (say.Alloc n x S) h = put_seats S into x _
after_seats ps (op.Free v) s (say.Free n S) h = refl
after_seats ps (op.Register handler kind into) s (say.Register h n S) f = put_seats S into n (register_on S kind handler s) ∙ register_seats S kind handler s
after_seats ps (op.Unregister v) s (say.Unregister n S) h = refl
after_seats ps _ s _ h = absurd h

left_seats : (n : ℕ) (l : Label) (qs : List Seat) (A : Type 0) (F : ℕ → Type 0) (x : Place) (f : ℕ → Place)
    → (A → SeatsBy l qs x.state.seats) → ((m : ℕ) → F m → SeatsBy l qs (f m).state.seats) → by_left n A F → SeatsBy l qs (at_left n x f).state.seats
left_seats zero l qs A F x f h k = h
left_seats (suc n) l qs A F x f h k = k n

turn_seats : (o : Option Registration) (l : Label) (qs : List Seat) (A : Type 0) (F : ℕ → Type 0) (x : Place) (f : ℕ → Place)
    → (A → SeatsBy l qs x.state.seats) → ((m : ℕ) → F m → SeatsBy l qs (f m).state.seats) → by_turn o A F → SeatsBy l qs (at_turn o x f).state.seats
turn_seats None l qs A F x f h k = h
turn_seats (Some r) l qs A F x f h k = k r.handler

collect_seats : (l : Label) (qs : List Seat) (A : Type 0) (F : ℕ → Type 0) (x : Place) (f : ℕ → Place)
    → (A → SeatsBy l qs x.state.seats) → ((c : ℕ) → F c → SeatsBy (say.Collect c) qs (f c).state.seats) → by_collect l F A → SeatsBy l qs (at_collect l f x).state.seats
collect_seats (say.Collect c) qs A F x f h k = k c
collect_seats _ qs A F x f h k = h

operating_seats : (ps : List ProcedureDef) (kinds : List HandlerType) (ws : List OpenWalk) (o : OpDef) (s : Serving) (l : Label)
    → MayOperate ps o s l → SeatsBy l s.seats (after_operating kinds ws o s l).state.seats
operating_seats ps kinds ws o s l = collect_seats l s.seats (Fits ps o s l) (λ c. Collects o s c) _ _ (after_seats ps o s l) (λ c h. refl)

walk_seats : (n : ℕ) (kinds : List HandlerType) (ws : List OpenWalk) (kind : HandlerType) (s : Serving) (l : Label)
    → MayOpen n kind l → SeatsBy l s.seats (with_walk n kinds ws kind s).state.seats
walk_seats zero kinds ws kind s l e = rw e refl
walk_seats (suc n) kinds ws kind s l e = rw e refl

doing_seats : (ps : List ProcedureDef) (n : ℕ) (kinds : List HandlerType) (ws : List OpenWalk) (o : OpDef) (s : Serving) (l : Label)
    → MayDo ps n o s l → SeatsBy l s.seats (after_doing n kinds ws o s l).state.seats
doing_seats ps n kinds ws (op.Manage kind) s l h = walk_seats n kinds ws kind s l h
doing_seats ps n kinds ws o s l h = operating_seats ps kinds ws o s l h

turns_seats : (program : Program) (kinds : List HandlerType) (ws : List OpenWalk) (kind : HandlerType) (turns : List ℕ) (r : Running) (s : Serving) (l : Label)
    → MayTurn kind turns r s l → SeatsBy l s.seats (after_turn program kinds ws kind turns r s).state.seats
turns_seats program kinds ws kind [] r s l e = rw e refl
turns_seats program kinds ws kind (n ∷ turns) r s l h =
    turn_seats (turn_of kind s.registrations n) l s.seats _ _ _ _ (turns_seats program kinds ws kind turns r s l)
    (λ m. left_seats s.left l s.seats (l ≡ say.Spent) (λ q. l ≡ say.Call m) _ _ (λ e. rw e refl) (λ q e. rw e refl)) h

in_call_seats : (program : Program) (kinds : List HandlerType) (ws : List OpenWalk) (w : OpenWalk) (h : ℕ) (os : List OpDef) (s : Serving) (l : Label)
    → MayInCall program (one_less (levels_left ws)) h os s l → SeatsBy l s.seats (after_in_call program kinds ws w h os s l).state.seats
in_call_seats program kinds ws w h [] s l e = rw e refl
in_call_seats program kinds ws w h (o ∷ os) s l e =
    left_seats s.left l s.seats (l ≡ say.Spent) (λ m. MayDo program.procedures (one_less (levels_left ws)) o (record s { left = m }) l) _ _ (λ e. rw e refl)
    (λ m q. doing_seats program.procedures (one_less (levels_left ws)) kinds _ o (record s { left = m }) l q) e

in_walk_seats : (program : Program) (kinds : List HandlerType) (ws : List OpenWalk) (w : OpenWalk) (c : Option Call) (s : Serving) (l : Label)
    → MayInWalk program (one_less (levels_left ws)) w c s l → SeatsBy l s.seats (after_in_walk program kinds ws w c s l).state.seats
in_walk_seats program kinds ws w None s l = turns_seats program kinds ws w.kind w.turns w.running s l
in_walk_seats program kinds ws w (Some c) s l = in_call_seats program kinds ws w c.handler c.ops s l

in_walks_seats : (program : Program) (kinds : List HandlerType) (walks : List OpenWalk) (s : Serving) (l : Label)
    → MayInWalks program kinds walks s l → SeatsBy l s.seats (after_in_walks program kinds walks s l).state.seats
in_walks_seats program [] [] s l h = absurd h
in_walks_seats program (d ∷ ds) [] s l h =
    left_seats s.left l s.seats (l ≡ say.Spent) (λ m. l ≡ say.Manage d) _ _ (λ e. rw e refl) (λ m e. walk_seats 4 ds [] d (record s { left = m }) l e) h
in_walks_seats program [] (w ∷ ws) s l h = in_walk_seats program [] ws w w.called s l h
in_walks_seats program (d ∷ ds) (w ∷ ws) s l h = in_walk_seats program (d ∷ ds) ws w w.called s l h

begun_seats : (program : Program) (kinds : List HandlerType) (walks : List OpenWalk) (b : Option Begun) (s : Serving) (l : Label)
    → MayBegun program kinds walks b s l → SeatsBy l s.seats (after_begun program kinds walks b s l).state.seats
begun_seats program kinds walks None s l h = in_walks_seats program kinds walks s l h
begun_seats program kinds walks (Some (First w)) s l e = rw e refl
begun_seats program kinds walks (Some (Started o)) s l h = doing_seats program.procedures (levels_left walks) kinds walks o s l h
begun_seats program kinds walks (Some (Awaited c into)) s l h = rw (h.0) (result_seats (seat s c) into (collected c s))

pub step_seats : (program : Program) (p : Place) (l : Label) → Accepts program p (Own l) → SeatsBy l p.state.seats (next program p (Own l)).state.seats
step_seats program p l h = begun_seats program p.kinds p.walks p.begun p.state l h
