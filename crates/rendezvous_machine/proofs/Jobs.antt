-- What a step of serving makes of the processors' jobs: only a start gives one, with the next number, and only a collect takes one away.
use Rattle.std.proofs.Common.{◌≡◌, ◌<◌, ℕ, zero, suc, ◌+◌, Bool, true, false, List, [], ◌∷◌, length, slice_set, Option, Some, None, refl, sym, ap, subst, ◌∙◌}
use Rattle.smm_base.specs.declared.kinds.HandlerType.{HandlerType}
use Rattle.smm_base.specs.declared.status.Status.{Status}
use Rattle.smm_base.specs.declared.status.Status.TheVariants.{Success}
use Rattle.cpu_table.specs.declared.handlers.OpDef.{OpDef}
use Rattle.cpu_table.specs.declared.handlers.OpDef.TheVariants as op
use Rattle.cpu_table.specs.declared.handlers.ProcedureDef.{ProcedureDef}
use Rattle.sync_words.specs.declared.label.Label.{Label}
use Rattle.sync_words.specs.declared.label.Label.TheVariants as say
use Rattle.handler_registry.specs.declared.registration.Registration.{Registration}
use Rattle.smi_manage.specs.declared.running.Running.{Running}
use Rattle.serving_place.specs.declared.seat.Seat.{Seat}
use Rattle.serving_place.specs.declared.seat.Seat.TheVariants.{Free, Open, Done}
use Rattle.serving_place.specs.Serving.{Serving, seat, put_on, collected, put_result, dropped}
use Rattle.serving_place.specs.Operations.{Starts, Fits, after, Collects, register_on, drop_on}
use Rattle.serving_place.specs.Forms.{Own, Program, by_left, by_turn, by_collect, turn_of}
use Rattle.serving_place.specs.Places.{Call, OpenWalk, Begun, First, Started, Awaited, Place, one_less, levels_left, at_left, at_turn, at_collect, MayOperate, after_operating, with_walk, MayOpen, MayDo, after_doing, MayTurn, after_turn, MayInCall, after_in_call, MayInWalk, after_in_walk, MayInWalks, after_in_walks, MayBegun, after_begun, Accepts, next}

-- the last number given and the seats before a start, and after it
pub record IsStart (g : ℕ) (qs : List Seat) (h : ℕ) (rs : List Seat) (c j : ℕ) : Type 0 where
  pub number : j ≡ g + 1
  pub last : h ≡ j
  pub there : c < length qs
  pub token : Bool
  pub seats : rs ≡ slice_set qs c (Open j token)

abbrev pub JobsBy : Label → ℕ → List Seat → ℕ → List Seat → Type 0
JobsBy (say.Start c j p a) g qs h rs = IsStart g qs h rs c j
JobsBy (say.Collect c) g qs h rs = (h ≡ g) × (rs ≡ slice_set qs c Free)
JobsBy _ g qs h rs = (h ≡ g) × (rs ≡ qs)

abbrev SameJobs : Serving → Serving → Type 0
SameJobs s t = (t.given ≡ s.given) × (t.seats ≡ s.seats)

put_jobs : (S : Status) (into x : ℕ) (s : Serving) → SameJobs s (put_on S into x s)
put_jobs Success into x s = (refl, refl)
put_jobs _ into x s = (refl, refl)

drop_jobs : (S : Status) (n : ℕ) (s : Serving) → SameJobs s (drop_on S n s)
drop_jobs Success n s = (refl, refl)
drop_jobs _ n s = (refl, refl)

register_jobs : (S : Status) (kind : HandlerType) (h : ℕ) (s : Serving) → SameJobs s (register_on S kind h s)
register_jobs Success kind h s = (refl, refl)
register_jobs _ kind h s = (refl, refl)

put_register : (S : Status) (kind : HandlerType) (into n h : ℕ) (s : Serving) → SameJobs s (put_on S into n (register_on S kind h s))
put_register S kind into n h s =
    let a = put_jobs S into n (register_on S kind h s) in
    let b = register_jobs S kind h s in
    (a.0 ∙ b.0, a.1 ∙ b.1)

result_jobs : (q : Seat) (into : ℕ) (s : Serving) → SameJobs s (put_result q into s)
result_jobs Free into s = (refl, refl)
result_jobs (Open j t) into s = (refl, refl)
result_jobs (Done j t x S) into s = put_jobs S into x s

starts : (ps : List ProcedureDef) (s : Serving) (cpu : ℕ) (name : List ℕ) (arg c j p a : ℕ) (token : Bool) → Starts ps s cpu name arg c j p a
    → IsStart s.given s.seats j (slice_set s.seats cpu (Open j token)) c j
starts ps s cpu name arg c j p a token h =
    record {
      number = h.job;
      last = refl;
      there = subst (λ k. k < length s.seats) (sym h.processor) h.there;
      token = token;
      seats = ap (λ (i : ℕ). slice_set s.seats i (Open j token)) (sym h.processor);
    }

after_jobs : (ps : List ProcedureDef) (o : OpDef) (s : Serving) (l : Label) → Fits ps o s l → JobsBy l s.given s.seats (after o s l).given (after o s l).seats
after_jobs ps (op.Set into v) s (say.Set k x) h = (refl, refl)
after_jobs ps (op.Read cpu reg width into) s (say.Read c r w x S) h = put_jobs S into x s
after_jobs ps (op.Write cpu reg width v) s (say.Write c r w x S) h = (refl, refl)
after_jobs ps (op.Start cpu name arg into) s (say.Start c j p a) h = starts ps s cpu name _ c j p a false h
after_jobs ps (op.Start cpu name arg into) s (say.Refuse c x) h = (refl, refl)
after_jobs ps (op.Launch cpu name arg into) s (say.Start c j p a) h = starts ps s cpu name _ c j p a true h
after_jobs ps (op.Launch cpu name arg into) s (say.Refuse c x) h = (refl, refl)
after_jobs ps (op.Check v) s (say.Check j S) h = drop_jobs S j s
after_jobs ps (op.Wait v into) s (say.Wait j x S) h = put_jobs S into x (dropped j s)
after_jobs ps (op.Alloc v into) s (say.Alloc n x S) h = put_jobs S into x _
after_jobs ps (op.Free v) s (say.Free n S) h = (refl, refl)
after_jobs ps (op.Register handler kind into) s (say.Register h n S) f = put_register S kind into n handler s
after_jobs ps (op.Unregister v) s (say.Unregister n S) h = (refl, refl)
after_jobs ps _ s _ h = absurd h

left_jobs : (n : ℕ) (l : Label) (g : ℕ) (qs : List Seat) (A : Type 0) (F : ℕ → Type 0) (x : Place) (f : ℕ → Place)
    → (A → JobsBy l g qs x.state.given x.state.seats) → ((m : ℕ) → F m → JobsBy l g qs (f m).state.given (f m).state.seats) → by_left n A F → JobsBy l g qs (at_left n x f).state.given (at_left n x f).state.seats
left_jobs zero l g qs A F x f h k = h
left_jobs (suc n) l g qs A F x f h k = k n

turn_jobs : (o : Option Registration) (l : Label) (g : ℕ) (qs : List Seat) (A : Type 0) (F : ℕ → Type 0) (x : Place) (f : ℕ → Place)
    → (A → JobsBy l g qs x.state.given x.state.seats) → ((m : ℕ) → F m → JobsBy l g qs (f m).state.given (f m).state.seats) → by_turn o A F → JobsBy l g qs (at_turn o x f).state.given (at_turn o x f).state.seats
turn_jobs None l g qs A F x f h k = h
turn_jobs (Some r) l g qs A F x f h k = k r.handler

collect_jobs : (l : Label) (g : ℕ) (qs : List Seat) (A : Type 0) (F : ℕ → Type 0) (x : Place) (f : ℕ → Place)
    → (A → JobsBy l g qs x.state.given x.state.seats) → ((c : ℕ) → F c → JobsBy (say.Collect c) g qs (f c).state.given (f c).state.seats) → by_collect l F A → JobsBy l g qs (at_collect l f x).state.given (at_collect l f x).state.seats
collect_jobs (say.Collect c) g qs A F x f h k = k c
collect_jobs _ g qs A F x f h k = h

operating_jobs : (ps : List ProcedureDef) (kinds : List HandlerType) (ws : List OpenWalk) (o : OpDef) (s : Serving) (l : Label)
    → MayOperate ps o s l → JobsBy l s.given s.seats (after_operating kinds ws o s l).state.given (after_operating kinds ws o s l).state.seats
operating_jobs ps kinds ws o s l = collect_jobs l s.given s.seats (Fits ps o s l) (λ c. Collects o s c) _ _ (after_jobs ps o s l) (λ c h. (refl, refl))

walk_jobs : (n : ℕ) (kinds : List HandlerType) (ws : List OpenWalk) (kind : HandlerType) (s : Serving) (l : Label)
    → MayOpen n kind l → JobsBy l s.given s.seats (with_walk n kinds ws kind s).state.given (with_walk n kinds ws kind s).state.seats
walk_jobs zero kinds ws kind s l e = rw e (refl, refl)
walk_jobs (suc n) kinds ws kind s l e = rw e (refl, refl)

doing_jobs : (ps : List ProcedureDef) (n : ℕ) (kinds : List HandlerType) (ws : List OpenWalk) (o : OpDef) (s : Serving) (l : Label)
    → MayDo ps n o s l → JobsBy l s.given s.seats (after_doing n kinds ws o s l).state.given (after_doing n kinds ws o s l).state.seats
doing_jobs ps n kinds ws (op.Manage kind) s l h = walk_jobs n kinds ws kind s l h
doing_jobs ps n kinds ws o s l h = operating_jobs ps kinds ws o s l h

turns_jobs : (program : Program) (kinds : List HandlerType) (ws : List OpenWalk) (kind : HandlerType) (turns : List ℕ) (r : Running) (s : Serving) (l : Label)
    → MayTurn kind turns r s l → JobsBy l s.given s.seats (after_turn program kinds ws kind turns r s).state.given (after_turn program kinds ws kind turns r s).state.seats
turns_jobs program kinds ws kind [] r s l e = rw e (refl, refl)
turns_jobs program kinds ws kind (n ∷ turns) r s l h =
    turn_jobs (turn_of kind s.registrations n) l s.given s.seats _ _ _ _ (turns_jobs program kinds ws kind turns r s l)
    (λ m. left_jobs s.left l s.given s.seats (l ≡ say.Spent) (λ q. l ≡ say.Call m) _ _ (λ e. rw e (refl, refl)) (λ q e. rw e (refl, refl))) h

in_call_jobs : (program : Program) (kinds : List HandlerType) (ws : List OpenWalk) (w : OpenWalk) (h : ℕ) (os : List OpDef) (s : Serving) (l : Label)
    → MayInCall program (one_less (levels_left ws)) h os s l → JobsBy l s.given s.seats (after_in_call program kinds ws w h os s l).state.given (after_in_call program kinds ws w h os s l).state.seats
in_call_jobs program kinds ws w h [] s l e = rw e (refl, refl)
in_call_jobs program kinds ws w h (o ∷ os) s l e =
    left_jobs s.left l s.given s.seats (l ≡ say.Spent) (λ m. MayDo program.procedures (one_less (levels_left ws)) o (record s { left = m }) l) _ _ (λ e. rw e (refl, refl))
    (λ m q. doing_jobs program.procedures (one_less (levels_left ws)) kinds _ o (record s { left = m }) l q) e

in_walk_jobs : (program : Program) (kinds : List HandlerType) (ws : List OpenWalk) (w : OpenWalk) (c : Option Call) (s : Serving) (l : Label)
    → MayInWalk program (one_less (levels_left ws)) w c s l → JobsBy l s.given s.seats (after_in_walk program kinds ws w c s l).state.given (after_in_walk program kinds ws w c s l).state.seats
in_walk_jobs program kinds ws w None s l = turns_jobs program kinds ws w.kind w.turns w.running s l
in_walk_jobs program kinds ws w (Some c) s l = in_call_jobs program kinds ws w c.handler c.ops s l

in_walks_jobs : (program : Program) (kinds : List HandlerType) (walks : List OpenWalk) (s : Serving) (l : Label)
    → MayInWalks program kinds walks s l → JobsBy l s.given s.seats (after_in_walks program kinds walks s l).state.given (after_in_walks program kinds walks s l).state.seats
in_walks_jobs program [] [] s l h = absurd h
in_walks_jobs program (d ∷ ds) [] s l h =
    left_jobs s.left l s.given s.seats (l ≡ say.Spent) (λ m. l ≡ say.Manage d) _ _ (λ e. rw e (refl, refl)) (λ m e. walk_jobs 4 ds [] d (record s { left = m }) l e) h
in_walks_jobs program [] (w ∷ ws) s l h = in_walk_jobs program [] ws w w.called s l h
in_walks_jobs program (d ∷ ds) (w ∷ ws) s l h = in_walk_jobs program (d ∷ ds) ws w w.called s l h

begun_jobs : (program : Program) (kinds : List HandlerType) (walks : List OpenWalk) (b : Option Begun) (s : Serving) (l : Label)
    → MayBegun program kinds walks b s l → JobsBy l s.given s.seats (after_begun program kinds walks b s l).state.given (after_begun program kinds walks b s l).state.seats
begun_jobs program kinds walks None s l h = in_walks_jobs program kinds walks s l h
begun_jobs program kinds walks (Some (First w)) s l e = rw e (refl, refl)
begun_jobs program kinds walks (Some (Started o)) s l h = doing_jobs program.procedures (levels_left walks) kinds walks o s l h
begun_jobs program kinds walks (Some (Awaited c into)) s l h = rw (h.0) (result_jobs (seat s c) into (collected c s))

pub step_jobs : (program : Program) (p : Place) (l : Label) → Accepts program p (Own l) → JobsBy l p.state.given p.state.seats (next program p (Own l)).state.given (next program p (Own l)).state.seats
step_jobs program p l h = begun_jobs program p.kinds p.walks p.begun p.state l h
