-- Each step of serving says a label whose numbers fit its fields, and leaves a place whose numbers fit.
use Rattle.std.proofs.Common.{◌≡◌, ℕ, zero, suc, ◌+◌, ◌<◌, ◌≤◌, ◌^◌, List, [], ◌∷◌, length, Option, Some, None, refl, sym, subst, ◌∙◌, arith}
use Rattle.std.specs.Prelude.{IfSome}
use Rattle.smm_base.specs.declared.kinds.HandlerType.{HandlerType}
use Rattle.smm_base.specs.declared.status.Status.{Status}
use Rattle.smm_base.specs.declared.status.Status.TheVariants.{Success}
use Rattle.cpu_table.specs.declared.handlers.OpDef.{OpDef}
use Rattle.cpu_table.specs.declared.handlers.OpDef.TheVariants as op
use Rattle.sync_words.specs.declared.label.Label.{Label}
use Rattle.sync_words.specs.declared.label.Label.TheVariants as say
use Rattle.trace_text.specs.Spelling.{IsLabel, IsKind}
use Rattle.handler_registry.specs.declared.registration.Registration.{Registration}
use Rattle.smi_manage.specs.declared.running.Running.{Running}
use Rattle.serving_place.specs.declared.seat.Seat.{Seat}
use Rattle.serving_place.specs.declared.seat.Seat.TheVariants.{Free, Open, Done}
use Rattle.serving_place.specs.Serving.{Serving, seat, put_on, put_result, returned, collected}
use Rattle.serving_place.specs.Operations.{Fits, Collects}
use Rattle.serving_place.specs.Forms.{Own, Ran, Program, operations_of, by_left, by_turn, by_collect, turn_of, is_turn}
use Rattle.serving_place.specs.Places.{Call, OpenWalk, Begun, First, Started, Awaited, Place, one_less, levels_left, at_left, at_turn, at_collect, awaits_after, begun_by, MayOperate, after_operating, MayOpen, with_walk, MayDo, after_doing, MayTurn, after_turn, MayInCall, after_in_call, MayInWalk, after_in_walk, MayInWalks, after_in_walks, MayBegun, after_begun, Accepts, next}
use Rattle.report_laws.specs.Widths.{KindsFit}
use Rattle.report_laws.proofs.Servings.{ServingFits, OpFits, ReadFits, after_fits, collects_few, collected_fits, returned_fits, ran_fits, live_found}

abbrev pub EachOp : List OpDef → Type 0
EachOp [] = Unit {0}
EachOp (o ∷ os) = OpFits o × EachOp os

-- what the file says of handlers and procedures
pub record ProgramFits (program : Program) : Type 0 where
  pub procedures : length program.procedures ≤ 64
  pub operations : (h : ℕ) → EachOp (operations_of program h)

abbrev pub CallFits : Option Call → Type 0
CallFits None = Unit {0}
CallFits (Some c) = (c.handler < 2 ^ 16) × EachOp c.ops

pub record WalkFits (w : OpenWalk) : Type 0 where
  pub kind : IsKind w.kind
  pub called : CallFits w.called

abbrev pub EachWalk : List OpenWalk → Type 0
EachWalk [] = Unit {0}
EachWalk (w ∷ ws) = WalkFits w × EachWalk ws

abbrev pub BegunFits : Option Begun → Type 0
BegunFits None = Unit {0}
BegunFits (Some (First w)) = w < 2 ^ 32
BegunFits (Some (Started o)) = OpFits o
BegunFits (Some (Awaited c into)) = c < 2 ^ 16

-- an operation that was begun may still give a job
abbrev pub pending : Option Begun → ℕ
pending None = 0
pending (Some (First w)) = 0
pending (Some (Started o)) = 1
pending (Some (Awaited c into)) = 0

pub record PlaceFits (p : Place) : Type 0 where
  pub kinds : KindsFit p.kinds
  pub walks : EachWalk p.walks
  pub begun : BegunFits p.begun
  pub known : ServingFits p.state
  pub units : pending p.begun + p.state.given + p.state.left < 2 ^ 32

pub record Goes (l : Label) (p : Place) : Type 0 where
  pub label : IsLabel l
  pub place : PlaceFits p

-- a label that is this one
says : (l m : Label) (p : Place) → l ≡ m → IsLabel m → PlaceFits p → Goes l p
says l m p e h place = record { label = subst IsLabel (sym e) h; place = place }

left_goes : (n : ℕ) (l : Label) (A : Type 0) (F : ℕ → Type 0) (x : Place) (f : ℕ → Place)
    → (A → Goes l x) → ((m : ℕ) → n ≡ suc m → F m → Goes l (f m)) → by_left n A F → Goes l (at_left n x f)
left_goes zero l A F x f h k = h
left_goes (suc n) l A F x f h k = k n refl

turn_goes : (o : Option Registration) (l : Label) (A : Type 0) (F : ℕ → Type 0) (x : Place) (f : ℕ → Place) → IfSome o (λ r. r.handler < 2 ^ 16)
    → (A → Goes l x) → ((h : ℕ) → h < 2 ^ 16 → F h → Goes l (f h)) → by_turn o A F → Goes l (at_turn o x f)
turn_goes None l A F x f few h k = h
turn_goes (Some r) l A F x f few h k = k r.handler few

collect_goes : (l : Label) (A : Type 0) (F : ℕ → Type 0) (x : Place) (f : ℕ → Place)
    → (A → Goes l x) → ((c : ℕ) → F c → Goes (say.Collect c) (f c)) → by_collect l F A → Goes l (at_collect l f x)
collect_goes (say.Collect c) A F x f h k = k c
collect_goes _ A F x f h k = h

awaits_fits : (l : Label) (cpu into : ℕ) → cpu < 2 ^ 16 → BegunFits (awaits_after l (Awaited cpu into))
awaits_fits (say.Start c j p a) cpu into h = h
awaits_fits _ cpu into h = tt

awaits_none : (l : Label) (cpu into : ℕ) → pending (awaits_after l (Awaited cpu into)) ≡ 0
awaits_none (say.Start c j p a) cpu into = refl
awaits_none _ cpu into = refl

begun_fits : (o : OpDef) (l : Label) → OpFits o → BegunFits (begun_by o l)
begun_fits (op.Start cpu name arg into) l h = awaits_fits l cpu into h.widths.0
begun_fits _ l h = tt

begun_none : (o : OpDef) (l : Label) → pending (begun_by o l) ≡ 0
begun_none (op.Start cpu name arg into) l = awaits_none l cpu into
begun_none _ l = refl

put_units : (S : Status) (into x : ℕ) (s : Serving) → (put_on S into x s).given + (put_on S into x s).left ≡ s.given + s.left
put_units Success into x s = refl
put_units _ into x s = refl

result_units : (q : Seat) (into : ℕ) (s : Serving) → (put_result q into s).given + (put_result q into s).left ≡ s.given + s.left
result_units Free into s = refl
result_units (Open j t) into s = refl
result_units (Done j t x S) into s = put_units S into x s

returned_units : (c into : ℕ) (s : Serving) → (returned c into s).given + (returned c into s).left ≡ s.given + s.left
returned_units c into s = result_units (seat s c) into (collected c s)

module _ (program : Program) (fits : ProgramFits program) where
  operating_goes : (kinds : List HandlerType) (ws : List OpenWalk) (o : OpDef) (s : Serving) (l : Label) → KindsFit kinds → EachWalk ws → OpFits o → ServingFits s
      → 1 + s.given + s.left < 2 ^ 32 → ReadFits l → MayOperate program.procedures o s l → Goes l (after_operating kinds ws o s l)
  operating_goes kinds ws o s l ks each f k units r =
      collect_goes l (Fits program.procedures o s l) (λ c. Collects o s c) _ _
      (λ h. let t = after_fits program.procedures fits.procedures o s l f k units r h in
      let u = t.units in
      let none = begun_none o l in
      record { label = t.label; place = record { kinds = ks; walks = each; begun = begun_fits o l f; known = t.known; units = omega (arith, u, none, units) } })
      (λ c h. record { label = collects_few o s c k h; place = record { kinds = ks; walks = each; begun = f; known = collected_fits c s k; units = omega (arith, units) } })

  walk_goes : (n : ℕ) (kinds : List HandlerType) (ws : List OpenWalk) (kind : HandlerType) (s : Serving) (l : Label) → KindsFit kinds → EachWalk ws → IsKind kind → ServingFits s
      → s.given + s.left < 2 ^ 32 → MayOpen n kind l → Goes l (with_walk n kinds ws kind s)
  walk_goes zero kinds ws kind s l ks each fit k units e = says l (say.Deep kind) _ e fit (record { kinds = ks; walks = each; begun = tt; known = k; units = omega (arith, units) })
  walk_goes (suc n) kinds ws kind s l ks each fit k units e =
      says l (say.Manage kind) _ e fit (record { kinds = ks; walks = (record { kind = fit; called = tt }, each); begun = tt; known = k; units = omega (arith, units) })

  doing_goes : (n : ℕ) (kinds : List HandlerType) (ws : List OpenWalk) (o : OpDef) (s : Serving) (l : Label) → KindsFit kinds → EachWalk ws → OpFits o → ServingFits s
      → 1 + s.given + s.left < 2 ^ 32 → ReadFits l → MayDo program.procedures n o s l → Goes l (after_doing n kinds ws o s l)
  doing_goes n kinds ws (op.Manage kind) s l ks each f k units r h = walk_goes n kinds ws kind s l ks each f.widths k (omega (arith, units)) h
  doing_goes n kinds ws o s l ks each f k units r h = operating_goes kinds ws o s l ks each f k units r h

  turns_goes : (kinds : List HandlerType) (ws : List OpenWalk) (kind : HandlerType) (turns : List ℕ) (r : Running) (s : Serving) (l : Label) → KindsFit kinds → EachWalk ws → IsKind kind → ServingFits s
      → s.given + s.left < 2 ^ 32 → MayTurn kind turns r s l → Goes l (after_turn program kinds ws kind turns r s)
  turns_goes kinds ws kind [] r s l ks each fit k units e =
      says l _ _ e tt (record { kinds = ks; walks = each; begun = tt; known = k; units = omega (arith, units) })
  turns_goes kinds ws kind (n ∷ turns) r s l ks each fit k units h =
      turn_goes (turn_of kind s.registrations n) l _ _ _ _ (live_found (is_turn kind n) s.registrations.live k.live_fit) (turns_goes kinds ws kind turns r s l ks each fit k units)
      (λ c few. left_goes s.left l (l ≡ say.Spent) (λ q. l ≡ say.Call c) _ _
      (λ e. says l say.Spent _ e tt (record { kinds = tt; walks = tt; begun = tt; known = k; units = omega (arith, units) }))
      (λ q left e. says l (say.Call c) _ e few
      (record { kinds = ks; walks = (record { kind = fit; called = (few, fits.operations c) }, each); begun = tt; known = k; units = omega (arith, left, units) }))) h

  in_call_goes : (kinds : List HandlerType) (ws : List OpenWalk) (w : OpenWalk) (h : ℕ) (os : List OpDef) (s : Serving) (l : Label)
      → KindsFit kinds → EachWalk ws → IsKind w.kind → h < 2 ^ 16 → EachOp os → ServingFits s
      → s.given + s.left < 2 ^ 32 → ReadFits l → MayInCall program (one_less (levels_left ws)) h os s l → Goes l (after_in_call program kinds ws w h os s l)
  in_call_goes kinds ws w h [] s l ks each fit few ops k units r e =
      says l _ _ e few (record { kinds = ks; walks = (record { kind = fit; called = tt }, each); begun = tt; known = k; units = omega (arith, units) })
  in_call_goes kinds ws w h (o ∷ os) s l ks each fit few ops k units r e =
      left_goes s.left l (l ≡ say.Spent) (λ m. MayDo program.procedures (one_less (levels_left ws)) o (record s { left = m }) l) _ _
      (λ e. says l say.Spent _ e tt (record { kinds = tt; walks = tt; begun = tt; known = k; units = omega (arith, units) }))
      (λ m left q. doing_goes (one_less (levels_left ws)) kinds _ o (record s { left = m }) l ks (record { kind = fit; called = (few, ops.1) }, each) ops.0 k (omega (arith, left, units)) r q) e

  in_walk_goes : (kinds : List HandlerType) (ws : List OpenWalk) (w : OpenWalk) (c : Option Call) (s : Serving) (l : Label) → KindsFit kinds → EachWalk ws → IsKind w.kind → CallFits c → ServingFits s
      → s.given + s.left < 2 ^ 32 → ReadFits l → MayInWalk program (one_less (levels_left ws)) w c s l → Goes l (after_in_walk program kinds ws w c s l)
  in_walk_goes kinds ws w None s l ks each fit call k units r h = turns_goes kinds ws w.kind w.turns w.running s l ks each fit k units h
  in_walk_goes kinds ws w (Some c) s l ks each fit call k units r h = in_call_goes kinds ws w c.handler c.ops s l ks each fit call.0 call.1 k units r h

  in_walks_goes : (kinds : List HandlerType) (walks : List OpenWalk) (s : Serving) (l : Label) → KindsFit kinds → EachWalk walks → ServingFits s
      → s.given + s.left < 2 ^ 32 → ReadFits l → MayInWalks program kinds walks s l → Goes l (after_in_walks program kinds walks s l)
  in_walks_goes [] [] s l ks each k units r h = absurd h
  in_walks_goes (kind ∷ kinds) [] s l ks each k units r h =
      left_goes s.left l (l ≡ say.Spent) (λ m. l ≡ say.Manage kind) _ _
      (λ e. says l say.Spent _ e tt (record { kinds = tt; walks = tt; begun = tt; known = k; units = omega (arith, units) }))
      (λ m left e. walk_goes 4 kinds [] kind (record s { left = m }) l ks.1 tt ks.0 k (omega (arith, left, units)) e) h
  in_walks_goes [] (w ∷ ws) s l ks each k units r h = in_walk_goes [] ws w w.called s l ks each.1 each.0.kind each.0.called k units r h
  in_walks_goes (kind ∷ kinds) (w ∷ ws) s l ks each k units r h = in_walk_goes (kind ∷ kinds) ws w w.called s l ks each.1 each.0.kind each.0.called k units r h

  begun_goes : (kinds : List HandlerType) (walks : List OpenWalk) (b : Option Begun) (s : Serving) (l : Label) → KindsFit kinds → EachWalk walks → BegunFits b → ServingFits s
      → pending b + s.given + s.left < 2 ^ 32 → ReadFits l → MayBegun program kinds walks b s l → Goes l (after_begun program kinds walks b s l)
  begun_goes kinds walks None s l ks each b k units r h = in_walks_goes kinds walks s l ks each k (omega (arith, units)) r h
  begun_goes kinds walks (Some (First w)) s l ks each b k units r e = says l (say.Begin w) _ e b (record { kinds = ks; walks = each; begun = tt; known = k; units = omega (arith, units) })
  begun_goes kinds walks (Some (Started o)) s l ks each b k units r h = doing_goes (levels_left walks) kinds walks o s l ks each b k units r h
  begun_goes kinds walks (Some (Awaited c into)) s l ks each b k units r h =
      let same = returned_units c into s in
      says l (say.Collect c) _ h.0 b (record { kinds = ks; walks = each; begun = tt; known = returned_fits c into s k; units = omega (arith, same, units) })

  -- an own label
  pub step_goes : (p : Place) (l : Label) → PlaceFits p → ReadFits l → Accepts program p (Own l) → Goes l (next program p (Own l))
  step_goes p l f r h = begun_goes p.kinds p.walks p.begun p.state l f.kinds f.walks f.begun f.known f.units r h

  -- a job that is run
  pub run_goes : (p : Place) (c j x : ℕ) (S : Status) → PlaceFits p → x < 2 ^ 64 → PlaceFits (next program p (Ran c j x S))
  run_goes p c j x S f few = record { kinds = f.kinds; walks = f.walks; begun = f.begun; known = ran_fits c x S p.state few f.known; units = f.units }
