use Rattle.std.proofs.Common.{◌≡◌, ◌-◌, ◌<◌, ◌≤◌, ◌++◌, ◌∷◌, [], List, length, arith, sym, subst}
use Rattle.std.specs.Vec.{vec_capacity}
use Rattle.ap_procedure.specs.declared.token.Token.{Token}
use Rattle.ap_procedure.specs.Given.{job_of, IsRising}
use Rattle.slab_order.specs.Order.{values_at}
use Rattle.slab_order.proofs.NumberedLemmas.{length_shown, kept_more, shown_more}
use Rattle.ap_procedure.proofs.KeptLemmas.{rising_token}
use Rattle.ap_procedure.proofs.tokens.Tokens.push.Goals as goal

pub insert_reserved-key-requires : goal.insert_reserved-key-requires
insert_reserved-key-requires c =
    let i = c.self.inside in
    let few : length (values_at i.slab i.order.items) < 64 = subst (λ (s : List Token). length s < 64) (sym c.self.view_is) c.requires.room in
    omega (arith, few, length_shown job_of _ _ _ _ _ c.self.invariant, c.self.invariant.counted, c.self.invariant.slab_room)

pub push_reserved-requires : goal.push_reserved-requires
push_reserved-requires c =
    let i = c.self.inside in
    let few : length (values_at i.slab i.order.items) < 64 = subst (λ (s : List Token). length s < 64) (sym c.self.view_is) c.requires.room in
    omega (arith, few, length_shown job_of _ _ _ _ _ c.self.invariant, i.order.ok.0, c.self.invariant.order_room)

pub invariant_of-self : goal.invariant_of-self
invariant_of-self c =
    let i = c.self.inside in
    let e = c.insert_reserved-key.ensures in
    let few : length (values_at i.slab i.order.items) < 64 = subst (λ (s : List Token). length s < 64) (sym c.self.view_is) c.requires.room in
    let later : IsRising 0 (c.args.token.job - 1) (values_at i.slab i.order.items) = subst (λ (s : List Token). IsRising 0 (c.args.token.job - 1) s) (sym c.self.view_is) c.requires.later in
    let fits : c.args.token.job ≤ 4294967295 = omega arith in
    rw (c.push_reserved.ensures.items, c.push_reserved.ensures.capacity)
    (kept_more job_of i.slab c.insert_reserved-key.new.self c.insert_reserved-key.result c.args.token i.order.items 64 (vec_capacity i.order) 4294967295 4294967295 c.self.invariant e.was_vacant e.updates e.len e.capacity (omega (arith, few, length_shown job_of _ _ _ _ _ c.self.invariant)) (rising_token c.args.token (values_at i.slab i.order.items) c.requires.numbered fits later))

pub returns : goal.returns
returns c =
    let i = c.self.inside in
    let e = c.insert_reserved-key.ensures in
    subst (λ (s : List Token). values_at c.insert_reserved-key.new.self c.push_reserved.new.self.items ≡ s ++ c.args.token ∷ []) c.self.view_is
    (rw (c.push_reserved.ensures.items) (shown_more job_of i.slab c.insert_reserved-key.new.self c.insert_reserved-key.result c.args.token i.order.items 64 (vec_capacity i.order) 4294967295 c.self.invariant e.was_vacant e.updates))
