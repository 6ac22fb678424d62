use Rattle.std.proofs.Common.{◌≡◌, ◌+◌, ◌<◌, length, false, arith, refl, sym, ap, subst, ◌∙◌}
use Rattle.std.specs.Vec.{vec_capacity}
use Rattle.slab_order.specs.Order.{values_at}
use Rattle.slab_order.proofs.RisingLemmas.{rising_pushed}
use Rattle.slab_order.proofs.NumberedLemmas.{kept_more, shown_more}
use Rattle.handler_registry.specs.Registrations.{Registrations, serial_of, is_full, registered}
use Rattle.handler_registry.proofs.KeptLemmas.{shown, room_left}
use Rattle.handler_registry.proofs.registry.Registry.register.Goals as goal

pub insert_reserved-key-requires : goal.insert_reserved-key-requires
insert_reserved-key-requires c =
    let i = c.self.inside in
    let open_to_more : is_full (shown i.registrations i.order.items i.last) ≡ false = ap is_full c.self.view_is ∙ sym c.is_full.ensures ∙ c.if-is_full.false in
    let few : length i.order.items < 64 = room_left i.registrations i.order.items (vec_capacity i.order) i.last c.self.invariant open_to_more in
    omega (arith, few, c.self.invariant.counted, c.self.invariant.slab_room)

pub push_reserved-requires : goal.push_reserved-requires
push_reserved-requires c =
    let i = c.self.inside in
    let open_to_more : is_full (shown i.registrations i.order.items i.last) ≡ false = ap is_full c.self.view_is ∙ sym c.is_full.ensures ∙ c.if-is_full.false in
    let few : length i.order.items < 64 = room_left i.registrations i.order.items (vec_capacity i.order) i.last c.self.invariant open_to_more in
    omega (arith, few, i.order.ok.0, c.self.invariant.order_room)

pub invariant_of-self : goal.invariant_of-self
invariant_of-self c =
    let i = c.self.inside in
    let e = c.insert_reserved-key.ensures in
    let open_to_more : is_full (shown i.registrations i.order.items i.last) ≡ false = ap is_full c.self.view_is ∙ sym c.is_full.ensures ∙ c.if-is_full.false in
    let few : length i.order.items < 64 = room_left i.registrations i.order.items (vec_capacity i.order) i.last c.self.invariant open_to_more in
    rw (c.push_reserved.ensures.items, c.push_reserved.ensures.capacity)
    (kept_more serial_of i.registrations c.insert_reserved-key.new.self c.insert_reserved-key.result _ i.order.items 64 (vec_capacity i.order) i.last (i.last + 1) c.self.invariant e.was_vacant e.updates e.len e.capacity few
    (rising_pushed serial_of 0 i.last (values_at i.registrations i.order.items) (record { serial = i.last + 1; kind = c.args.kind; handler = c.args.handler }) refl (omega arith) c.self.invariant.rising))

pub returns-clause-registered : goal.returns-clause-registered
returns-clause-registered c =
    let i = c.self.inside in
    let e = c.insert_reserved-key.ensures in
    subst (λ (s : Registrations). shown c.insert_reserved-key.new.self c.push_reserved.new.self.items (i.last + 1) ≡ registered c.args.kind c.args.handler s) c.self.view_is
    (rw (c.push_reserved.ensures.items) (ap (λ live. record { live = live; last = i.last + 1 }) (shown_more serial_of i.registrations c.insert_reserved-key.new.self c.insert_reserved-key.result _ i.order.items 64 (vec_capacity i.order) i.last c.self.invariant e.was_vacant e.updates)))
