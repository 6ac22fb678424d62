use Rattle.std.proofs.Common.{◌≡◌, Some, true, false, sym, ap, subst, ◌∙◌}
use Rattle.std.specs.List.{All, position}
use Rattle.std.specs.Vec.{vec_capacity}
use Rattle.slab.specs.Slab.{get}
use Rattle.slab_order.specs.Numbered.{is_at}
use Rattle.slab_order.proofs.NumberedLemmas.{IsFound, found_place, has_value, shown_less, kept_less}
use Rattle.handler_registry.specs.Registrations.{Registrations, serial_of, has_serial, is_live, unregistered}
use Rattle.handler_registry.proofs.KeptLemmas.{shown, live_found, live_none}
use Rattle.handler_registry.proofs.registry.Registry.unregister.Goals as goal

found : (c : goal.After-remove) → IsFound serial_of c.self.inside.registrations c.self.inside.order.items c.args.serial c.in-Some.place c.remove-key.result
found c =
    let i = c.self.inside in
    let p : position (is_at serial_of i.registrations c.args.serial) i.order.items ≡ Some c.in-Some.place = rw (← c.as_slice.ensures.value) (sym c.place_of.ensures.place ∙ c.in-Some.is) in
    found_place serial_of i.registrations i.order.items c.args.serial c.in-Some.place c.remove-key.result p c.remove-key.ensures.value

pub returns-in_default-clause-unknown : goal.returns-in_default-clause-unknown
returns-in_default-clause-unknown c =
    let i = c.self.inside in
    let none : All (λ key. is_at serial_of i.registrations c.args.serial key ≡ false) i.order.items = rw (← c.as_slice.ensures.value) (c.in_default.ensures.absent) in
    subst (λ (s : Registrations). is_live c.args.serial s ≡ false) c.self.view_is (live_none i.registrations i.order.items i.last c.args.serial none)

pub remove-requires : goal.remove-requires
remove-requires c =
    let i = c.self.inside in
    let p : position (is_at serial_of i.registrations c.args.serial) i.order.items ≡ Some c.in-Some.place = rw (← c.as_slice.ensures.value) (sym c.place_of.ensures.place ∙ c.in-Some.is) in
    let f = found_place serial_of i.registrations i.order.items c.args.serial c.in-Some.place c.remove-key.result p c.remove-key.ensures.value in
    has_value (has_serial c.args.serial) (get i.registrations c.remove-key.result) f.here

pub invariant_of-self : goal.invariant_of-self
invariant_of-self c =
    let i = c.self.inside in
    rw (c.remove-key.ensures.items, c.remove-key.ensures.capacity)
    (kept_less serial_of i.registrations c.remove.new.self c.remove-key.result c.args.serial i.order.items c.in-Some.place 64 (vec_capacity i.order) i.last c.self.invariant (found c) c.remove.ensures.updates c.remove.ensures.len c.remove.ensures.capacity)

pub returns-clause-unregistered : goal.returns-clause-unregistered
returns-clause-unregistered c =
    let i = c.self.inside in
    subst (λ (s : Registrations). shown c.remove.new.self c.remove-key.new.self.items i.last ≡ unregistered c.args.serial s) c.self.view_is
    (rw (c.remove-key.ensures.items) (ap (λ live. record { live = live; last = i.last }) (shown_less serial_of i.registrations c.remove.new.self c.remove-key.result c.args.serial i.order.items c.in-Some.place 64 (vec_capacity i.order) i.last c.self.invariant (found c) c.remove.ensures.updates)))

pub returns-clause-known : goal.returns-clause-known
returns-clause-known c =
    let i = c.self.inside in
    subst (λ (s : Registrations). is_live c.args.serial s ≡ true) c.self.view_is
    (live_found i.registrations i.order.items i.last c.args.serial c.in-Some.place c.remove-key.result (found c))
