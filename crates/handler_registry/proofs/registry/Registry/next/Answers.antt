use Rattle.std.proofs.Common.{◌≡◌, false, refl, sym, subst, ◌∙◌, rules}
use Rattle.std.specs.List.{find}
use Rattle.std.specs.Option.{option_map, option_map_or}
use Rattle.slab.specs.Slab.{get}
use Rattle.handler_registry.specs.declared.registration.Registration.{Registration}
use Rattle.handler_registry.specs.Registrations.{Registrations, is_on_after, next_of}
use Rattle.handler_registry.proofs.KeptLemmas.{next_shown}
use Rattle.handler_registry.proofs.registry.Registry.next.Goals as goal

pub returns-in_err-key : goal.returns-in_err-key
returns-in_err-key c =
    let i = c.self.inside in
    let key : c.key_after.result ≡ find (λ key. option_map_or (is_on_after c.args.kind c.args.after) (get i.registrations key) false) i.order.items = rw (← c.as_slice.ensures.value) (c.key_after.ensures) in
    sym (subst (λ (s : Registrations). next_of c.args.kind c.args.after s ≡ c.from_residual.result) c.self.view_is
    (next_shown i.registrations i.order.items i.last c.args.kind c.args.after c.key_after.result key ∙ rw (c.in_err-key.was, c.from_residual.ensures) refl))

pub returns : goal.returns
returns c =
    let i = c.self.inside in
    let key : c.key_after.result ≡ find (λ key. option_map_or (is_on_after c.args.kind c.args.after) (get i.registrations key) false) i.order.items = rw (← c.as_slice.ensures.value) (c.key_after.ensures) in
    let mapped : option_map (λ (r : Registration). r.serial) (get i.registrations c.in_ok-key.key) ≡ c.map.result = search rules in
    sym (subst (λ (s : Registrations). next_of c.args.kind c.args.after s ≡ c.map.result) c.self.view_is
    (next_shown i.registrations i.order.items i.last c.args.kind c.args.after c.key_after.result key ∙ rw (c.in_ok-key.was) mapped))
