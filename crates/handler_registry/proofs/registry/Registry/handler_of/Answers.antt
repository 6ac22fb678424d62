use Rattle.std.proofs.Common.{◌≡◌, refl, sym, subst, ◌∙◌, rules}
use Rattle.std.specs.List.{find}
use Rattle.std.specs.Option.{option_map}
use Rattle.slab.specs.Slab.{get}
use Rattle.slab_order.specs.Numbered.{is_at}
use Rattle.handler_registry.specs.declared.registration.Registration.{Registration}
use Rattle.handler_registry.specs.Registrations.{Registrations, serial_of, handler_at}
use Rattle.handler_registry.proofs.KeptLemmas.{handler_shown}
use Rattle.handler_registry.proofs.registry.Registry.handler_of.Goals as goal

pub returns-in_err-key : goal.returns-in_err-key
returns-in_err-key c =
    let i = c.self.inside in
    let key : c.key_of.result ≡ find (is_at serial_of i.registrations c.args.serial) i.order.items = rw (← c.as_slice.ensures.value) (c.key_of.ensures) in
    sym (subst (λ (s : Registrations). handler_at c.args.serial s ≡ c.from_residual.result) c.self.view_is
    (handler_shown i.registrations i.order.items i.last c.args.serial c.key_of.result key ∙ rw (c.in_err-key.was, c.from_residual.ensures) refl))

pub returns : goal.returns
returns c =
    let i = c.self.inside in
    let key : c.key_of.result ≡ find (is_at serial_of i.registrations c.args.serial) i.order.items = rw (← c.as_slice.ensures.value) (c.key_of.ensures) in
    let mapped : option_map (λ (r : Registration). r.handler) (get i.registrations c.in_ok-key.key) ≡ c.map.result = search rules in
    sym (subst (λ (s : Registrations). handler_at c.args.serial s ≡ c.map.result) c.self.view_is
    (handler_shown i.registrations i.order.items i.last c.args.serial c.key_of.result key ∙ rw (c.in_ok-key.was) mapped))
