use Rattle.std.proofs.Common.{◌≡◌, Some, false, List, sym, subst, ◌∙◌}
use Rattle.std.specs.List.{All, position}
use Rattle.std.specs.Vec.{vec_capacity}
use Rattle.slab.specs.Slab.{get}
use Rattle.ap_procedure.specs.declared.token.Token.{Token}
use Rattle.ap_procedure.specs.Given.{job_of, is_of, without}
use Rattle.slab_order.specs.Order.{values_at}
use Rattle.slab_order.specs.Numbered.{is_at}
use Rattle.slab_order.proofs.NumberedLemmas.{found_place, has_value, shown_less, kept_less, shown_same}
use Rattle.ap_procedure.proofs.tokens.Tokens.remove.Goals as goal

pub remove-requires : goal.remove-requires
remove-requires c =
    let i = c.self.inside in
    let p : position (is_at job_of i.slab c.args.job) i.order.items ≡ Some c.in-Some.place = rw (← c.as_slice.ensures.value) (sym c.place_of.ensures.place ∙ c.in-Some.is) in
    let f = found_place job_of i.slab i.order.items c.args.job c.in-Some.place c.remove-key.result p c.remove-key.ensures.value in
    has_value (is_of c.args.job) (get i.slab c.remove-key.result) f.here

pub invariant_of-self : goal.invariant_of-self
invariant_of-self c =
    let i = c.self.inside in
    let p : position (is_at job_of i.slab c.args.job) i.order.items ≡ Some c.in-Some.place = rw (← c.as_slice.ensures.value) (sym c.place_of.ensures.place ∙ c.in-Some.is) in
    let f = found_place job_of i.slab i.order.items c.args.job c.in-Some.place c.remove-key.result p c.remove-key.ensures.value in
    rw (c.remove-key.ensures.items, c.remove-key.ensures.capacity)
    (kept_less job_of i.slab c.remove.new.self c.remove-key.result c.args.job i.order.items c.in-Some.place 64 (vec_capacity i.order) 4294967295 c.self.invariant f c.remove.ensures.updates c.remove.ensures.len c.remove.ensures.capacity)

pub returns-in-Some : goal.returns-in-Some
returns-in-Some c =
    let i = c.self.inside in
    let p : position (is_at job_of i.slab c.args.job) i.order.items ≡ Some c.in-Some.place = rw (← c.as_slice.ensures.value) (sym c.place_of.ensures.place ∙ c.in-Some.is) in
    let f = found_place job_of i.slab i.order.items c.args.job c.in-Some.place c.remove-key.result p c.remove-key.ensures.value in
    subst (λ (s : List Token). values_at c.remove.new.self c.remove-key.new.self.items ≡ without c.args.job s) c.self.view_is
    (rw (c.remove-key.ensures.items) (shown_less job_of i.slab c.remove.new.self c.remove-key.result c.args.job i.order.items c.in-Some.place 64 (vec_capacity i.order) 4294967295 c.self.invariant f c.remove.ensures.updates))

pub returns-in_default : goal.returns-in_default
returns-in_default c =
    let i = c.self.inside in
    let none : All (λ key. is_at job_of i.slab c.args.job key ≡ false) i.order.items = rw (← c.as_slice.ensures.value) (c.in_default.ensures.absent) in
    subst (λ (s : List Token). s ≡ without c.args.job s) c.self.view_is (shown_same job_of i.slab i.order.items c.args.job none)
