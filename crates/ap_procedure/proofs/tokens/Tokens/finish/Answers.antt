use Rattle.std.proofs.Common.{◌≡◌, Some, None, List, map, sym, subst, ◌∙◌}
use Rattle.std.specs.List.{find}
use Rattle.std.specs.Vec.{vec_capacity}
use Rattle.slab.specs.Slab.{get}
use Rattle.slab_order.specs.Order.{values_at}
use Rattle.slab_order.specs.Numbered.{is_at}
use Rattle.slab_order.proofs.NumberedLemmas.{has_value}
use Rattle.ap_procedure.specs.declared.token.Token.{Token}
use Rattle.ap_procedure.specs.Given.{job_of, is_of, finished}
use Rattle.ap_procedure.proofs.JobLemmas.{found_passes}
use Rattle.ap_procedure.proofs.KeptLemmas.{shown_finished, kept_finished, shown_unfinished}
use Rattle.ap_procedure.proofs.tokens.Tokens.finish.Goals as goal

pub set-requires : goal.set-requires
set-requires c =
    let i = c.self.inside in
    let found : find (is_at job_of i.slab c.args.job) i.order.items ≡ Some c.in-Some.key = rw (← c.as_slice.ensures.value) (sym c.key_of.ensures ∙ c.in-Some.is) in
    has_value (is_of c.args.job) (get i.slab c.in-Some.key) (found_passes (is_at job_of i.slab c.args.job) i.order.items c.in-Some.key found)

pub invariant_of-self : goal.invariant_of-self
invariant_of-self c =
    let i = c.self.inside in
    let found : find (is_at job_of i.slab c.args.job) i.order.items ≡ Some c.in-Some.key = rw (← c.as_slice.ensures.value) (sym c.key_of.ensures ∙ c.in-Some.is) in
    kept_finished i.slab c.set.new.slab c.in-Some.key c.args.job c.args.outcome c.args.status i.order.items (vec_capacity i.order) c.self.invariant found c.set.ensures.updates c.set.ensures.len c.set.ensures.capacity

pub returns-in-Some : goal.returns-in-Some
returns-in-Some c =
    let i = c.self.inside in
    let found : find (is_at job_of i.slab c.args.job) i.order.items ≡ Some c.in-Some.key = rw (← c.as_slice.ensures.value) (sym c.key_of.ensures ∙ c.in-Some.is) in
    subst (λ (s : List Token). values_at c.set.new.slab i.order.items ≡ map (finished c.args.job c.args.outcome c.args.status) s) c.self.view_is
    (shown_finished i.slab c.set.new.slab c.in-Some.key c.args.job c.args.outcome c.args.status i.order.items (vec_capacity i.order) c.self.invariant found c.set.ensures.updates)

pub returns-in_default : goal.returns-in_default
returns-in_default c =
    let i = c.self.inside in
    let none : find (is_at job_of i.slab c.args.job) i.order.items ≡ None = rw (← c.as_slice.ensures.value) (sym c.key_of.ensures ∙ c.in_default.is) in
    subst (λ (s : List Token). s ≡ map (finished c.args.job c.args.outcome c.args.status) s) c.self.view_is
    (shown_unfinished i.slab i.order.items c.args.job c.args.outcome c.args.status none)
