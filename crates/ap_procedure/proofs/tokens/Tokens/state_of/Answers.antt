use Rattle.std.proofs.Common.{◌≡◌, List, refl, sym, subst, ◌∙◌, rules}
use Rattle.std.specs.List.{find}
use Rattle.std.specs.Option.{option_map}
use Rattle.slab.specs.Slab.{get}
use Rattle.ap_procedure.specs.declared.token.Token.{Token}
use Rattle.ap_procedure.specs.Given.{job_of, state_of}
use Rattle.slab_order.specs.Numbered.{is_at}
use Rattle.ap_procedure.proofs.KeptLemmas.{state_shown}
use Rattle.ap_procedure.proofs.tokens.Tokens.state_of.Goals as goal

pub returns-in_err-key : goal.returns-in_err-key
returns-in_err-key c =
    let i = c.self.inside in
    let key : c.key_of.result ≡ find (is_at job_of i.slab c.args.job) i.order.items = rw (← c.as_slice.ensures.value) (c.key_of.ensures) in
    sym (subst (λ (s : List Token). state_of c.args.job s ≡ c.from_residual.result) c.self.view_is
    (state_shown i.slab i.order.items c.args.job c.key_of.result key ∙ rw (c.in_err-key.was, c.from_residual.ensures) refl))

pub returns : goal.returns
returns c =
    let i = c.self.inside in
    let key : c.key_of.result ≡ find (is_at job_of i.slab c.args.job) i.order.items = rw (← c.as_slice.ensures.value) (c.key_of.ensures) in
    let mapped : option_map (λ (t : Token). t.state) (get i.slab c.in_ok-key.key) ≡ c.map.result = search rules in
    sym (subst (λ (s : List Token). state_of c.args.job s ≡ c.map.result) c.self.view_is
    (state_shown i.slab i.order.items c.args.job c.key_of.result key ∙ rw (c.in_ok-key.was) mapped))
