use Rattle.std.proofs.Common.{◌≡◌, length, List, sym, subst, ◌∙◌}
use Rattle.ap_procedure.specs.declared.token.Token.{Token}
use Rattle.slab_order.proofs.NumberedLemmas.{length_shown}
use Rattle.ap_procedure.specs.Given.{job_of}
use Rattle.ap_procedure.proofs.tokens.Tokens.len.Goals as goal

pub returns-clause-len : goal.returns-clause-len
returns-clause-len c =
    subst (λ (s : List Token). c.len.result ≡ length s) c.self.view_is
    (c.len.ensures ∙ c.self.inside.order.ok.0 ∙ sym (length_shown job_of _ _ _ _ _ c.self.invariant))
