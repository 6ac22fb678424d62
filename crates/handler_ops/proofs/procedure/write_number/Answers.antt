-- The bytes are the low ones of the number.
use Rattle.std.proofs.Common.{◌≡◌, ℕ, List, ◌∙◌, ap, rules}
use Rattle.save_state_access.specs.Writing.{write_answer}
use Rattle.handler_ops.specs.Course.{low_bytes}
use Rattle.handler_ops.proofs.procedure.write_number.Goals as goal

pub returns-clause-status : goal.returns-clause-status
returns-clause-status c =
    let low : c.first_bytes.result.now ≡ low_bytes c.args.width c.args.number = search rules in
    c.write_register.ensures.status ∙ ap (λ (bytes : List ℕ). (write_answer c.args.image.now c.args.present c.args.reg bytes).status) low

pub returns-clause-image : goal.returns-clause-image
returns-clause-image c =
    let low : c.first_bytes.result.now ≡ low_bytes c.args.width c.args.number = search rules in
    c.write_register.ensures.image ∙ ap (λ (bytes : List ℕ). (write_answer c.args.image.now c.args.present c.args.reg bytes).image) low
