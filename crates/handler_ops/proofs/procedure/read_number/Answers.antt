use Rattle.std.proofs.Common.{ℕ, List, take, replicate, ◌∙◌, ap}
use Rattle.std.proofs.lemmas.List.{take-replicate}
use Rattle.save_state_access.specs.Reading.{read_answer}
use Rattle.handler_ops.proofs.FirstBytes.{read_shows}
use Rattle.handler_ops.proofs.procedure.read_number.Goals as goal

pub returns-clause-number : goal.returns-clause-number
returns-clause-number c =
    c.read_u64.ensures
    ∙ read_shows c.args.image.now c.args.present c.args.id c.args.reg c.args.width (take c.args.width (replicate 256 0)) c.read_register-status.new.out c.read_register-status.result
    (take-replicate c.args.width 256 0 c.requires) c.read_register-status.ensures.status c.read_register-status.ensures.out c.read_register-status.ensures.refused

pub returns-clause-status : goal.returns-clause-status
returns-clause-status c =
    c.read_register-status.ensures.status
    ∙ ap (λ (xs : List ℕ). (read_answer c.args.image.now c.args.present c.args.id c.args.reg xs).status) (take-replicate c.args.width 256 0 c.requires)
