use Rattle.std.proofs.Common.{◌∙◌, arith}
use Rattle.cpu_program.proofs.CauseLemmas.{cause_there, cause_is}
use Rattle.cpu_program.proofs.identity.Identity.next_cause.Goals as goal

pub index-requires : goal.index-requires
index-requires c =
    let own = c.args.self.now in
    omega (arith, cause_there own.setup.causes own.me own.setup.visits c.args.begun own.causes.items own.by_visit c.requires, own.causes.ok.0)

pub returns : goal.returns
returns c =
    let own = c.args.self.now in
    c.index.ensures ∙ cause_is own.setup.causes own.me own.setup.visits c.args.begun c.index.result.now own.causes.items own.by_visit c.requires
