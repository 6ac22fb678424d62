use Rattle.std.proofs.Common.{sym, ap, ◌∙◌, ◌≡◌, ◌+◌, ℕ, subst}
use Rattle.std.proofs.Math.ListN.{set}
use Rattle.std.proofs.lemmas.List.{get_or_default}
use Rattle.trace_members.specs.Changes.{entered}
use Rattle.rendezvous_machine.specs.Machines.{Member, nobody}
use Rattle.trace_members.proofs.members.enter_at.Goals as goal

pub enter-requires : goal.enter-requires
enter-requires c =
    let same = get_or_default c.args.members.now c.args.at nobody c.index-members-at.result c.requires.there in
    subst (λ (x : Member). c.args.visit ≡ x.visits + 1) same c.requires.visit

pub returns : goal.returns
returns c =
    let same = get_or_default c.args.members.now c.args.at nobody c.index-members-at.result c.requires.there in
    ap (set c.args.members.now c.args.at) (c.enter.ensures ∙ ap (entered c.args.cause.now) (sym same))
