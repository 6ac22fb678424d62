use Rattle.std.proofs.Common.{sym, ap, ◌∙◌, true}
use Rattle.std.proofs.Math.ListN.{set}
use Rattle.std.proofs.lemmas.List.{get_or_default}
use Rattle.rendezvous_machine.specs.declared.phase.Phase.TheVariants.{Gone}
use Rattle.rendezvous_machine.specs.Machines.{Member, nobody}
use Rattle.trace_members.proofs.members.depart_at.Goals as goal

pub returns : goal.returns
returns c =
    let same = get_or_default c.args.members.now c.args.at nobody c.index-members-at.result c.requires in
    ap (set c.args.members.now c.args.at) (c.depart.ensures ∙ ap (λ (x : Member). record x { phase = Gone; has_departed = true }) (sym same))
