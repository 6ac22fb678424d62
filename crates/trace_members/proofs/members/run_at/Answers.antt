use Rattle.std.proofs.Common.{sym, ap, ◌∙◌}
use Rattle.std.proofs.Math.ListN.{set}
use Rattle.std.proofs.lemmas.List.{get_or_default}
use Rattle.cpu_table.specs.Data.{data_of}
use Rattle.rendezvous_machine.specs.Effects.{worked}
use Rattle.rendezvous_machine.specs.Machines.{nobody}
use Rattle.trace_members.proofs.members.run_at.Goals as goal

pub returns : goal.returns
returns c =
    let same = get_or_default c.args.members.now c.args.at nobody c.index-members-at.result c.requires in
    ap (set c.args.members.now c.args.at) (c.run.ensures ∙ ap (worked (data_of c.args.setup.now) c.args.answer) (sym same))
