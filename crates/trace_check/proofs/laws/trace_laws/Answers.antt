use Rattle.rendezvous_machine.proofs.Lists.{Standing}
use Rattle.trace_check.proofs.Checking.{begins, judges, runs, leads}
use Rattle.trace_check.proofs.laws.trace_laws.Goals as goal

pub returns-clause-begins : goal.returns-clause-begins
returns-clause-begins c = begins

pub returns-clause-judges : goal.returns-clause-judges
returns-clause-judges c =
    let law = c.standing.ensures in
    let std : Standing = record { begins = law.begins; follows = law.follows; whole = law.whole } in
    judges std

pub returns-clause-runs : goal.returns-clause-runs
returns-clause-runs c =
    let law = c.standing.ensures in
    let std : Standing = record { begins = law.begins; follows = law.follows; whole = law.whole } in
    runs std

pub returns-clause-leads : goal.returns-clause-leads
returns-clause-leads c =
    let law = c.standing.ensures in
    let std : Standing = record { begins = law.begins; follows = law.follows; whole = law.whole } in
    leads std
