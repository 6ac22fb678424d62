use Rattle.arrival.proofs.EntryLemmas.{only_the_claim_takes, entry_leaves_to}
use Rattle.arrival.proofs.EntryBounds.{wants_within, stays_within}
use Rattle.arrival.proofs.laws.entry_laws.Goals as goal

pub returns-clause-only_the_claim_takes : goal.returns-clause-only_the_claim_takes
returns-clause-only_the_claim_takes c = only_the_claim_takes

pub returns-clause-leaves_to : goal.returns-clause-leaves_to
returns-clause-leaves_to c = entry_leaves_to

pub returns-clause-wants_within : goal.returns-clause-wants_within
returns-clause-wants_within c = wants_within

pub returns-clause-stays_within : goal.returns-clause-stays_within
returns-clause-stays_within c = stays_within
