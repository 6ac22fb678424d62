-- The label goes into the event that was kept last.
use Rattle.std.proofs.Common.{◌≡◌, length, arith}
use Rattle.rendezvous_core.proofs.TurnLemmas.{label_kept}
use Rattle.rendezvous_core.proofs.turn.tell.Goals as goal

pub returns-clause-event : goal.returns-clause-event
returns-clause-event c =
    let place : c.len-place.result ≡ length c.args.events.now.items = grind arith in
    rw c.conclude.ensures.said
    (label_kept c.args.events.now.items c.push_reserved.new.self.items _ _ c.index_mut.result.now c.len-place.result _
    (rw c.found.ensures at c.push_reserved.ensures.items) place c.index_mut.ensures.value)
