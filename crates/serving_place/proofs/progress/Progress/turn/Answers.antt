-- The walk behind its next turn.
use Rattle.std.proofs.Common.{sym, rules}
use Rattle.serving_place.specs.Progresses.{program_in, place_in}
use Rattle.serving_place.proofs.Turned.{turned_as}
use Rattle.serving_place.proofs.progress.Progress.turn.Goals as goal

pub returns-in-Some-handler_of : goal.returns-in-Some-handler_of
returns-in-Some-handler_of c =
    turned_as (program_in c.args.self.now) (place_in c.args.self.now).kinds _ c.args.walk.manage c.args.self.now.state c.in-Some.serial c.in-Some-handler_of.handler c.next.new.self (search rules)
    (sym (rw (c.registrations-2.ensures) at c.in-Some.ensures.turn)) (sym (rw (c.registrations-in-Some.ensures) at c.in-Some-handler_of.ensures)) c.in-Some.ensures.moved
