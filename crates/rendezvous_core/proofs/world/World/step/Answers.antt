-- The event was kept last, and it is handed back.
use Rattle.std.proofs.Common.{◌∙◌, ◌++◌, [], sym, ap, subst}
use Rattle.rendezvous_core.specs.declared.stepped.Stepped.{Stepped}
use Rattle.rendezvous_core.specs.Turns.{stepped_from}
use Rattle.rendezvous_core.specs.Worlds.{Replay, step, with_event, MakesNoEvent}
use Rattle.rendezvous_core.proofs.TurnLemmas.{stepped_again, stays_without}
use Rattle.rendezvous_core.proofs.world.World.step.Goals as goal

pub returns-clause-stepped : goal.returns-clause-stepped
returns-clause-stepped c =
    c.stepped.ensures
    ∙ ap (stepped_from c.advance-turned.result) c.deref.ensures.value
    ∙ ap (λ (r : Replay). stepped_from c.advance-turned.result r.events) c.self.view_is
    ∙ stepped_again (step c.args.self.now.world c.args.actor).0 c.args.self.now.events _ _ c.advance-turned.ensures.turned c.advance-turned.ensures.events

pub returns-clause-events : goal.returns-clause-events
returns-clause-events c = c.advance-turned.ensures.events ∙ ap (λ (s : Stepped). c.args.self.now.events ++ with_event s []) (sym (returns-clause-stepped c))

pub returns-clause-stays : goal.returns-clause-stays
returns-clause-stays c h =
    stays_without c.args.self.now _ c.args.actor c.advance-turned.ensures.processors c.advance-turned.ensures.world c.advance-turned.ensures.events c.advance-turned.ensures.room
    (subst MakesNoEvent (returns-clause-stepped c) h)
