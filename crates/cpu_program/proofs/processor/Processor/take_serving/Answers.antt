use Rattle.std.proofs.Common.{◌∙◌, length, ap, subst, Option}
use Rattle.std.specs.Prelude.{IfSome}
use Rattle.handler_ops.specs.Course.{Desks}
use Rattle.handler_ops.specs.Sessions.{Session}
use Rattle.cpu_program.specs.Bounds.{HasProcessors}
use Rattle.cpu_program.proofs.KindLemmas.{answered_len}
use Rattle.cpu_program.proofs.WantLemmas.{serving_at_hand}
use Rattle.cpu_program.proofs.processor.Processor.take_serving.Goals as goal

pub serve_on-requires : goal.serve_on-requires
serve_on-requires c =
    record {
      own = c.requires.ready.own;
      held =
          ap (λ (held : Desks). length held) c.answer_on.ensures.desks ∙ answered_len c.in-Some.server.told c.args.found c.args.self.now.held.desks
          ∙ c.requires.ready.held;
      chair =
          ap (λ (s : Session). s.setup.processors) c.answer_on.ensures.after
          ∙ subst (λ (o : Option Session). IfSome o (HasProcessors c.args.self.now.identity.setup.processors)) c.in-Some.is c.requires.ready.chair;
    }

pub answer_on-requires-clause-at_hand : goal.answer_on-requires-clause-at_hand
answer_on-requires-clause-at_hand c = serving_at_hand c.args.self.now.identity.setup.processors c.args.self.now.chair c.in-Some.server c.args.self.now.held.desks c.in-Some.is c.requires.told
