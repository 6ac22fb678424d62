-- What was told fits what is due, and an answer keeps what a progress keeps.
use Rattle.std.proofs.Common.{◌∙◌, sym, ap, subst}
use Rattle.serving_place.specs.declared.progress.Progress.{Progress}
use Rattle.serving_place.specs.Due.{due}
use Rattle.serving_place.specs.Sayings.{operation_due}
use Rattle.handler_ops.specs.Course.{Course, label_of}
use Rattle.handler_ops.specs.Sessions.{Session, session_in, course_in}
use Rattle.serving_place.specs.Progresses.{Goes, IsGoing, program_in, setting_in, place_in}
use Rattle.handler_ops.specs.Answering.{HasTold, RowFits, move_as}
use Rattle.handler_ops.proofs.Going.{told_fits, answer_goes}
use Rattle.handler_ops.proofs.server.Server.answer_on.Goals as goal

pub answer-requires-clause-fits : goal.answer-requires-clause-fits
answer-requires-clause-fits c =
    subst (λ (p : Progress). RowFits c.self.inside.told (operation_due (due (program_in p) (place_in p))) p.state) (sym c.deref_mut.ensures.value)
    (told_fits (session_in c.self.inside.progress.value c.self.inside.told) (subst (λ (s : Session). HasTold s) (sym c.self.view_is) c.requires.told))

pub invariant_of-self : goal.invariant_of-self
invariant_of-self c =
    let p = c.deref_mut.result.now in
    let same = c.deref_mut.ensures.value in
    let going = subst IsGoing (sym same) c.self.invariant in
    let told = subst (λ (q : Progress). HasTold (session_in q c.self.inside.told)) (sym same) (subst (λ (s : Session). HasTold s) (sym c.self.view_is) c.requires.told) in
    let fits = told_fits (session_in p c.self.inside.told) told in
    let goes = answer_goes (setting_in p) (course_in p) c.self.inside.told c.args.found c.args.held.now.desks p.setup.processors fits going.goes in
    record {
      goes =
          subst (λ n. Goes n (place_in c.answer.new.progress)) (sym (ap (λ (q : Progress). q.setup.processors) c.answer.ensures.stays))
          (subst (λ (k : Course). Goes p.setup.processors k.place) (sym c.answer.ensures.course) goes);
      room = rw (c.answer.ensures.room) going.room;
    }

pub returns-clause-said : goal.returns-clause-said
returns-clause-said c =
    c.answer.ensures.said
    ∙ ap (λ (p : Progress). label_of (move_as (session_in p c.self.inside.told) c.args.found c.args.held.now.desks)) c.deref_mut.ensures.value
    ∙ ap (λ (s : Session). label_of (move_as s c.args.found c.args.held.now.desks)) c.self.view_is
