-- The label is said, and the place goes on.
use Rattle.std.proofs.Common.{◌≡◌, ◌≤◌, ℕ, true, sym, ap, subst, ◌∙◌}
use Rattle.cpu_table.specs.Data.{data_of}
use Rattle.sync_words.specs.declared.label.Label.{Label}
use Rattle.serving_place.specs.declared.progress.Progress.{Progress}
use Rattle.serving_place.specs.declared.saying.Saying.{Saying}
use Rattle.serving_place.specs.Beginning.{program_of}
use Rattle.serving_place.specs.Serving.{tokens_out}
use Rattle.serving_place.specs.Forms.{Own}
use Rattle.serving_place.specs.Places.{Place, next}
use Rattle.serving_place.specs.Due.{due}
use Rattle.serving_place.specs.Progresses.{program_in, place_in, Goes}
use Rattle.serving_place.specs.Sayings.{Fits, label_in, operation_due}
use Rattle.serving_judge.specs.Tests.{accepts_own}
use Rattle.serving_judge.specs.Dues.{HasTokenRoom}
use Rattle.serving_judge.specs.Judging.{Judging}
use Rattle.serving_judge.proofs.Saying.{fits_now, said_now, goes_on}
use Rattle.serving_judge.proofs.judge.Judge.say.Goals as goal

pub say-requires-clause-fits : goal.say-requires-clause-fits
say-requires-clause-fits c =
    let p : Progress = c.self.inside.progress in
    let l : Label = c.args.label.now in
    let accepted : accepts_own (program_in p) (place_in p) l ≡ true =
    subst (λ (j : Judging). accepts_own (program_of j.setup) j.place l ≡ true) (sym c.self.view_is) c.requires.accepted in
    let room : HasTokenRoom l (operation_due (due (program_in p) (place_in p))) (tokens_out p.state) =
    subst (λ (j : Judging). HasTokenRoom l (operation_due (due (program_of j.setup) j.place)) (tokens_out j.place.state)) (sym c.self.view_is) c.requires.room in
    subst (λ (y : Saying). Fits y (operation_due (due (program_in p) (place_in p))) p.state) (sym c.saying_of.ensures)
    (fits_now (program_in p) (place_in p) l accepted room)

pub invariant_of-self : goal.invariant_of-self
invariant_of-self c =
    let p : Progress = c.self.inside.progress in
    let l : Label = c.args.label.now in
    let accepted : accepts_own (program_in p) (place_in p) l ≡ true =
    subst (λ (j : Judging). accepts_own (program_of j.setup) j.place l ≡ true) (sym c.self.view_is) c.requires.accepted in
    let room : HasTokenRoom l (operation_due (due (program_in p) (place_in p))) (tokens_out p.state) =
    subst (λ (j : Judging). HasTokenRoom l (operation_due (due (program_of j.setup) j.place)) (tokens_out j.place.state)) (sym c.self.view_is) c.requires.room in
    let same : label_in p.state.pool c.saying_of.result ≡ l = ap (label_in p.state.pool) c.saying_of.ensures ∙ said_now (program_in p) (place_in p) l accepted room in
    let place : place_in c.say.new.self ≡ next (program_in p) (place_in p) (Own l) =
    c.say.ensures.place ∙ ap (λ (m : Label). next (program_in p) (place_in p) (Own m)) same in
    let number : c.say.new.self.setup.processors ≡ p.setup.processors = ap (λ (q : Progress). q.setup.processors) c.say.ensures.stays in
    record {
      goes = subst (λ (n : ℕ). Goes n (place_in c.say.new.self)) (sym number)
          (subst (λ (q : Place). Goes p.setup.processors q) (sym place) (goes_on (program_in p) p.setup.processors (place_in p) l accepted room c.self.invariant.goes));
      room = subst (λ (n : ℕ). 4 ≤ n) (sym c.say.ensures.room) c.self.invariant.room;
    }

pub returns : goal.returns
returns c =
    let p : Progress = c.self.inside.progress in
    let l : Label = c.args.label.now in
    let accepted : accepts_own (program_in p) (place_in p) l ≡ true =
    subst (λ (j : Judging). accepts_own (program_of j.setup) j.place l ≡ true) (sym c.self.view_is) c.requires.accepted in
    let room : HasTokenRoom l (operation_due (due (program_in p) (place_in p))) (tokens_out p.state) =
    subst (λ (j : Judging). HasTokenRoom l (operation_due (due (program_of j.setup) j.place)) (tokens_out j.place.state)) (sym c.self.view_is) c.requires.room in
    let same : label_in p.state.pool c.saying_of.result ≡ l = ap (label_in p.state.pool) c.saying_of.ensures ∙ said_now (program_in p) (place_in p) l accepted room in
    let place : place_in c.say.new.self ≡ next (program_in p) (place_in p) (Own l) =
    c.say.ensures.place ∙ ap (λ (m : Label). next (program_in p) (place_in p) (Own m)) same in
    let new : ◌≡◌ {A = Judging} (record { setup = data_of c.say.new.self.setup; bsp = c.say.new.self.me; place = place_in c.say.new.self })
    (record { setup = data_of p.setup; bsp = p.me; place = next (program_in p) (place_in p) (Own l) }) =
    λ t. record { setup = data_of (c.say.ensures.stays t).setup; bsp = (c.say.ensures.stays t).me; place = place t } in
    new ∙ ap (λ (j : Judging). record j { place = next (program_of j.setup) j.place (Own l) }) c.self.view_is
