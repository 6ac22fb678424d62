use Rattle.std.proofs.Common.{◌≡◌, ◌∷◌, refl, arith, sym, subst}
use Rattle.handler_ops.specs.Procedures.{job_on}
use Rattle.sync_words.specs.declared.label.Label.TheVariants as say
use Rattle.rendezvous_machine.specs.Effects.{given}
use Rattle.rendezvous_machine.specs.Machines.{beginning, member}
use Rattle.rendezvous_machine.specs.Runs.{machine_after}
use Rattle.rendezvous_machine.proofs.Waves.{one_session, one_leader, other_wave}
use Rattle.rendezvous_machine.proofs.Lawful.{refused, called, none_called, waited, all_reported, first_all}
use Rattle.rendezvous_machine.proofs.Walks.{kept, after_both}
use Rattle.rendezvous_machine.proofs.Lists.{Standing, JobsFit}
use Rattle.rendezvous_machine.proofs.Working.{fit_any, whole_in}
use Rattle.rendezvous_machine.proofs.Once.{runs_once, answers, first_fit, first_length}
use Rattle.rendezvous_machine.proofs.laws.run_laws.Goals as goal

pub returns : goal.returns
returns c =
    let law = c.standing.ensures in
    let std : Standing = record { begins = law.begins; follows = law.follows; whole = law.whole } in
    record {
      sessions = λ d g ms. one_session d (beginning d g ms);
      led = λ d g ms. one_leader d (beginning d g ms);
      waves = λ d g ms before middle after i j w v. other_wave d (beginning d g ms) before middle after i j w v (omega arith);
      refused = λ d g ms. refused d (beginning d g ms);
      called = λ d g ms before after i h. called d (beginning d g ms) before after i h refl;
      calm = λ d g ms. none_called d (beginning d g ms);
      reported = λ d g ms before after i j w. all_reported d (beginning d g ms) before after i j w refl (first_all d g ms) (first_all d g ms);
      waited = λ d g ms before after i n. waited d (beginning d g ms) before after i n refl;
      once = λ d g ms before middle after i k y j p a e f. runs_once std d (beginning d g ms) before middle after i k y j p a (first_fit d g ms) (first_length g ms d.processors e f);
      answered = λ d g ms before middle after i y j p a x S e f r n.
          subst (λ z. (job_on d.procedures (given j p a) (member z y).image).answer ≡ (x, S)) (sym (after_both d (beginning d g ms) before ((i, say.Start y j p a) ∷ middle)))
          (answers std d (beginning d g ms) before middle after i y j p a x S (first_fit d g ms) (first_length g ms d.processors e f) r n);
      whole = λ d g ms es r. let m = machine_after d (beginning d g ms) es in whole_in std d 0 m m.session (kept d (JobsFit d 0) (fit_any std d) (beginning d g ms) es r (first_fit d g ms));
    }
