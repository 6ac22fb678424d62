use Rattle.std.proofs.Common.{◌∷◌, refl}
use Rattle.sync_words.specs.declared.label.Label.TheVariants as say
use Rattle.rendezvous_machine.specs.Machines.{beginning}
use Rattle.rendezvous_machine.proofs.Walks.{front_of, rest_of}
use Rattle.rendezvous_machine.proofs.Lawful.{first_all}
use Rattle.rendezvous_machine.proofs.Lists.{Standing}
use Rattle.rendezvous_machine.proofs.Once.{first_fit, first_length}
use Rattle.run_laws.proofs.Elections.{elected}
use Rattle.run_laws.proofs.Announcements.{announced}
use Rattle.run_laws.proofs.Enclosures.{reported}
use Rattle.run_laws.proofs.GivenJobs.{ran, idle, first_told}
use Rattle.run_laws.proofs.Causes.{explained, given_to, first_running}
use Rattle.run_laws.proofs.labels.label_laws.Goals as goal

pub returns : goal.returns
returns c =
    let law = c.standing.ensures in
    let std : Standing = record { begins = law.begins; follows = law.follows; whole = law.whole } in
    record {
      elected = λ d g ms before after i l. elected d (beginning d g ms) before after i l refl;
      announced = λ d g ms before after i w. announced d (beginning d g ms) before after i w refl;
      reported = λ d g ms before after i j w. reported d (beginning d g ms) before after i j w refl (first_all d g ms) (first_all d g ms);
      explained = λ d g ms before after i x cause r.
          explained std d (beginning d g ms) before (first_fit d g ms) (first_all d g ms) (first_told d g ms) (first_running d g ms)
          (front_of d (beginning d g ms) before ((i, say.Refuse x cause) ∷ after) r) i x cause (rest_of d (beginning d g ms) before ((i, say.Refuse x cause) ∷ after) r).0;
      other = λ d g ms before after i x j p a r.
          (given_to std d (beginning d g ms) before (first_fit d g ms) (first_all d g ms) (first_told d g ms) (first_running d g ms)
          (front_of d (beginning d g ms) before ((i, say.Start x j p a) ∷ after) r) i x j p a (rest_of d (beginning d g ms) before ((i, say.Start x j p a) ∷ after) r).0).0;
      present = λ d g ms before after i x j p a r.
          (given_to std d (beginning d g ms) before (first_fit d g ms) (first_all d g ms) (first_told d g ms) (first_running d g ms)
          (front_of d (beginning d g ms) before ((i, say.Start x j p a) ∷ after) r) i x j p a (rest_of d (beginning d g ms) before ((i, say.Start x j p a) ∷ after) r).0).1;
      idle = λ d g ms before after i x j p a n e f. idle std d (beginning d g ms) before after i x j p a n (first_fit d g ms) (first_length g ms d.processors e f);
      ran = λ d g ms before after x j answer S. ran std d (beginning d g ms) before after x j answer S (first_fit d g ms) (first_told d g ms);
    }
