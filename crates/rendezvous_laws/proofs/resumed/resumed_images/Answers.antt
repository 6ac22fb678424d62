use Rattle.rendezvous_laws.proofs.Resumes.{last_resumed}
use Rattle.rendezvous_laws.proofs.resumed.resumed_images.Goals as goal

pub returns : goal.returns
returns c = record { last = last_resumed }
