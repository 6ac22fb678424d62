-- What lies on the words, as it is kept.
use Rattle.rendezvous_core.specs.Worlds.{Lying}
use Rattle.rendezvous_core.specs.declared.lying.Lying.TheInside.{Inside}

abbrev pub lying_in : Inside → Lying
lying_in l = record { bsp = l.bsp; present = l.present; run = l.run; busy = l.busy }
