-- What the words keep.
use Rattle.std.specs.Prelude.{◌≤◌}
use Rattle.sync_words.specs.declared.access.TheConstants.{LOCKED}
use Rattle.rendezvous_core.specs.Worlds.{Words}
use Rattle.rendezvous_core.specs.declared.words.Words.TheInside.{Inside}

abbrev pub words_of : Inside → Words
words_of w =
    record {
      counter = w.counter;
      bsp = w.bsp;
      inside = w.inside;
      insync = w.insync;
      source = w.source;
      except = w.except;
      pend = w.pend;
      present = w.present;
      run = w.run;
      busy = w.busy;
    }

-- those of which there is one fit a word
pub record FitsEach (w : Inside) : Type 0 where
  pub counter : w.counter ≤ LOCKED
  pub bsp : w.bsp ≤ LOCKED
  pub inside : w.inside ≤ LOCKED
  pub insync : w.insync ≤ LOCKED
  pub source : w.source ≤ LOCKED
  pub except : w.except ≤ LOCKED
