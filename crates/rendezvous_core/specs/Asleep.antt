-- Of which actors it is known that they make no event now.
use Rattle.std.specs.Prelude.{◌≡◌, ◌<◌, ℕ, Bool, true, false, List, length, replicate, slice_index_or, slice_set}
use Rattle.sync_words.specs.declared.access.Access.{Access}
use Rattle.sync_words.specs.declared.access.Access.TheVariants.{Look}
use Rattle.rendezvous_core.specs.declared.stepped.Stepped.{Stepped}
use Rattle.rendezvous_core.specs.declared.stepped.Stepped.TheVariants as stepped
use Rattle.rendezvous_core.specs.Worlds.{World, step, MakesNoEvent}

-- the actors without a flag make no event now
abbrev pub AreAsleep : List Bool → World → Type 0
AreAsleep awake w = (j : ℕ) → j < length awake → slice_index_or awake j true ≡ false → MakesNoEvent (step w j).0

-- an access that may change a word lets all be asked again; a look changes none
abbrev pub woken : Access → List Bool → List Bool
woken Look awake = awake
woken _ awake = replicate (length awake) true

-- after the step of an actor: one that makes no event need not be asked
abbrev pub noted : Stepped → ℕ → List Bool → List Bool
noted (stepped.Event e) actor awake = woken e.access awake
noted (stepped.Waiting found) actor awake = slice_set awake actor false
noted stepped.Off actor awake = slice_set awake actor false
