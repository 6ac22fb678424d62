-- For which states of the rendezvous machine the checker stands, and what its answers say of them.
use Rattle.std.specs.Prelude.{◌≡◌, ◌↔◌, ℕ, Bool, true, false, List, [], ◌∷◌, Result, Ok, Err}
use Rattle.save_state_map.specs.Images.{ImageContents}
use Rattle.cpu_regs.specs.Registers.{Registers}
use Rattle.cpu_table.specs.Data.{SetupData}
use Rattle.sync_words.specs.declared.label.Label.{Label}
use Rattle.rendezvous_machine.specs.Machines.{Machine, beginning}
use Rattle.rendezvous_machine.specs.Rules.{Rule}
use Rattle.rendezvous_machine.specs.Effects.{effect}
use Rattle.rendezvous_machine.specs.Runs.{Said, IsRun, machine_after}
use Rattle.trace_check.specs.Judged.{Judged, seen}
use Rattle.trace_check.specs.Verdicts.{verdict, rule_of}
use Rattle.trace_check.specs.Afterwards.{accepted}
use Rattle.trace_check.specs.declared.broken.Broken.{Broken}

-- some run leads to this state
pub record IsReached (d : SetupData) (m : Machine) : Type 0 where
  pub registers : List Registers
  pub images : List ImageContents
  pub labels : List Said
  pub is_run : IsRun d (beginning d registers images) labels
  pub leads : machine_after d (beginning d registers images) labels ≡ m

-- it is all that is kept of the state
pub record StandsFor (d : SetupData) (j : Judged) (m : Machine) : Type 0 where
  pub reached : IsReached d m
  pub seen_of : j ≡ seen d m

-- the answer
abbrev pub answer_by : Bool → ℕ → Result (Unit {0}) Broken
answer_by true rule = Ok tt
answer_by false rule = Err (record { rule = rule })

abbrev pub answer : Judged → ℕ → Label → Result (Unit {0}) Broken
answer j i l = answer_by (verdict j i l) (rule_of l)

-- The answer to a label is Ok exactly where its rule holds, and the checker stands afterwards for what the label makes of the
-- state.
pub record Judges (d : SetupData) (j : Judged) (m : Machine) (i : ℕ) (l : Label) : Type 0 where
  pub exact : (answer j i l ≡ Ok tt) ↔ Rule d m i l
  pub after : Rule d m i l → StandsFor d (accepted j i l) (effect d m i l)
  pub stays : answer j i l ≡ Err (record { rule = rule_of l }) → accepted j i l ≡ j

-- it accepts each of the labels, one after the other
abbrev pub AreAccepted : Judged → List Said → Type 0
AreAccepted j [] = Unit {0}
AreAccepted j (e ∷ es) = (answer j e.0 e.1 ≡ Ok tt) × AreAccepted (accepted j e.0 e.1) es
