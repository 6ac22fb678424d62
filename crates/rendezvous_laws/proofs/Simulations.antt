-- A relation between worlds and machines that each step keeps, with labels that the machine allows: then the labels of every schedule
-- are a run, and at its end the relation holds.
use Rattle.std.proofs.Common.{ℕ, ◌≡◌, List, [], ◌∷◌, refl, sym, subst}
use Rattle.cpu_table.specs.Data.{SetupData}
use Rattle.sync_words.specs.declared.label.Label.{Label}
use Rattle.sync_words.specs.declared.label.Label.TheVariants as say
use Rattle.rendezvous_core.specs.declared.stepped.Stepped.{Stepped}
use Rattle.rendezvous_core.specs.declared.stepped.Stepped.TheVariants as stepped
use Rattle.rendezvous_core.specs.Worlds.{World, step, with_event, events_from, world_after, labels, with_label}
use Rattle.rendezvous_machine.specs.Machines.{Machine}
use Rattle.rendezvous_machine.specs.Rules.{Rule}
use Rattle.rendezvous_machine.specs.Effects.{effect}
use Rattle.rendezvous_machine.specs.Runs.{Said, IsRun, machine_after}

-- a step keeps the relation, and its label is one that the machine allows
abbrev pub KeptBy : SetupData → (World → Machine → Type 0) → Machine → ℕ → Stepped → World → Type 0
KeptBy d F m i (stepped.Event e) w = (e.actor ≡ i) × Rule d m i e.label × F w (effect d m i e.label)
KeptBy d F m i (stepped.Waiting found) w = F w m
KeptBy d F m i stepped.Off w = F w m

abbrev pub Kept : SetupData → (World → Machine → Type 0) → Machine → ℕ → Stepped × World → Type 0
Kept d F m i o = KeptBy d F m i o.0 o.1

abbrev pub EachStepKeeps : SetupData → (World → Machine → Type 0) → Type 0
EachStepKeeps d F = (i : ℕ) (w : World) (m : Machine) → F w m → Kept d F m i (step w i)

-- a label that the machine allows, in front of a run, and the machine after it
run_with_label : (d : SetupData) (m : Machine) (i : ℕ) (l : Label) (ls : List Said) → Rule d m i l → IsRun d (effect d m i l) ls → IsRun d m (with_label i l ls)
run_with_label d m i say.Silent ls h t = t
run_with_label d m i _ ls h t = (h, t)

machine_with_label : (d : SetupData) (m : Machine) (i : ℕ) (l : Label) (ls : List Said) → machine_after d m (with_label i l ls) ≡ machine_after d (effect d m i l) ls
machine_with_label d m i say.Silent ls = refl
machine_with_label d m i _ ls = refl

-- what was said is a run, and at its end the world and the machine belong together
pub record Ran (d : SetupData) (F : World → Machine → Type 0) (m : Machine) (ls : List Said) (w : World) : Type 0 where
  pub run : IsRun d m ls
  pub after : F w (machine_after d m ls)

module _ (d : SetupData) (F : World → Machine → Type 0) where
  ran_behind : (m : Machine) (i : ℕ) (rest : List ℕ) → ((w : World) (n : Machine) → F w n → Ran d F n (labels (events_from w rest)) (world_after w rest))
      → (st : Stepped) (w : World) → KeptBy d F m i st w → Ran d F m (labels (with_event st (events_from w rest))) (world_after w rest)
  ran_behind m i rest again (stepped.Event e) w k =
      let more = again w (effect d m i e.label) k.2 in
      let ls : List Said = labels (events_from w rest) in
      let P : ℕ → Type 0 = λ (j : ℕ). Ran d F m (with_label j e.label ls) (world_after w rest) in
      subst P (sym k.0) (record {
        run = run_with_label d m i e.label ls k.1 more.run;
        after = subst (λ (n : Machine). F (world_after w rest) n) (sym (machine_with_label d m i e.label ls)) more.after;
      })
  ran_behind m i rest again (stepped.Waiting found) w k = again w m k
  ran_behind m i rest again stepped.Off w k = again w m k

  pub ran_from : EachStepKeeps d F → (schedule : List ℕ) (w : World) (m : Machine) → F w m
      → Ran d F m (labels (events_from w schedule)) (world_after w schedule)
  ran_from keeps [] w m f = record { run = tt; after = f }
  ran_from keeps (i ∷ rest) w m f = ran_behind m i rest (ran_from keeps rest) (step w i).0 (step w i).1 (keeps i w m f)
