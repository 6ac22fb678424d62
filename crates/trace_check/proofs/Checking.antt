-- The checker stands for the states that its verdicts lead to.
use Rattle.std.proofs.Common.{◌≡◌, ◌↔◌, ℕ, Bool, true, false, List, [], ◌∷◌, ◌++◌, Ok, Err, refl, sym, ap, subst, ◌∙◌, true≢false}
use Rattle.save_state_map.specs.Images.{ImageContents}
use Rattle.cpu_regs.specs.Registers.{Registers}
use Rattle.cpu_table.specs.Data.{SetupData}
use Rattle.sync_words.specs.declared.label.Label.{Label}
use Rattle.rendezvous_machine.specs.Machines.{Machine, beginning}
use Rattle.rendezvous_machine.specs.Rules.{Rule}
use Rattle.rendezvous_machine.specs.Effects.{effect}
use Rattle.rendezvous_machine.specs.Runs.{Said, IsRun, machine_after}
use Rattle.rendezvous_machine.proofs.Lists.{Standing, JobsFit}
use Rattle.rendezvous_machine.proofs.Once.{first_fit}
use Rattle.rendezvous_machine.proofs.Walks.{kept, after_both}
use Rattle.rendezvous_machine.proofs.Working.{fit_any}
use Rattle.serving_judge.proofs.Telling.{Tells}
use Rattle.trace_check.specs.Judged.{Judged, seen, first_judged}
use Rattle.trace_check.specs.Verdicts.{verdict, rule_of}
use Rattle.trace_check.specs.Afterwards.{after_label, after_verdict, accepted}
use Rattle.trace_check.specs.Stands.{IsReached, StandsFor, answer_by, Judges, AreAccepted}
use Rattle.trace_check.proofs.Rules.{rule_tells}
use Rattle.trace_check.proofs.Seeing.{seen_after}

pub begins : (d : SetupData) (registers : List Registers) (images : List ImageContents) → StandsFor d (first_judged d registers images) (beginning d registers images)
begins d registers images =
    record { reached = record { registers = registers; images = images; labels = []; is_run = tt; leads = refl }; seen_of = refl }

-- one more label of a run
run_push : (d : SetupData) (m : Machine) (es : List Said) (i : ℕ) (l : Label) → IsRun d m es → Rule d (machine_after d m es) i l → IsRun d m (es ++ (i, l) ∷ [])
run_push d m [] i l r q = (q, tt)
run_push d m (e ∷ es) i l r q = (r.0, run_push d (effect d m e.0 e.1) es i l r.1 q)

reached_after : (d : SetupData) (m : Machine) (i : ℕ) (l : Label) → Rule d m i l → IsReached d m → IsReached d (effect d m i l)
reached_after d m i l r h =
    record {
      registers = h.registers;
      images = h.images;
      labels = h.labels ++ (i, l) ∷ [];
      is_run = run_push d (beginning d h.registers h.images) h.labels i l h.is_run (subst (λ (n : Machine). Rule d n i l) (sym h.leads) r);
      leads = after_both d (beginning d h.registers h.images) h.labels ((i, l) ∷ []) ∙ ap (λ (n : Machine). effect d n i l) h.leads;
    }

fits : (std : Standing) (d : SetupData) (m : Machine) → IsReached d m → JobsFit d 0 m
fits std d m h =
    subst (λ (n : Machine). JobsFit d 0 n) h.leads
    (kept d (JobsFit d 0) (fit_any std d) (beginning d h.registers h.images) h.labels h.is_run (first_fit d h.registers h.images))

answers : (b : Bool) (rule : ℕ) {A : Type 0} → Tells b A → (answer_by b rule ≡ Ok tt) ↔ A
answers true rule h = (λ e. h.0 refl, λ a. refl)
answers false rule h = (λ e. absurd cc, λ a. let x : false ≡ true = h.1 a in absurd cc)

stays : (b : Bool) (rule : ℕ) (old new : Judged) → answer_by b rule ≡ Err (record { rule = rule }) → after_verdict b old new ≡ old
stays true rule old new e = absurd cc
stays false rule old new e = refl

changes : (b : Bool) (old new : Judged) → b ≡ true → after_verdict b old new ≡ new
changes true old new e = refl
changes false old new e = absurd cc

seen_judges : (std : Standing) (d : SetupData) (m : Machine) (i : ℕ) (l : Label) → IsReached d m → Judges d (seen d m) m i l
seen_judges std d m i l h =
    let fit = fits std d m h in
    let tells = rule_tells std d m i l fit in
    record {
      exact = answers (verdict (seen d m) i l) (rule_of l) tells;
      after = λ r. record {
        reached = reached_after d m i l r h;
        seen_of = changes (verdict (seen d m) i l) (seen d m) (after_label (seen d m) i l) (tells.1 r) ∙ sym (seen_after d m i l r fit);
      };
      stays = stays (verdict (seen d m) i l) (rule_of l) (seen d m) (after_label (seen d m) i l);
    }

pub judges : (std : Standing) (d : SetupData) (j : Judged) (m : Machine) (i : ℕ) (l : Label) → StandsFor d j m → Judges d j m i l
judges std d j m i l h = subst (λ (k : Judged). Judges d k m i l) (sym h.seen_of) (seen_judges std d m i l h.reached)

-- what is accepted from a state for which it stands is a run from there, and the other way round
are_run : (std : Standing) (d : SetupData) (j : Judged) (m : Machine) (es : List Said) → StandsFor d j m → AreAccepted j es → IsRun d m es
are_run std d j m [] h ok = tt
are_run std d j m (e ∷ es) h ok =
    let law = judges std d j m e.0 e.1 h in
    let rule = law.exact.0 ok.0 in
    (rule, are_run std d (accepted j e.0 e.1) (effect d m e.0 e.1) es (law.after rule) ok.1)

are_accepted : (std : Standing) (d : SetupData) (j : Judged) (m : Machine) (es : List Said) → StandsFor d j m → IsRun d m es → AreAccepted j es
are_accepted std d j m [] h run = tt
are_accepted std d j m (e ∷ es) h run =
    let law = judges std d j m e.0 e.1 h in
    (law.exact.1 run.0, are_accepted std d (accepted j e.0 e.1) (effect d m e.0 e.1) es (law.after run.0) run.1)

pub runs : (std : Standing) (d : SetupData) (registers : List Registers) (images : List ImageContents) (labels : List Said)
    → AreAccepted (first_judged d registers images) labels → IsRun d (beginning d registers images) labels
runs std d registers images labels ok = are_run std d (first_judged d registers images) (beginning d registers images) labels (begins d registers images) ok

pub leads : (std : Standing) (d : SetupData) (registers : List Registers) (images : List ImageContents) (labels : List Said)
    → IsRun d (beginning d registers images) labels → AreAccepted (first_judged d registers images) labels
leads std d registers images labels run = are_accepted std d (first_judged d registers images) (beginning d registers images) labels (begins d registers images) run
