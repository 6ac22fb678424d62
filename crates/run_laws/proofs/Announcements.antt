-- A wave that is served was announced by the chipset.
use Rattle.std.proofs.Common.{◌≡◌, ◌<◌, ℕ, List, [], ◌∷◌, ◌++◌, IsSomeAnd, Option, Some, None, refl, sym, ap, subst, ◌∙◌, arith, append_assoc}
use Rattle.cpu_table.specs.Data.{SetupData}
use Rattle.sync_words.specs.declared.label.Label.{Label}
use Rattle.sync_words.specs.declared.label.Label.TheVariants as say
use Rattle.rendezvous_machine.specs.Machines.{Machine, Session}
use Rattle.rendezvous_machine.specs.Rules.{Rule}
use Rattle.rendezvous_machine.specs.Effects.{effect}
use Rattle.rendezvous_machine.specs.Runs.{Said, IsRun, machine_after}
use Rattle.rendezvous_machine.proofs.Walks.{front_of, rest_of, history}
use Rattle.run_laws.specs.Facts.{HasEverSaid}

said_later : (i : ℕ) (l : Label) (past : List Said) (e : Said) → HasEverSaid i l past → HasEverSaid i l (past ++ e ∷ [])
said_later i l past e h =
    record { front = h.front; back = h.back ++ e ∷ []; whole = ap (λ xs. xs ++ e ∷ []) h.whole ∙ append_assoc h.front ((i, l) ∷ h.back) (e ∷ []) }

said_now : (i : ℕ) (l : Label) (past : List Said) → HasEverSaid i l (past ++ (i, l) ∷ [])
said_now i l past = record { front = past; back = []; whole = refl }

never : 0 < 0 → ⊥
never p = omega arith

-- the wave that raised the interrupt was announced
abbrev IsAnnounced : SetupData → List Said → ℕ → Type 0
IsAnnounced d past w = 0 < w → HasEverSaid d.processors (say.Wave w) past

announced_step : (d : SetupData) (past : List Said) (m : Machine) (i : ℕ) (l : Label) → Rule d m i l → IsAnnounced d past m.source
    → IsAnnounced d (past ++ (i, l) ∷ []) (effect d m i l).source
announced_step d past m i (say.Wave w) r h = λ p.
    subst (λ k. HasEverSaid k (say.Wave w) (past ++ (i, say.Wave w) ∷ [])) r.0.0 (said_now i (say.Wave w) past)
announced_step d past m i (say.Served w) r h = λ p. absurd (never p)
announced_step d past m i l r h = λ p. said_later d.processors (say.Wave m.source) past (i, l) (h p)

served_is : (o : Option Session) (i w v : ℕ) → IsSomeAnd o (λ s. (s.bsp ≡ i) × ((s.served ≡ None) × (w ≡ v))) → w ≡ v
served_is None i w v h = absurd h
served_is (Some s) i w v h = h.1.1

pub announced : (d : SetupData) (m : Machine) (before after : List Said) (i w : ℕ) → m.source ≡ 0
    → IsRun d m (before ++ ((i, say.Served w) ∷ after)) → 0 < w → HasEverSaid d.processors (say.Wave w) before
announced d m before after i w none r p =
    let last = machine_after d m before in
    let same : w ≡ last.source = served_is last.session i w last.source (rest_of d m before ((i, say.Served w) ∷ after) r).0 in
    let told = history d (λ past x. IsAnnounced d past x.source) (announced_step d) [] m before (front_of d m before ((i, say.Served w) ∷ after) r)
    (subst (IsAnnounced d []) (sym none) (λ q. absurd (never q))) in
    subst (λ k. IsAnnounced d before k) (sym same) told p
