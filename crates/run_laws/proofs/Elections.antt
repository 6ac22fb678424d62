-- What a boot processor says stands in a session that began with its election.
use Rattle.std.proofs.Common.{◌≡◌, ℕ, true, List, [], ◌∷◌, ◌++◌, IfSome, IsSomeAnd, Option, Some, None, refl, sym, subst, true≢false}
use Rattle.cpu_table.specs.Data.{SetupData}
use Rattle.sync_words.specs.declared.label.Label.{Label}
use Rattle.sync_words.specs.declared.label.Label.TheVariants as say
use Rattle.rendezvous_machine.specs.Machines.{Machine, Session, IsLed}
use Rattle.rendezvous_machine.specs.Listed.{place_of, is_over}
use Rattle.rendezvous_machine.specs.Rules.{Rule}
use Rattle.rendezvous_machine.specs.Effects.{effect}
use Rattle.rendezvous_machine.specs.Runs.{Said, IsRun, machine_after}
use Rattle.rendezvous_machine.specs.Histories.{is_leading, HasSaid}
use Rattle.rendezvous_machine.proofs.Walks.{front_of, rest_of, history, later, now}
use Rattle.rendezvous_machine.proofs.Changes.{step_of, session_after, session_is, without_rule}

abbrev Elected : List Said → Session → Type 0
Elected past s = HasSaid s.bsp say.Elect past

elected_after : (d : SetupData) (past : List Said) (m : Machine) (i : ℕ) (l : Label) → IfSome m.session (Elected past)
    → IfSome (session_after (is_over (place_of d m)) i l m.session) (Elected (past ++ (i, l) ∷ []))
elected_after d past m i say.Elect h = now i say.Elect past
elected_after d past m i say.End h = tt
elected_after d past m i l h =
    without_rule m.session (Elected past) (Elected (past ++ (i, l) ∷ [])) (step_of (is_over (place_of d m)) i l)
    (λ s b. later s.bsp say.Elect past (i, l) refl b) h

elected_step : (d : SetupData) (past : List Said) (m : Machine) (i : ℕ) (l : Label) → Rule d m i l → IfSome m.session (Elected past)
    → IfSome (effect d m i l).session (Elected (past ++ (i, l) ∷ []))
elected_step d past m i l r h = subst (λ o. IfSome o (Elected (past ++ (i, l) ∷ []))) (sym (session_is d m i l)) (elected_after d past m i l h)

-- the actor of a label that only a boot processor says leads the session
leader : (o : Option Session) (i : ℕ) (F : Session → Type 0) → IsSomeAnd o (λ s. (s.bsp ≡ i) × F s) → IsSomeAnd o (λ s. s.bsp ≡ i)
leader None i F h = h
leader (Some s) i F h = h.0

leads : (d : SetupData) (m : Machine) (j : ℕ) (l : Label) → is_leading l ≡ true → Rule d m j l → IsLed m j
leads d m j say.Silent n r = absurd (true≢false (sym n))
leads d m j (say.Excepted e) n r = absurd (true≢false (sym n))
leads d m j (say.Wave w) n r = absurd (true≢false (sym n))
leads d m j say.Enter n r = absurd (true≢false (sym n))
leads d m j say.Turn n r = absurd (true≢false (sym n))
leads d m j say.Arrive n r = absurd (true≢false (sym n))
leads d m j say.Late n r = absurd (true≢false (sym n))
leads d m j say.Elect n r = absurd (true≢false (sym n))
leads d m j say.Quit n r = absurd (true≢false (sym n))
leads d m j say.Report n r = absurd (true≢false (sym n))
leads d m j (say.Run k x S) n r = absurd (true≢false (sym n))
leads d m j say.Depart n r = absurd (true≢false (sym n))
leads d m j (say.Resume how) n r = absurd (true≢false (sym n))
leads d m j say.Off n r = absurd (true≢false (sym n))
leads d m j (say.Gather e) n r = leader m.session j _ r.0
leads d m j (say.Ready k) n r = leader m.session j _ r.0
leads d m j (say.Close k) n r = leader m.session j _ r.0
leads d m j (say.Read c register width x S) n r = leader m.session j _ r.0
leads d m j (say.Write c register width x S) n r = leader m.session j _ r.0
leads d m j (say.Refuse c cause) n r = leader m.session j _ r.0
leads d m j (say.Start c k p a) n r = leader m.session j _ r.0
leads d m j (say.Collect c) n r = leader m.session j _ r.0
leads d m j say.Done n r = leader m.session j _ r.0
leads d m j (say.Release c) n r = leader m.session j _ r.0
leads d m j say.End n r = leader m.session j _ r.0
leads d m j l n r = leader m.session j _ r

by_leader : (o : Option Session) (i : ℕ) (past : List Said) → IsSomeAnd o (λ s. s.bsp ≡ i) → IfSome o (Elected past) → HasSaid i say.Elect past
by_leader None i past h e = absurd h
by_leader (Some s) i past h e = subst (λ k. HasSaid k say.Elect past) h e

pub elected : (d : SetupData) (m : Machine) (before after : List Said) (i : ℕ) (l : Label) → m.session ≡ None
    → IsRun d m (before ++ ((i, l) ∷ after)) → is_leading l ≡ true → HasSaid i say.Elect before
elected d m before after i l none r n =
    by_leader (machine_after d m before).session i before (leads d (machine_after d m before) i l n (rest_of d m before ((i, l) ∷ after) r).0)
    (history d (λ past x. IfSome x.session (Elected past)) (elected_step d) [] m before (front_of d m before ((i, l) ∷ after) r)
    (subst (λ o. IfSome o (Elected [])) (sym none) tt))
