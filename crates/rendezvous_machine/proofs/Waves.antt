-- Waves are served once, and sessions don't overlap.
use Rattle.std.proofs.Common.{◌≡◌, ◌≢◌, ◌<◌, ◌≤◌, ◌⊎◌, ℕ, true, false, List, ◌∷◌, ◌++◌, IsSomeAnd, Option, Some, None, is_some, refl, sym, subst, inl, inr, ⊎_elim, arith, ◌∙◌, true≢false}
use Rattle.std.specs.Option.{option_map}
use Rattle.cpu_table.specs.Data.{SetupData}
use Rattle.sync_words.specs.declared.label.Label.{Label}
use Rattle.sync_words.specs.declared.label.Label.TheVariants as say
use Rattle.rendezvous_machine.specs.Machines.{Machine, Session, IsLed}
use Rattle.rendezvous_machine.specs.Listed.{place_of, is_over}
use Rattle.rendezvous_machine.specs.Rules.{Rule}
use Rattle.rendezvous_machine.specs.Effects.{effect}
use Rattle.rendezvous_machine.specs.Runs.{Said, IsRun, machine_after}
use Rattle.rendezvous_machine.specs.Histories.{is_end, has_end, is_leading}
use Rattle.rendezvous_machine.proofs.Walks.{rest_of, front_of, either, kept, kept_open}
use Rattle.rendezvous_machine.proofs.Changes.{session_after, session_is, step_of, there}

-- the source is no wave that is still to come
abbrev pub IsKnown : Machine → Type 0
IsKnown m = m.source ≤ m.waves

pub known : (d : SetupData) (m : Machine) (i : ℕ) (l : Label) → Rule d m i l → IsKnown m → IsKnown (effect d m i l)
known d m i (say.Wave w) r h = omega arith
known d m i (say.Served w) r h = omega arith
known d m i _ r h = h

-- the wave was announced, and the source is another
abbrev pub IsPast : ℕ → Machine → Type 0
IsPast w m = (w ≤ m.waves) × ((m.source ≡ 0) ⊎ (w < m.source))

past : (w : ℕ) (d : SetupData) (m : Machine) (i : ℕ) (l : Label) → Rule d m i l → IsPast w m → IsPast w (effect d m i l)
past w d m i (say.Wave v) r h = let e = r.2 in let k = h.0 in (omega arith, inr (omega arith))
past w d m i (say.Served v) r h = (h.0, inl refl)
past w d m i _ r h = h

source_is : (o : Option Session) (i : ℕ) (w v : ℕ) → IsSomeAnd o (λ s. (s.bsp ≡ i) × ((s.served ≡ None) × (w ≡ v))) → w ≡ v
source_is None i w v h = absurd h
source_is (Some s) i w v h = h.1.1

pub other_wave : (d : SetupData) (m : Machine) (before middle after : List Said) (i j w v : ℕ) → IsKnown m
    → IsRun d m (before ++ ((i, say.Served w) ∷ (middle ++ ((j, say.Served v) ∷ after)))) → 0 < w → v ≢ w
other_wave d m before middle after i j w v k r positive e =
    let first = machine_after d m before in
    let r1 = rest_of d m before ((i, say.Served w) ∷ (middle ++ ((j, say.Served v) ∷ after))) r in
    let known_then : IsKnown first = kept d IsKnown (known d) m before (front_of d m before _ r) k in
    let w_is : w ≡ first.source = source_is first.session i w first.source r1.0 in
    let second = effect d first i (say.Served w) in
    let r2 = rest_of d second middle ((j, say.Served v) ∷ after) r1.1 in
    let p : IsPast w (machine_after d second middle) =
    kept d (IsPast w) (past w d) second middle (front_of d second middle ((j, say.Served v) ∷ after) r1.1) (omega arith, inl refl) in
    let v_is : v ≡ (machine_after d second middle).source = source_is (machine_after d second middle).session j v (machine_after d second middle).source r2.0 in
    ⊎_elim (λ (z : (machine_after d second middle).source ≡ 0). omega arith) (λ (z : w < (machine_after d second middle).source). omega arith) p.1

-- a session stays until it ends
abbrev HasSession : Machine → Type 0
HasSession m = is_some m.session ≡ true

stays_after : (l : Label) (i : ℕ) (d : SetupData) (m : Machine) → is_end l ≡ false → HasSession m → is_some (session_after (is_over (place_of d m)) i l m.session) ≡ true
stays_after say.Elect i d m n h = refl
stays_after say.End i d m n h = absurd (true≢false n)
stays_after l i d m n h = there m.session (step_of (is_over (place_of d m)) i l) h

stays : (d : SetupData) (m : Machine) (i : ℕ) (l : Label) → is_end l ≡ false → Rule d m i l → HasSession m → HasSession (effect d m i l)
stays d m i l n r h = subst (λ o. is_some o ≡ true) (sym (session_is d m i l)) (stays_after l i d m n h)

none_there : (o : Option Session) → o ≡ None → is_some o ≡ true → ⊥
none_there None e h = cc
none_there (Some s) e h = cc

pub one_session : (d : SetupData) (m : Machine) (before middle after : List Said) (i j : ℕ)
    → IsRun d m (before ++ ((i, say.Elect) ∷ (middle ++ ((j, say.Elect) ∷ after)))) → has_end middle ≡ true
one_session d m before middle after i j r =
    let first = machine_after d m before in
    let r1 = rest_of d m before ((i, say.Elect) ∷ (middle ++ ((j, say.Elect) ∷ after))) r in
    let second = effect d first i say.Elect in
    let r2 = rest_of d second middle ((j, say.Elect) ∷ after) r1.1 in
    either (has_end middle) (λ e. e)
    (λ n. absurd (none_there (machine_after d second middle).session r2.0.1
    (kept_open d HasSession (stays d) second middle n (front_of d second middle ((j, say.Elect) ∷ after) r1.1) refl)))

-- one boot processor leads the session
led_kept : (o : Option Session) (i : ℕ) (f : Session → Session) → ((s : Session) → (f s).bsp ≡ s.bsp) → IsSomeAnd o (λ s. s.bsp ≡ i) → IsSomeAnd (option_map f o) (λ s. s.bsp ≡ i)
led_kept None i f e h = h
led_kept (Some s) i f e h = e s ∙ h

no_other : (o : Option Session) (i : ℕ) → o ≡ None → IsSomeAnd o (λ s. s.bsp ≡ i) → ⊥
no_other None i e h = h
no_other (Some s) i e h = cc

led_after : (d : SetupData) (m : Machine) (i k : ℕ) (l : Label) → is_end l ≡ false → Rule d m k l → IsLed m i
    → IsSomeAnd (session_after (is_over (place_of d m)) k l m.session) (λ s. s.bsp ≡ i)
led_after d m i k say.Elect n r h = absurd (no_other m.session i r.1 h)
led_after d m i k say.End n r h = absurd (true≢false n)
led_after d m i k l n r h = led_kept m.session i (step_of (is_over (place_of d m)) k l) (λ s. refl) h

led_step : (d : SetupData) (i : ℕ) (m : Machine) (k : ℕ) (l : Label) → is_end l ≡ false → Rule d m k l → IsLed m i → IsLed (effect d m k l) i
led_step d i m k l n r h = subst (λ o. IsSomeAnd o (λ s. s.bsp ≡ i)) (sym (session_is d m k l)) (led_after d m i k l n r h)

leader : (o : Option Session) (i : ℕ) (F : Session → Type 0) → IsSomeAnd o (λ s. (s.bsp ≡ i) × F s) → IsSomeAnd o (λ s. s.bsp ≡ i)
leader None i F h = h
leader (Some s) i F h = h.0

leads : (d : SetupData) (m : Machine) (j : ℕ) (l : Label) → is_leading l ≡ true → Rule d m j l → IsLed m j
leads d m j say.Silent n r = absurd (true≢false (sym n))
leads d m j (say.Excepted e) n r = absurd (true≢false (sym n))
leads d m j (say.Wave w) n r = absurd (true≢false (sym n))
leads d m j say.Enter n r = absurd (true≢false (sym n))
leads d m j say.Turn n r = absurd (true≢false (sym n))
leads d m j say.Arrive n r = absurd (true≢false (sym n))
leads d m j say.Late n r = absurd (true≢false (sym n))
leads d m j say.Elect n r = absurd (true≢false (sym n))
leads d m j say.Quit n r = absurd (true≢false (sym n))
leads d m j say.Report n r = absurd (true≢false (sym n))
leads d m j (say.Run k x S) n r = absurd (true≢false (sym n))
leads d m j say.Depart n r = absurd (true≢false (sym n))
leads d m j (say.Resume how) n r = absurd (true≢false (sym n))
leads d m j say.Off n r = absurd (true≢false (sym n))
leads d m j (say.Gather e) n r = leader m.session j _ r.0
leads d m j (say.Ready k) n r = leader m.session j _ r.0
leads d m j (say.Close k) n r = leader m.session j _ r.0
leads d m j (say.Read c register width x S) n r = leader m.session j _ r.0
leads d m j (say.Write c register width x S) n r = leader m.session j _ r.0
leads d m j (say.Refuse c cause) n r = leader m.session j _ r.0
leads d m j (say.Start c k p a) n r = leader m.session j _ r.0
leads d m j (say.Collect c) n r = leader m.session j _ r.0
leads d m j say.Done n r = leader m.session j _ r.0
leads d m j (say.Release c) n r = leader m.session j _ r.0
leads d m j say.End n r = leader m.session j _ r.0
leads d m j l n r = leader m.session j _ r

same_leader : (o : Option Session) (i j : ℕ) → IsSomeAnd o (λ s. s.bsp ≡ i) → IsSomeAnd o (λ s. s.bsp ≡ j) → j ≡ i
same_leader None i j h k = absurd h
same_leader (Some s) i j h k = sym k ∙ h

pub one_leader : (d : SetupData) (m : Machine) (before middle after : List Said) (i j : ℕ) (l : Label)
    → IsRun d m (before ++ ((i, say.Elect) ∷ (middle ++ ((j, l) ∷ after)))) → has_end middle ≡ false → is_leading l ≡ true → j ≡ i
one_leader d m before middle after i j l r n e =
    let first = machine_after d m before in
    let r1 = rest_of d m before ((i, say.Elect) ∷ (middle ++ ((j, l) ∷ after))) r in
    let second = effect d first i say.Elect in
    let last = machine_after d second middle in
    let r2 = rest_of d second middle ((j, l) ∷ after) r1.1 in
    same_leader last.session i j
    (kept_open d (λ x. IsLed x i) (led_step d i) second middle n (front_of d second middle ((j, l) ∷ after) r1.1) refl)
    (leads d last j l e r2.0)
