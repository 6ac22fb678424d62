-- Who is in the closed set of a session, by the labels; in the traditional mode they have reported before serving begins.
use Rattle.std.proofs.Common.{◌≡◌, ◌≢◌, ◌<◌, ◌⊎◌, ℕ, zero, suc, Bool, true, false, List, [], ◌∷◌, ◌++◌, ◌==◌, ◌&&◌, length, slice_index_or, IsSomeAnd, Option, Some, None, refl, sym, ap, subst, inl, ⊎_elim, ◌∙◌, true≢false, eq-eqb, arith, get_or-set_same}
use Rattle.std.specs.Option.{option_map}
use Rattle.cpu_table.specs.Data.{SetupData}
use Rattle.cpu_table.specs.declared.setup.Mode.TheVariants.{Traditional}
use Rattle.sync_words.specs.declared.label.Label.{Label}
use Rattle.sync_words.specs.declared.label.Label.TheVariants as say
use Rattle.rendezvous_machine.specs.declared.phase.Phase.{Phase}
use Rattle.rendezvous_machine.specs.declared.phase.Phase.TheVariants.{In, Counted}
use Rattle.rendezvous_machine.specs.Machines.{Machine, Session, Member, nobody, member, is_counted_phase, IsClosed}
use Rattle.rendezvous_machine.specs.Listed.{place_of, is_over}
use Rattle.rendezvous_machine.specs.Rules.{Rule}
use Rattle.rendezvous_machine.specs.Effects.{effect, enclosed, made_closed}
use Rattle.rendezvous_machine.specs.Runs.{Said, IsRun, machine_after}
use Rattle.rendezvous_machine.specs.Histories.{is_end, HasSaid}
use Rattle.rendezvous_machine.proofs.Walks.{front_of, rest_of, after_both, neither, kept, kept_open}
use Rattle.rendezvous_machine.proofs.Changes.{step_of, session_after, session_is}
use Rattle.rendezvous_machine.proofs.Sets.{FitsSession, FitsMember, AllFit, fits, set_at, mapped}
use Rattle.rendezvous_machine.proofs.Lawful.{all_reported}
use Rattle.run_laws.specs.Facts.{is_quit, has_quit, IsEnclosed}
use Rattle.run_laws.proofs.Members.{IsDone, IsMember, IsMembership, Stays, AllStay, members_stay}

counting : IsMembership is_counted_phase
counting = record { here = refl; out = refl; inside = refl; gone = refl }

-- a processor that doesn't give up
not_quitting : (c i : ℕ) (l : Label) → (is_quit l && i == c) ≡ false → Stays is_counted_phase c i l
not_quitting c i say.Quit n = λ e. absurd (true≢false (sym (eq-eqb i c e) ∙ n))
not_quitting c i _ n = tt

none_quits : (c : ℕ) (es : List Said) → has_quit c es ≡ false → AllStay is_counted_phase c es
none_quits c [] n = tt
none_quits c (e ∷ es) n = let both = neither (is_quit e.1 && e.0 == c) (has_quit c es) n in (not_quitting c e.0 e.1 both.0, none_quits c es both.1)

-- CLOSING

abbrev IsInside : ℕ → Machine → Type 0
IsInside c m = ((member m c).in_closed_set ≡ true) × IsClosed m

open_undone : (closed done : Bool) (p : Phase) (a b c : Bool) → closed ≡ false → FitsSession closed done p a b c → done ≡ false
open_undone false done p a b c e h = h.1
open_undone true done p a b c e h = absurd (true≢false e)

not_done : (o : Option Session) (i : ℕ) (F : Session → Type 0) (x : Member) → IsSomeAnd o (λ s. (s.bsp ≡ i) × ((s.is_closed ≡ false) × F s)) → FitsMember o x
    → IsSomeAnd o (λ s. s.is_done ≡ true) → ⊥
not_done None i F x r f h = h
not_done (Some s) i F x r f h =
    true≢false (sym h ∙ open_undone s.is_closed s.is_done x.phase x.in_closed_set x.is_released x.has_departed r.1.0 f)

closed_now : (o : Option Session) (F : Session → Type 0) → IsSomeAnd o F → IsSomeAnd (option_map made_closed o) (λ s. s.is_closed ≡ true)
closed_now None F r = r
closed_now (Some s) F r = refl

closing : (d : SetupData) (m : Machine) (i n c : ℕ) → Rule d m i (say.Close n) → AllFit m → IsMember is_counted_phase c m ⊎ IsDone m
    → IsInside c (effect d m i (say.Close n))
closing d m i n c r f h =
    ⊎_elim (λ (x : IsMember is_counted_phase c m). (ap (λ y. y.in_closed_set) (mapped enclosed refl m.members c) ∙ x, closed_now m.session _ r.0))
    (λ (x : IsDone m). absurd (not_done m.session i _ (member m c) r.0 (f c) x)) h

-- A CLOSED SESSION

abbrev changes_sets : Label → Bool
changes_sets (say.Close n) = true
changes_sets say.End = true
changes_sets _ = false

sets_same : (d : SetupData) (m : Machine) (i : ℕ) (l : Label) → changes_sets l ≡ false → (c : ℕ) → (member (effect d m i l) c).in_closed_set ≡ (member m c).in_closed_set
sets_same d m i say.Enter n c = set_at (λ k y. y.in_closed_set ≡ (member m k).in_closed_set) m.members i c _ refl refl
sets_same d m i say.Turn n c = set_at (λ k y. y.in_closed_set ≡ (member m k).in_closed_set) m.members i c _ refl refl
sets_same d m i say.Arrive n c = set_at (λ k y. y.in_closed_set ≡ (member m k).in_closed_set) m.members i c _ refl refl
sets_same d m i say.Late n c = set_at (λ k y. y.in_closed_set ≡ (member m k).in_closed_set) m.members i c _ refl refl
sets_same d m i say.Quit n c = set_at (λ k y. y.in_closed_set ≡ (member m k).in_closed_set) m.members i c _ refl refl
sets_same d m i say.Report n c = set_at (λ k y. y.in_closed_set ≡ (member m k).in_closed_set) m.members i c _ refl refl
sets_same d m i (say.Close k) n c = absurd (true≢false n)
sets_same d m i (say.Write z register width x S) n c = set_at (λ k y. y.in_closed_set ≡ (member m k).in_closed_set) m.members z c _ refl refl
sets_same d m i (say.Start z j p a) n c = set_at (λ k y. y.in_closed_set ≡ (member m k).in_closed_set) m.members z c _ refl refl
sets_same d m i (say.Run j x S) n c = set_at (λ k y. y.in_closed_set ≡ (member m k).in_closed_set) m.members i c _ refl refl
sets_same d m i (say.Collect z) n c = set_at (λ k y. y.in_closed_set ≡ (member m k).in_closed_set) m.members z c _ refl refl
sets_same d m i (say.Release z) n c = set_at (λ k y. y.in_closed_set ≡ (member m k).in_closed_set) m.members z c _ refl refl
sets_same d m i say.Depart n c = set_at (λ k y. y.in_closed_set ≡ (member m k).in_closed_set) m.members i c _ refl refl
sets_same d m i say.End n c = absurd (true≢false n)
sets_same d m i (say.Resume how) n c = set_at (λ k y. y.in_closed_set ≡ (member m k).in_closed_set) m.members i c _ refl refl
sets_same d m i say.Off n c = set_at (λ k y. y.in_closed_set ≡ (member m k).in_closed_set) m.members i c _ refl refl
sets_same d m i _ n c = refl

closed_kept : (o : Option Session) (f : Session → Session) → ((s : Session) → s.is_closed ≡ true → (f s).is_closed ≡ true)
    → IsSomeAnd o (λ s. s.is_closed ≡ true) → IsSomeAnd (option_map f o) (λ s. s.is_closed ≡ true)
closed_kept None f k h = h
closed_kept (Some s) f k h = k s h

no_session : (o : Option Session) (F : Session → Type 0) → o ≡ None → IsSomeAnd o F → ⊥
no_session None F e h = h
no_session (Some s) F e h = cc

closed_once : (o : Option Session) (i : ℕ) (F : Session → Type 0) → IsSomeAnd o (λ s. (s.bsp ≡ i) × ((s.is_closed ≡ false) × F s)) → IsSomeAnd o (λ s. s.is_closed ≡ true) → ⊥
closed_once None i F r h = h
closed_once (Some s) i F r h = true≢false (sym h ∙ r.1.0)

closed_after : (d : SetupData) (m : Machine) (i : ℕ) (l : Label) → is_end l ≡ false → Rule d m i l → IsClosed m
    → IsSomeAnd (session_after (is_over (place_of d m)) i l m.session) (λ s. s.is_closed ≡ true)
closed_after d m i say.Elect n r h = absurd (no_session m.session _ r.1 h)
closed_after d m i say.End n r h = absurd (true≢false n)
closed_after d m i (say.Close k) n r h = closed_kept m.session made_closed (λ s b. refl) h
closed_after d m i l n r h = closed_kept m.session (step_of (is_over (place_of d m)) i l) (λ s b. b) h

closed_step : (d : SetupData) (m : Machine) (i : ℕ) (l : Label) → is_end l ≡ false → Rule d m i l → IsClosed m → IsClosed (effect d m i l)
closed_step d m i l n r h = subst (λ o. IsSomeAnd o (λ s. s.is_closed ≡ true)) (sym (session_is d m i l)) (closed_after d m i l n r h)

inside_step : (c : ℕ) (d : SetupData) (m : Machine) (i : ℕ) (l : Label) → is_end l ≡ false → Rule d m i l → IsInside c m → IsInside c (effect d m i l)
inside_step c d m i say.End n r h = absurd (true≢false n)
inside_step c d m i (say.Close k) n r h = absurd (closed_once m.session i _ r.0 h.1)
inside_step c d m i l n r h = (sets_same d m i l refl c ∙ h.0, closed_step d m i l n r h.1)

-- THE LAW

-- who arrives is counted
in_range : (xs : List Member) (c : ℕ) → (slice_index_or xs c nobody).phase ≡ In → c < length xs
in_range [] c e = cc
in_range (x ∷ xs) zero e = omega arith
in_range (x ∷ xs) (suc c) e = let l = in_range xs c e in omega arith

arrived : (d : SetupData) (m : Machine) (c : ℕ) → Rule d m c say.Arrive → IsMember is_counted_phase c (effect d m c say.Arrive)
arrived d m c r =
    ap (λ y. is_counted_phase y.phase) (get_or-set_same m.members c (record (member m c) { phase = Counted }) nobody (in_range m.members c r.0))

inside_then : (d : SetupData) (m : Machine) (c : ℕ) (es : List Said) → IsRun d m es → AllFit m → IsEnclosed c es → (member (machine_after d m es) c).in_closed_set ≡ true
inside_then d m c es run fit h =
    let r = subst (IsRun d m) h.whole run in
    let first = machine_after d m h.front in
    let tail = (h.closer, say.Close h.count) ∷ h.back in
    let r1 = rest_of d m h.front ((c, say.Arrive) ∷ (h.middle ++ tail)) r in
    let second = effect d first c say.Arrive in
    let fit1 : AllFit first = kept d AllFit (fits d) m h.front (front_of d m h.front ((c, say.Arrive) ∷ (h.middle ++ tail)) r) fit in
    let fit2 : AllFit second = fits d first c say.Arrive r1.0 fit1 in
    let walked = front_of d second h.middle tail r1.1 in
    let third = machine_after d second h.middle in
    let r3 = rest_of d second h.middle tail r1.1 in
    let stays = members_stay is_counted_phase counting d c second h.middle h.same_session (none_quits c h.middle h.stayed) walked fit2 (inl (arrived d first c r1.0)) in
    let inside = closing d third h.closer h.count c r3.0 (kept d AllFit (fits d) second h.middle walked fit2) stays in
    let last = kept_open d (IsInside c) (inside_step c d) (effect d third h.closer (say.Close h.count)) h.back h.since r3.1 inside in
    subst (λ z. (member (machine_after d m z) c).in_closed_set ≡ true) (sym h.whole)
    (subst (λ z. (member z c).in_closed_set ≡ true)
    (sym (after_both d m h.front ((c, say.Arrive) ∷ (h.middle ++ tail)) ∙ after_both d second h.middle tail)) last.0)

pub reported : (d : SetupData) (m : Machine) (before after : List Said) (i j w : ℕ) → m.session ≡ None → AllFit m → ((k : ℕ) → FitsMember None (member m k))
    → IsRun d m (before ++ ((i, say.Begin w) ∷ after)) → d.mode ≡ Traditional → j ≢ i → IsEnclosed j before → HasSaid j say.Report before
reported d m before after i j w none fit first r mode n e =
    all_reported d m before after i j w none fit first r mode n (inside_then d m j before (front_of d m before ((i, say.Begin w) ∷ after) r) fit e)
