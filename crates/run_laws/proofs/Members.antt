-- A processor that is counted in, or is there, stays so until the session is done, unless it gives up.
use Rattle.std.proofs.Common.{◌≡◌, ◌⊎◌, ℕ, Bool, true, false, List, [], ◌∷◌, IsSomeAnd, Option, Some, None, refl, sym, ap, subst, inl, inr, ⊎_elim, ◌∙◌, true≢false}
use Rattle.std.specs.Option.{option_map}
use Rattle.cpu_table.specs.Data.{SetupData}
use Rattle.sync_words.specs.declared.label.Label.{Label}
use Rattle.sync_words.specs.declared.label.Label.TheVariants as say
use Rattle.rendezvous_machine.specs.declared.phase.Phase.{Phase}
use Rattle.rendezvous_machine.specs.declared.phase.Phase.TheVariants.{Out, In, Counted, Here, Gone, Off}
use Rattle.rendezvous_machine.specs.Machines.{Machine, Session, Member, member}
use Rattle.rendezvous_machine.specs.Listed.{place_of, is_over}
use Rattle.rendezvous_machine.specs.Rules.{Rule}
use Rattle.rendezvous_machine.specs.Services.{written}
use Rattle.rendezvous_machine.specs.Effects.{effect, with_member, enclosed, entered, resumed, worked, given, made_done}
use Rattle.rendezvous_machine.specs.Runs.{Said, IsRun, machine_after}
use Rattle.rendezvous_machine.specs.Histories.{is_end, has_end}
use Rattle.rendezvous_machine.proofs.Walks.{neither}
use Rattle.rendezvous_machine.proofs.Changes.{step_of, session_after, session_is}
use Rattle.rendezvous_machine.proofs.Sets.{FitsSession, FitsMember, AllFit, fits, set_at, mapped}

-- A SESSION THAT IS DONE

abbrev pub IsDone : Machine → Type 0
IsDone m = IsSomeAnd m.session (λ s. s.is_done ≡ true)

no_session : (o : Option Session) (F : Session → Type 0) → o ≡ None → IsSomeAnd o F → ⊥
no_session None F e h = h
no_session (Some s) F e h = cc

done_kept : (o : Option Session) (f : Session → Session) → ((s : Session) → s.is_done ≡ true → (f s).is_done ≡ true)
    → IsSomeAnd o (λ s. s.is_done ≡ true) → IsSomeAnd (option_map f o) (λ s. s.is_done ≡ true)
done_kept None f k h = h
done_kept (Some s) f k h = k s h

done_after : (d : SetupData) (m : Machine) (i : ℕ) (l : Label) → is_end l ≡ false → Rule d m i l → IsDone m
    → IsSomeAnd (session_after (is_over (place_of d m)) i l m.session) (λ s. s.is_done ≡ true)
done_after d m i say.Elect n r h = absurd (no_session m.session _ r.1 h)
done_after d m i say.End n r h = absurd (true≢false n)
done_after d m i say.Done n r h = done_kept m.session made_done (λ s b. refl) h
done_after d m i l n r h = done_kept m.session (step_of (is_over (place_of d m)) i l) (λ s b. b) h

done_step : (d : SetupData) (m : Machine) (i : ℕ) (l : Label) → is_end l ≡ false → Rule d m i l → IsDone m → IsDone (effect d m i l)
done_step d m i l n r h = subst (λ o. IsSomeAnd o (λ s. s.is_done ≡ true)) (sym (session_is d m i l)) (done_after d m i l n r h)

-- only a session that is done releases processors
released_in : (closed done : Bool) (p : Phase) (a b c : Bool) → b ≡ true → FitsSession closed done p a b c → done ≡ true
released_in false done p a b c e h = absurd (true≢false (sym e ∙ h.0.kept))
released_in true false p a b c e h = absurd (true≢false (sym e ∙ h.kept))
released_in true true p a b c e h = refl

released_done : (o : Option Session) (x : Member) → x.is_released ≡ true → FitsMember o x → IsSomeAnd o (λ s. s.is_done ≡ true)
released_done None x e h = absurd (true≢false (sym e ∙ h.0.kept))
released_done (Some s) x e h = released_in s.is_closed s.is_done x.phase x.in_closed_set x.is_released x.has_departed e h

-- PHASES

-- a test on phases that holds of those that are there, and of none that is out, in or gone
pub record IsMembership (has : Phase → Bool) : Type 0 where
  pub here : has Here ≡ true
  pub out : has Out ≡ false
  pub inside : has In ≡ false
  pub gone : has Gone ≡ false

-- a processor that the test holds of doesn't give up
abbrev pub Stays : (Phase → Bool) → ℕ → ℕ → Label → Type 0
Stays has c i say.Quit = i ≡ c → has Counted ≡ false
Stays has c i _ = Unit {0}

abbrev pub IsMember : (Phase → Bool) → ℕ → Machine → Type 0
IsMember has c m = has (member m c).phase ≡ true

abbrev pub StillMember : (Phase → Bool) → ℕ → Machine → Type 0
StillMember has c m = IsMember has c m ⊎ IsDone m

set_in : (has : Phase → Bool) (m : Machine) (i c : ℕ) (x : Member) → (i ≡ c → has x.phase ≡ true) → IsMember has c m
    → has (member (with_member i x m) c).phase ≡ true
set_in has m i c x new h = set_at (λ k y. k ≡ c → has y.phase ≡ true) m.members i c x new (λ e. h) refl

-- the processor that the test holds of isn't in this phase
away : {A : Type 0} (has : Phase → Bool) (m : Machine) (i c : ℕ) (p : Phase) → (member m i).phase ≡ p → has p ≡ false → IsMember has c m → i ≡ c → A
away has m i c p e f h s = absurd (true≢false (sym (subst (λ k. has (member m k).phase ≡ true) (sym s) h) ∙ ap has e ∙ f))

same_phase : (has : Phase → Bool) (m : Machine) (i c : ℕ) → IsMember has c m → i ≡ c → has (member m i).phase ≡ true
same_phase has m i c h s = subst (λ k. has (member m k).phase ≡ true) (sym s) h

member_step : (has : Phase → Bool) → IsMembership has → (d : SetupData) (c : ℕ) (m : Machine) (i : ℕ) (l : Label) → is_end l ≡ false → Stays has c i l → Rule d m i l
    → AllFit m → IsMember has c m → StillMember has c (effect d m i l)
member_step has k d c m i say.Enter n t r f h = inl (set_in has m i c (entered d i (member m i)) (away has m i c Out r.0 k.out h) h)
member_step has k d c m i say.Turn n t r f h = inl (set_in has m i c (record (member m i) { phase = Gone }) (away has m i c In r.0 k.inside h) h)
member_step has k d c m i say.Arrive n t r f h = inl (set_in has m i c (record (member m i) { phase = Counted }) (away has m i c In r.0 k.inside h) h)
member_step has k d c m i say.Late n t r f h = inl (set_in has m i c (record (member m i) { phase = Gone }) (away has m i c In r.0 k.inside h) h)
member_step has k d c m i say.Quit n t r f h =
    inl (set_in has m i c (record (member m i) { phase = Gone }) (λ s. away has m i c Counted r.0 (t s) h s) h)
member_step has k d c m i say.Report n t r f h = inl (set_in has m i c (record (member m i) { phase = Here }) (λ s. k.here) h)
member_step has k d c m i (say.Close e) n t r f h = inl (subst (λ y. has y.phase ≡ true) (sym (mapped enclosed refl m.members c)) h)
member_step has k d c m i (say.Write z register width x S) n t r f h =
    inl (set_in has m z c (record (member m z) { image = written S register width x (member m z).image }) (same_phase has m z c h) h)
member_step has k d c m i (say.Start z j p a) n t r f h =
    inl (set_in has m z c (record (member m z) { job = Some (given j p a) }) (same_phase has m z c h) h)
member_step has k d c m i (say.Run j x S) n t r f h = inl (set_in has m i c (worked d (x, S) (member m i)) (same_phase has m i c h) h)
member_step has k d c m i (say.Collect z) n t r f h = inl (set_in has m z c (record (member m z) { job = None }) (same_phase has m z c h) h)
member_step has k d c m i (say.Release z) n t r f h = inl (set_in has m z c (record (member m z) { is_released = true }) (same_phase has m z c h) h)
member_step has k d c m i say.Depart n t r f h = inr (released_done m.session (member m i) r.2 (f i))
member_step has k d c m i say.End n t r f h = absurd (true≢false n)
member_step has k d c m i (say.Resume how) n t r f h = inl (set_in has m i c (resumed (member m i)) (away has m i c Gone r.0 k.gone h) h)
member_step has k d c m i say.Off n t r f h = inl (set_in has m i c (record (member m i) { phase = Off }) (away has m i c Out r.0 k.out h) h)
member_step has k d c m i l n t r f h = inl h

-- ALONG A RUN

abbrev pub AllStay : (Phase → Bool) → ℕ → List Said → Type 0
AllStay has c [] = Unit {0}
AllStay has c (e ∷ es) = Stays has c e.0 e.1 × AllStay has c es

pub members_stay : (has : Phase → Bool) → IsMembership has → (d : SetupData) (c : ℕ) (m : Machine) (es : List Said) → has_end es ≡ false → AllStay has c es
    → IsRun d m es → AllFit m → IsMember has c m ⊎ IsDone m → IsMember has c (machine_after d m es) ⊎ IsDone (machine_after d m es)
members_stay has k d c m [] n t r f h = h
members_stay has k d c m (e ∷ es) n t r f h =
    let ends = neither (is_end e.1) (has_end es) n in
    members_stay has k d c (effect d m e.0 e.1) es ends.1 t.1 r.1 (fits d m e.0 e.1 r.0 f)
    (⊎_elim (λ x. member_step has k d c m e.0 e.1 ends.0 t.0 r.0 f x) (λ x. inr (done_step d m e.0 e.1 ends.0 r.0 x)) h)
