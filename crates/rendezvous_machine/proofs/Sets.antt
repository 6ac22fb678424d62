-- The closed set: who is in it, and that nobody is there between two sessions.
use Rattle.std.proofs.Common.{◌≡◌, ◌≢◌, ◌<◌, ◌⊎◌, ℕ, zero, suc, Bool, true, false, List, [], ◌∷◌, map, length, slice_index_or, slice_set, IsSomeAnd, Option, Some, None, refl, sym, ap, subst, subst₂, inl, inr, ⊎_elim, ◌∙◌, true≢false, arith}
use Rattle.std.specs.Option.{option_map}
use Rattle.cpu_table.specs.Data.{SetupData}
use Rattle.sync_words.specs.declared.label.Label.{Label}
use Rattle.sync_words.specs.declared.label.Label.TheVariants as say
use Rattle.rendezvous_machine.specs.Machines.{Machine, Session, Member, Phase, Out, In, Counted, Here, Gone, Off, nobody, member, is_here, is_counted_phase}
use Rattle.serving_place.specs.Forms.{Own, Ran}
use Rattle.rendezvous_machine.specs.Listed.{place_of, is_over}
use Rattle.rendezvous_machine.specs.Rules.{Rule}
use Rattle.rendezvous_machine.specs.Services.{written}
use Rattle.rendezvous_machine.specs.Effects.{effect, with_member, entered, resumed, worked, given, serves, gathers, made_ready, has_expired, made_closed, made_begun, made_done, says, hears, enclosed, cleared}
use Rattle.rendezvous_machine.proofs.Walks.{either}

-- an entry of a list of processors of which one was set
pub record IsOther (xs : List Member) (i j : ℕ) (x : Member) : Type 0 where
  pub other : j ≢ i
  pub same : slice_index_or (slice_set xs i x) j nobody ≡ slice_index_or xs j nobody

pub record IsNew (xs : List Member) (i j : ℕ) (x : Member) : Type 0 where
  pub same : j ≡ i
  pub new : slice_index_or (slice_set xs i x) j nobody ≡ x

pub record IsNone (xs : List Member) (i j : ℕ) (x : Member) : Type 0 where
  pub new : slice_index_or (slice_set xs i x) j nobody ≡ nobody
  pub old : nobody ≡ slice_index_or xs j nobody

set_or : (xs : List Member) (i j : ℕ) (x : Member) → IsNew xs i j x ⊎ (IsOther xs i j x ⊎ IsNone xs i j x)
set_or [] i j x = inr (inr (record { new = refl; old = refl }))
set_or (y ∷ ys) zero zero x = inl (record { same = refl; new = refl })
set_or (y ∷ ys) zero (suc j) x = inr (inl (record { other = λ e. omega arith; same = refl }))
set_or (y ∷ ys) (suc i) zero x = inr (inl (record { other = λ e. omega arith; same = refl }))
set_or (y ∷ ys) (suc i) (suc j) x =
    ⊎_elim (λ (n : IsNew ys i j x). inl (record { same = ap suc n.same; new = n.new }))
    (λ (r : IsOther ys i j x ⊎ IsNone ys i j x).
    inr (⊎_elim (λ (o : IsOther ys i j x). inl (record { other = λ e. o.other (let k : j ≡ i = omega arith in k); same = o.same }))
    (λ (z : IsNone ys i j x). inr (record { new = z.new; old = z.old })) r))
    (set_or ys i j x)

pub set_at : (P : ℕ → Member → Type 0) (xs : List Member) (i j : ℕ) (x : Member) → P i x → P j (slice_index_or xs j nobody)
    → P j (slice_index_or (slice_set xs i x) j nobody)
set_at P xs i j x new old =
    ⊎_elim (λ (n : IsNew xs i j x). subst (P j) (sym n.new) (subst (λ k. P k x) (sym n.same) new))
    (λ (r : IsOther xs i j x ⊎ IsNone xs i j x).
    ⊎_elim (λ (o : IsOther xs i j x). subst (P j) (sym o.same) old)
    (λ (z : IsNone xs i j x). subst (P j) (sym (z.new ∙ z.old)) old) r)
    (set_or xs i j x)

-- the same where the old entry counts only at another place of the list
pub set_elsewhere : (P : ℕ → Member → Type 0) (xs : List Member) (i j : ℕ) (x : Member) → P i x → P j nobody
    → (j ≢ i → j < length xs → P j (slice_index_or xs j nobody)) → P j (slice_index_or (slice_set xs i x) j nobody)
set_elsewhere P xs i j x new none old =
    ⊎_elim (λ (n : IsNew xs i j x). subst (P j) (sym n.new) (subst (λ k. P k x) (sym n.same) new))
    (λ (r : IsOther xs i j x ⊎ IsNone xs i j x).
    ⊎_elim (λ (o : IsOther xs i j x). subst (P j) (sym o.same) (within xs j (old o.other)))
    (λ (z : IsNone xs i j x). subst (P j) (sym z.new) none) r)
    (set_or xs i j x)
  where
    by_place : (ys : List Member) (k : ℕ) → (k < length ys) ⊎ (slice_index_or ys k nobody ≡ nobody)
    by_place [] k = inr refl
    by_place (y ∷ ys) zero = inl (omega arith)
    by_place (y ∷ ys) (suc k) = ⊎_elim (λ (l : k < length ys). inl (omega arith)) (λ e. inr e) (by_place ys k)

    within : (ys : List Member) (k : ℕ) → (k < length ys → P j (slice_index_or ys k nobody)) → P j (slice_index_or ys k nobody)
    within ys k f = ⊎_elim f (λ e. subst (P j) (sym e) none) (by_place ys k)

pub mapped : (f : Member → Member) → f nobody ≡ nobody → (xs : List Member) (j : ℕ)
    → slice_index_or (map f xs) j nobody ≡ f (slice_index_or xs j nobody)
mapped f e [] j = sym e
mapped f e (x ∷ xs) zero = refl
mapped f e (x ∷ xs) (suc j) = mapped f e xs j

-- A processor's sets: in none; waiting in a closed session; on its way out of one.
pub record IsApart (a b c : Bool) : Type 0 where
  pub outside : a ≡ false
  pub kept : b ≡ false
  pub stayed : c ≡ false

pub record IsWaiting (p : Phase) (a b c : Bool) : Type 0 where
  pub inside : a ≡ is_counted_phase p
  pub kept : b ≡ false
  pub stayed : c ≡ false

pub record IsLeaving (p : Phase) (a c : Bool) : Type 0 where
  pub inside : c ≡ false → a ≡ is_counted_phase p
  pub left : c ≡ true → is_counted_phase p ≡ false

-- by whether the session is closed, and done
abbrev pub FitsSession : Bool → Bool → Phase → Bool → Bool → Bool → Type 0
FitsSession false done p a b c = IsApart a b c × (done ≡ false)
FitsSession true false p a b c = IsWaiting p a b c
FitsSession true true p a b c = IsLeaving p a c

abbrev pub Fits : Option Session → Phase → Bool → Bool → Bool → Type 0
Fits None p a b c = IsApart a b c × (is_here p ≡ false)
Fits (Some s) p a b c = FitsSession s.is_closed s.is_done p a b c

abbrev pub FitsMember : Option Session → Member → Type 0
FitsMember o x = Fits o x.phase x.in_closed_set x.is_released x.has_departed

abbrev pub AllFit : Machine → Type 0
AllFit m = (j : ℕ) → FitsMember m.session (member m j)

-- phases
same_count : (closed done : Bool) (p q : Phase) (a b c : Bool) → is_counted_phase p ≡ is_counted_phase q
    → FitsSession closed done p a b c → FitsSession closed done q a b c
same_count false done p q a b c e h = h
same_count true false p q a b c e h = record { inside = h.inside ∙ e; kept = h.kept; stayed = h.stayed }
same_count true true p q a b c e h = record { inside = λ k. h.inside k ∙ e; left = λ k. sym e ∙ h.left k }

calm : (o : Option Session) (p q : Phase) (a b c : Bool) → is_counted_phase p ≡ false → is_counted_phase q ≡ false → is_here q ≡ false
    → Fits o p a b c → Fits o q a b c
calm None p q a b c e f g h = (h.0, g)
calm (Some s) p q a b c e f g h = same_count s.is_closed s.is_done p q a b c (e ∙ sym f) h

-- a processor that isn't counted goes into another phase in which it isn't
moving : (o : Option Session) (x : Member) (p q : Phase) → x.phase ≡ p → is_counted_phase p ≡ false → is_counted_phase q ≡ false → is_here q ≡ false
    → FitsMember o x → Fits o q x.in_closed_set x.is_released x.has_departed
moving o x p q e f g k h =
    calm o p q x.in_closed_set x.is_released x.has_departed f g k (subst (λ z. Fits o z x.in_closed_set x.is_released x.has_departed) e h)

open_any : (closed done : Bool) (p q : Phase) (a b c : Bool) → (closed ≡ true → ⊥) → FitsSession closed done p a b c → FitsSession closed done q a b c
open_any false done p q a b c n h = h
open_any true done p q a b c n h = absurd (n refl)

-- where the session isn't closed any phase fits but the last
unclosed : (o : Option Session) (x : Member) (q : Phase) → (IsSomeAnd o (λ s. s.is_closed ≡ true) → ⊥) → is_here q ≡ false
    → FitsMember o x → Fits o q x.in_closed_set x.is_released x.has_departed
unclosed None x q n e h = (h.0, e)
unclosed (Some s) x q n e h = open_any s.is_closed s.is_done x.phase q x.in_closed_set x.is_released x.has_departed n h

reporting : (o : Option Session) (F : Session → Type 0) (x : Member) → x.phase ≡ Counted → IsSomeAnd o F
    → FitsMember o x → Fits o Here x.in_closed_set x.is_released x.has_departed
reporting None F x e r h = absurd r
reporting (Some s) F x e r h =
    same_count s.is_closed s.is_done x.phase Here x.in_closed_set x.is_released x.has_departed (ap is_counted_phase e) h

-- sets
clash : {A : Type 0} (b : Bool) → b ≡ true → b ≡ false → A
clash b e f = absurd (true≢false (sym e ∙ f))

left_in : (closed done : Bool) (p : Phase) (a b c : Bool) → b ≡ true → FitsSession closed done p a b c → FitsSession closed done Gone a b true
left_in false done p a b c e h = clash b e h.0.kept
left_in true false p a b c e h = clash b e h.kept
left_in true true p a b c e h = record { inside = λ k. absurd (true≢false k); left = λ k. refl }

departing : (o : Option Session) (F : Session → Type 0) (x : Member) → x.is_released ≡ true → IsSomeAnd o F
    → FitsMember o x → Fits o Gone x.in_closed_set x.is_released true
departing None F x e r h = absurd r
departing (Some s) F x e r h = left_in s.is_closed s.is_done x.phase x.in_closed_set x.is_released x.has_departed e h

released_in : (closed done : Bool) (p : Phase) (a b c : Bool) → done ≡ true → FitsSession closed done p a b c → FitsSession closed done p a true c
released_in false done p a b c e h = clash done e h.1
released_in true false p a b c e h = absurd (true≢false (sym e))
released_in true true p a b c e h = h

releasing : (o : Option Session) (i : ℕ) (x : Member) → IsSomeAnd o (λ s. (s.bsp ≡ i) × (s.is_done ≡ true))
    → FitsMember o x → Fits o x.phase x.in_closed_set true x.has_departed
releasing None i x r h = absurd r
releasing (Some s) i x r h = released_in s.is_closed s.is_done x.phase x.in_closed_set x.is_released x.has_departed r.1 h

closed_in : (closed done : Bool) (p : Phase) (a b c : Bool) → closed ≡ false → FitsSession closed done p a b c → FitsSession true done p (is_counted_phase p) b c
closed_in false false p a b c e h = record { inside = refl; kept = h.0.kept; stayed = h.0.stayed }
closed_in false true p a b c e h = absurd (true≢false h.1)
closed_in true done p a b c e h = absurd (true≢false e)

closing : (o : Option Session) (F : Session → Type 0) (x : Member) → ((s : Session) → F s → s.is_closed ≡ false) → IsSomeAnd o F
    → FitsMember o x → FitsMember (option_map made_closed o) (enclosed x)
closing None F x k r h = absurd r
closing (Some s) F x k r h = closed_in s.is_closed s.is_done x.phase x.in_closed_set x.is_released x.has_departed (k s r) h

done_in : (closed done : Bool) (p : Phase) (a b c : Bool) → closed ≡ true → done ≡ false → FitsSession closed done p a b c → FitsSession closed true p a b c
done_in false done p a b c e f h = absurd (true≢false (sym e))
done_in true false p a b c e f h = record { inside = λ k. h.inside; left = λ k. clash c k h.stayed }
done_in true true p a b c e f h = absurd (true≢false f)

finishing : (o : Option Session) (F : Session → Type 0) (x : Member) → ((s : Session) → F s → (s.is_closed ≡ true) × (s.is_done ≡ false)) → IsSomeAnd o F
    → FitsMember o x → FitsMember (option_map made_done o) x
finishing None F x k r h = absurd r
finishing (Some s) F x k r h = done_in s.is_closed s.is_done x.phase x.in_closed_set x.is_released x.has_departed (k s r).0 (k s r).1 h

electing : (o : Option Session) (x : Member) → o ≡ None → FitsMember o x → IsApart x.in_closed_set x.is_released x.has_departed
electing None x e h = h.0
electing (Some s) x e h = absurd (no_session s e)
  where
    no_session : (s : Session) → Some s ≡ None → ⊥
    no_session s e = cc

here_counts : (p : Phase) → is_here p ≡ true → is_counted_phase p ≡ true
here_counts Here e = refl
here_counts _ e = absurd (true≢false (sym e))

gone_in : (closed done : Bool) (p : Phase) (a b c : Bool) → done ≡ true → (a ≡ true → c ≡ true) → FitsSession closed done p a b c → is_here p ≡ false
gone_in false done p a b c e k h = clash done e h.1
gone_in true false p a b c e k h = absurd (true≢false (sym e))
gone_in true true p a b c e k h =
    either (is_here p)
    (λ t. either c (λ u. clash (is_counted_phase p) (here_counts p t) (h.left u)) (λ u. clash c (k (h.inside u ∙ here_counts p t)) u))
    (λ f. f)

ending : (o : Option Session) (i : ℕ) (x : Member) → IsSomeAnd o (λ s. (s.bsp ≡ i) × (s.is_done ≡ true)) → (x.in_closed_set ≡ true → x.has_departed ≡ true)
    → FitsMember o x → is_here x.phase ≡ false
ending None i x r k h = absurd r
ending (Some s) i x r k h = gone_in s.is_closed s.is_done x.phase x.in_closed_set x.is_released x.has_departed r.1 k h

-- a change of the session that closes nothing and ends nothing
alike : (o : Option Session) (f : Session → Session) (x : Member) → ((s : Session) → (f s).is_closed ≡ s.is_closed) → ((s : Session) → (f s).is_done ≡ s.is_done)
    → FitsMember o x → FitsMember (option_map f o) x
alike None f x e g h = h
alike (Some s) f x e g h =
    subst₂ (λ y z. FitsSession y z x.phase x.in_closed_set x.is_released x.has_departed) (sym (e s)) (sym (g s)) h

one : (m : Machine) (i : ℕ) (x : Member) → FitsMember m.session x → AllFit m → (j : ℕ) → FitsMember m.session (member (with_member i x m) j)
one m i x new old j = set_at (λ k y. FitsMember m.session y) m.members i j x new (old j)

-- a processor is set, and the session goes on
onward : (m : Machine) (f : Session → Session) (i : ℕ) (x : Member) → ((s : Session) → (f s).is_closed ≡ s.is_closed) → ((s : Session) → (f s).is_done ≡ s.is_done)
    → FitsMember m.session x → AllFit m → (j : ℕ) → FitsMember (option_map f m.session) (member (with_member i x m) j)
onward m f i x e g new old j = alike m.session f (member (with_member i x m) j) e g (one m i x new old j)

pub fits : (d : SetupData) (m : Machine) (i : ℕ) (l : Label) → Rule d m i l → AllFit m → AllFit (effect d m i l)
fits d m i say.Silent r h = h
fits d m i (say.Excepted e) r h = h
fits d m i (say.Wave w) r h = h
fits d m i say.Enter r h = one m i (entered d i (member m i)) (moving m.session (member m i) Out In r.0 refl refl refl (h i)) h
fits d m i say.Turn r h = one m i (record (member m i) { phase = Gone }) (moving m.session (member m i) In Gone r.0 refl refl refl (h i)) h
fits d m i say.Arrive r h = one m i (record (member m i) { phase = Counted }) (unclosed m.session (member m i) Counted r.1 refl (h i)) h
fits d m i say.Late r h = one m i (record (member m i) { phase = Gone }) (moving m.session (member m i) In Gone r.0 refl refl refl (h i)) h
fits d m i say.Elect r h = λ j. (electing m.session (member m j) r.1 (h j), refl)
fits d m i (say.Served w) r h = λ j. alike m.session (serves w) (member m j) (λ s. refl) (λ s. refl) (h j)
fits d m i (say.Gather e) r h = λ j. alike m.session (gathers e) (member m j) (λ s. refl) (λ s. refl) (h j)
fits d m i (say.Ready n) r h = λ j. alike m.session made_ready (member m j) (λ s. refl) (λ s. refl) (h j)
fits d m i (say.Expire k) r h = λ j. alike m.session (has_expired k) (member m j) (λ s. refl) (λ s. refl) (h j)
fits d m i say.Quit r h = one m i (record (member m i) { phase = Gone }) (unclosed m.session (member m i) Gone r.2 refl (h i)) h
fits d m i say.Report r h = one m i (record (member m i) { phase = Here }) (reporting m.session _ (member m i) r.0 r.1 (h i)) h
fits d m i (say.Close n) r h = λ j.
    subst (FitsMember (option_map made_closed m.session)) (sym (mapped enclosed refl m.members j))
    (closing m.session _ (member m j) (λ s q. q.1.0) r.0 (h j))
fits d m i (say.Begin w) r h = λ j. alike m.session (made_begun w) (member m j) (λ s. refl) (λ s. refl) (h j)
fits d m i (say.Write c register width x S) r h =
    onward m (says (say.Write c register width x S)) c (record (member m c) { image = written S register width x (member m c).image }) (λ s. refl) (λ s. refl) (h c) h
fits d m i (say.Start c k p a) r h = onward m (says (say.Start c k p a)) c (record (member m c) { job = Some (given k p a) }) (λ s. refl) (λ s. refl) (h c) h
fits d m i (say.Run k x S) r h = onward m (hears (is_over (place_of d m)) (Ran i k x S)) i (worked d (x, S) (member m i)) (λ s. refl) (λ s. refl) (h i) h
fits d m i (say.Collect c) r h = onward m (hears (is_over (place_of d m)) (Own (say.Collect c))) c (record (member m c) { job = None }) (λ s. refl) (λ s. refl) (h c) h
fits d m i say.Done r h = λ j. finishing m.session _ (member m j) (λ s q. (q.1.2, q.1.0)) r.0 (h j)
fits d m i (say.Release c) r h = one m c (record (member m c) { is_released = true }) (releasing m.session i (member m c) r.0 (h c)) h
fits d m i say.Depart r h = one m i (record (member m i) { phase = Gone; has_departed = true }) (departing m.session _ (member m i) r.2 r.1 (h i)) h
fits d m i say.End r h = λ j.
    subst (FitsMember None) (sym (mapped cleared refl (slice_set m.members i (record (member m i) { phase = Gone })) j)) (
      record { outside = refl; kept = refl; stayed = refl },
      set_elsewhere (λ k y. is_here y.phase ≡ false) m.members i j (record (member m i) { phase = Gone }) refl refl
          (λ other within. ending m.session i (member m j) r.0 (r.1 j within other) (h j)),
    )
fits d m i (say.Resume how) r h = one m i (resumed (member m i)) (moving m.session (member m i) Gone Out r.0 refl refl refl (h i)) h
fits d m i say.Off r h = one m i (record (member m i) { phase = Off }) (moving m.session (member m i) Out Off r.0 refl refl refl (h i)) h
fits d m i l r h = λ j. alike m.session (says l) (member m j) (λ s. refl) (λ s. refl) (h j)
