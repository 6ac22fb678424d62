-- The laws on runs from the beginning.
use Rattle.std.proofs.Common.{◌≡◌, ◌≢◌, ◌<◌, ◌⊎◌, ℕ, zero, suc, Bool, true, false, List, [], ◌∷◌, ◌++◌, length, zip, map, slice_index_or, IfSome, IsSomeAnd, Option, Some, None, is_some, refl, sym, ap, subst, inl, inr, ⊎_elim, ◌∙◌, true≢false, arith}
use Rattle.std.specs.Option.{option_map}
use Rattle.save_state_map.specs.Images.{ImageContents}
use Rattle.cpu_regs.specs.Registers.{Registers}
use Rattle.cpu_table.specs.Data.{SetupData}
use Rattle.cpu_table.specs.declared.setup.Mode.{Mode}
use Rattle.cpu_table.specs.declared.setup.Mode.TheVariants.{Traditional, Relaxed}
use Rattle.sync_words.specs.declared.label.Label.{Label}
use Rattle.sync_words.specs.declared.label.Label.TheVariants as say
use Rattle.sync_words.specs.declared.label.StartRefusal.{StartRefusal}
use Rattle.serving_place.specs.Serving.{Serving, ran}
use Rattle.serving_place.specs.Forms.{Event, Own, Ran, Ends, Says, IsPrefix}
use Rattle.serving_place.specs.Beginning.{walks_of, program_of}
use Rattle.rendezvous_machine.specs.Machines.{Machine, Session, Member, nobody, member, first_member, beginning, is_here, is_counted_phase}
use Rattle.rendezvous_machine.specs.Listed.{place_of, is_over, CanSay, first_serving}
use Rattle.rendezvous_machine.specs.Refusals.{refusal}
use Rattle.rendezvous_machine.specs.Rules.{Rule, MayClose, MayBegin}
use Rattle.rendezvous_machine.specs.Effects.{effect, serves}
use Rattle.rendezvous_machine.specs.Runs.{Said, IsRun, machine_after}
use Rattle.rendezvous_machine.specs.Histories.{is_end, has_end, HasSaid, HasBegun, HasAll}
use Rattle.rendezvous_machine.proofs.Walks.{front_of, rest_of, either, kept, kept_open, history}
use Rattle.rendezvous_machine.proofs.Changes.{step_of, session_after, session_is}
use Rattle.rendezvous_machine.proofs.Sets.{FitsMember, FitsSession, AllFit, fits}
use Rattle.rendezvous_machine.proofs.Told.{some_of, not_some, Begun, begun_step, DoneServed, done_step, HasWaitedIn, waited_step, AllTold, told}

-- REFUSALS

pub refused : (d : SetupData) (m : Machine) (before after : List Said) (i c : ℕ) (cause : StartRefusal)
    → IsRun d m (before ++ ((i, say.Refuse c cause) ∷ after)) → refusal d (machine_after d m before) i ≡ Some cause
refused d m before after i c cause r = (rest_of d m before ((i, say.Refuse c cause) ∷ after) r).0.1

-- CALLS

not_empty : (xs : List Event) (x : Event) (ys : List Event) → (xs ++ x ∷ []) ++ ys ≡ [] → ⊥
not_empty [] x ys e = cc
not_empty (z ∷ xs) x ys e = cc

-- the list of a session without walks has no call
no_call : (w h : ℕ) (t : Serving) (es more : List Event)
    → Says (λ s m. m ≡ say.Begin w) (λ s m. s) Ends t ((es ++ Own (say.Call h) ∷ []) ++ more) → ⊥
no_call w h t [] more x = not_begin x.0
  where
    not_begin : say.Call h ≡ say.Begin w → ⊥
    not_begin e = cc
no_call w h t (Own l ∷ es) more x = not_empty es (Own (say.Call h)) more x.1
no_call w h t (Ran c j y S ∷ es) more x = no_call w h (ran c y S t) es more x.1

has_wave : (d : SetupData) (w h : ℕ) (t : Serving) (es : List Event) → IsPrefix (program_of d) w (walks_of d.waves w) t (es ++ Own (say.Call h) ∷ []) → 0 < w
has_wave d zero h t es x = absurd (no_call zero h t es x.0 x.1)
has_wave d (suc w) h t es x = omega arith

called_by : (d : SetupData) (m : Machine) (i h : ℕ) (past : List Said) (o : Option Session)
    → IsSomeAnd o (λ s. (s.bsp ≡ i) × CanSay d m (say.Call h) s) → IfSome o (Begun past) → HasBegun i past
called_by d m i h past None r b = absurd r
called_by d m i h past (Some s) r b =
    let served = some_of s.served _ r.1 in
    let listed = some_of s.serving _ served.2 in
    let x = b (ap is_some listed.1) in
    let same : served.0 ≡ x.0 = some_same served.0 x.0 s.served served.1 x.1 in
    (x.0, subst (λ w. 0 < w) same (has_wave d served.0 h (first_serving d m) listed.0 listed.2), subst (λ k. HasSaid k (say.Begin x.0) past) r.0 x.2)
  where
    some_same : (a b : ℕ) (o : Option ℕ) → o ≡ Some a → o ≡ Some b → a ≡ b
    some_same a b None e f = cc
    some_same a b (Some c) e f = cc

pub called : (d : SetupData) (m : Machine) (before after : List Said) (i h : ℕ) → m.session ≡ None
    → IsRun d m (before ++ ((i, say.Call h) ∷ after)) → HasBegun i before
called d m before after i h n r =
    called_by d (machine_after d m before) i h before (machine_after d m before).session
    (rest_of d m before ((i, say.Call h) ∷ after) r).0
    (history d (λ past x. IfSome x.session (Begun past)) (begun_step d) [] m before (front_of d m before ((i, say.Call h) ∷ after) r)
    (subst (λ o. IfSome o (Begun [])) (sym n) tt))

-- a session that serves no wave
abbrev ServesNone : Option Session → Type 0
ServesNone o = IsSomeAnd o (λ s. s.served ≡ Some 0)

none_kept : (o : Option Session) (f : Session → Session) → ((s : Session) → (f s).served ≡ s.served) → ServesNone o → ServesNone (option_map f o)
none_kept None f e h = h
none_kept (Some s) f e h = e s ∙ h

no_election : (o : Option Session) → o ≡ None → ServesNone o → ⊥
no_election None e h = h
no_election (Some s) e h = cc

no_serving : (o : Option Session) (i w v : ℕ) → IsSomeAnd o (λ s. (s.bsp ≡ i) × ((s.served ≡ None) × (w ≡ v))) → ServesNone o → ⊥
no_serving None i w v r h = h
no_serving (Some s) i w v r h = not_some s.served 0 r.1.0 h

none_after : (d : SetupData) (m : Machine) (i : ℕ) (l : Label) → is_end l ≡ false → Rule d m i l → ServesNone m.session
    → ServesNone (session_after (is_over (place_of d m)) i l m.session)
none_after d m i say.Elect n r h = absurd (no_election m.session r.1 h)
none_after d m i say.End n r h = absurd (true≢false n)
none_after d m i (say.Served w) n r h = absurd (no_serving m.session i w m.source r h)
none_after d m i l n r h = none_kept m.session (step_of (is_over (place_of d m)) i l) (λ s. refl) h

none_step : (d : SetupData) (m : Machine) (i : ℕ) (l : Label) → is_end l ≡ false → Rule d m i l → ServesNone m.session → ServesNone (effect d m i l).session
none_step d m i l n r h = subst ServesNone (sym (session_is d m i l)) (none_after d m i l n r h)

now_none : (o : Option Session) (F : Session → Type 0) → IsSomeAnd o F → ServesNone (option_map (serves 0) o)
now_none None F r = absurd r
now_none (Some s) F r = refl

not_called : (d : SetupData) (m : Machine) (i h : ℕ) (o : Option Session) → IsSomeAnd o (λ s. (s.bsp ≡ i) × CanSay d m (say.Call h) s) → ServesNone o → ⊥
not_called d m i h None r n = n
not_called d m i h (Some s) r n =
    let served = some_of s.served _ r.1 in
    let listed = some_of s.serving _ served.2 in
    let positive = has_wave d served.0 h (first_serving d m) listed.0 listed.2 in
    no_zero served.0 s.served served.1 n positive
  where
    no_zero : (w : ℕ) (o : Option ℕ) → o ≡ Some w → o ≡ Some 0 → 0 < w → ⊥
    no_zero zero o e f p = omega arith
    no_zero (suc w) None e f p = cc
    no_zero (suc w) (Some v) e f p = cc

pub none_called : (d : SetupData) (m : Machine) (before middle after : List Said) (i j h : ℕ)
    → IsRun d m (before ++ ((i, say.Served 0) ∷ (middle ++ ((j, say.Call h) ∷ after)))) → has_end middle ≡ true
none_called d m before middle after i j h r =
    let first = machine_after d m before in
    let r1 = rest_of d m before ((i, say.Served 0) ∷ (middle ++ ((j, say.Call h) ∷ after))) r in
    let second = effect d first i (say.Served 0) in
    let r2 = rest_of d second middle ((j, say.Call h) ∷ after) r1.1 in
    either (has_end middle) (λ e. e)
    (λ n. absurd (not_called d (machine_after d second middle) j h (machine_after d second middle).session r2.0
    (kept_open d (λ x. ServesNone x.session) (none_step d) second middle n (front_of d second middle ((j, say.Call h) ∷ after) r1.1)
    (now_none first.session _ r1.0))))

-- WAITING AND REPORTS

waited_by : (d : SetupData) (m : Machine) (i : ℕ) (past : List Said) (mode : Mode) (o : Option Session) → mode ≡ Traditional
    → IsSomeAnd o (λ s. (s.bsp ≡ i) × ((s.is_closed ≡ false) × MayClose d m mode s)) → IfSome o (HasWaitedIn d past)
    → HasAll d i past ⊎ HasSaid i (say.Expire 2) past
waited_by d m i past Traditional None e r h = absurd r
waited_by d m i past Traditional (Some s) e r h =
    ⊎_elim (λ t. inl (subst (λ k. HasAll d k past) r.0 (h.counted t))) (λ t. inr (subst (λ k. HasSaid k (say.Expire 2) past) r.0 (h.twice t))) r.1.1
waited_by d m i past Relaxed o e r h = cc

pub waited : (d : SetupData) (m : Machine) (before after : List Said) (i n : ℕ) → m.session ≡ None
    → IsRun d m (before ++ ((i, say.Close n) ∷ after)) → d.mode ≡ Traditional → HasAll d i before ⊎ HasSaid i (say.Expire 2) before
waited d m before after i n none r mode =
    waited_by d (machine_after d m before) i before d.mode (machine_after d m before).session mode
    (rest_of d m before ((i, say.Close n) ∷ after) r).0.0
    (history d (λ past x. IfSome x.session (HasWaitedIn d past)) (waited_step d) [] m before (front_of d m before ((i, say.Close n) ∷ after) r)
    (subst (λ o. IfSome o (HasWaitedIn d [])) (sym none) tt))

in_range : (xs : List Member) (j : ℕ) → (slice_index_or xs j nobody).in_closed_set ≡ true → j < length xs
in_range [] j e = absurd (true≢false (sym e))
in_range (x ∷ xs) zero e = omega arith
in_range (x ∷ xs) (suc j) e = let l = in_range xs j e in omega arith

-- who is in the closed set of a session that hasn't begun to serve is counted
counted_in : (closed done : Bool) (x : Member) → closed ≡ true → done ≡ false
    → FitsSession closed done x.phase x.in_closed_set x.is_released x.has_departed → x.in_closed_set ≡ true → is_counted_phase x.phase ≡ true
counted_in false done x e f h t = absurd (true≢false (sym e))
counted_in true true x e f h t = absurd (true≢false f)
counted_in true false x e f h t = sym h.inside ∙ t

no_list : {A : Type 0} (o : Option A) → o ≡ None → is_some o ≡ true → ⊥
no_list None e h = absurd (true≢false (sym h))
no_list (Some x) e h = cc

reported_by : (d : SetupData) (m : Machine) (i w j : ℕ) (mode : Mode) (o : Option Session) → mode ≡ Traditional
    → IsSomeAnd o (λ s. (s.bsp ≡ i) × ((s.served ≡ Some w) × (s.serving ≡ None) × MayBegin m mode s)) → IfSome o DoneServed
    → FitsMember o (member m j) → j ≢ i → (member m j).in_closed_set ≡ true → is_here (member m j).phase ≡ true
reported_by d m i w j Traditional None e r t f n c = absurd r
reported_by d m i w j Traditional (Some s) e r t f n c =
    let undone : s.is_done ≡ false = either s.is_done (λ y. absurd (no_list s.serving r.1.1 (t y))) (λ y. y) in
    let counted = counted_in s.is_closed s.is_done (member m j) r.1.2.0 undone f c in
    ap is_here (r.1.2.1 j (in_range m.members j c) (λ e. n (e ∙ r.0)) counted)
reported_by d m i w j Relaxed o e r t f n c = cc

-- the first members are in no set, and none is there
first_fits : (xs : List (Registers × ImageContents)) (j : ℕ) → FitsMember None (slice_index_or (map (λ x. first_member x.0 x.1) xs) j nobody)
first_fits [] j = (record { outside = refl; kept = refl; stayed = refl }, refl)
first_fits (x ∷ xs) zero = (record { outside = refl; kept = refl; stayed = refl }, refl)
first_fits (x ∷ xs) (suc j) = first_fits xs j

pub all_reported : (d : SetupData) (m : Machine) (before after : List Said) (i j w : ℕ) → m.session ≡ None → AllFit m → ((k : ℕ) → FitsMember None (member m k))
    → IsRun d m (before ++ ((i, say.Begin w) ∷ after)) → d.mode ≡ Traditional → j ≢ i
    → (member (machine_after d m before) j).in_closed_set ≡ true → HasSaid j say.Report before
all_reported d m before after i j w none fit first r mode n c =
    let last = machine_after d m before in
    let run = front_of d m before ((i, say.Begin w) ∷ after) r in
    let fit_then : AllFit last = kept d AllFit (fits d) m before run fit in
    let both = history d (λ past x. AllFit x × AllTold past x) (λ past x k l q h. (fits d x k l q h.0, told d past x k l q h.0 h.1)) [] m before run
    (fit, λ k t. absurd (true≢false (sym t ∙ (first k).1))) in
    both.1 j
    (reported_by d last i w j d.mode last.session mode (rest_of d m before ((i, say.Begin w) ∷ after) r).0
    (kept d (λ x. IfSome x.session DoneServed) (done_step d) m before run (subst (λ o. IfSome o DoneServed) (sym none) tt)) (fit_then j) n c)

pub first_all : (d : SetupData) (registers : List Registers) (images : List ImageContents) (j : ℕ) → FitsMember None (member (beginning d registers images) j)
first_all d registers images j = first_fits (zip registers images) j
