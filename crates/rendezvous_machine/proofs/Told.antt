-- What was said before: that serving began, that the boot processor waited, that a processor reported.
use Rattle.std.proofs.Common.{◌≡◌, ℕ, Bool, true, false, List, [], ◌∷◌, ◌++◌, slice_index_or, slice_set, IfSome, IsSomeAnd, Option, Some, None, is_some, unwrap_or, refl, sym, ap, subst, ◌∙◌, true≢false, arith}
use Rattle.std.specs.Option.{option_map}
use Rattle.cpu_table.specs.Data.{SetupData}
use Rattle.sync_words.specs.declared.label.Label.{Label}
use Rattle.sync_words.specs.declared.label.Label.TheVariants as say
use Rattle.serving_place.specs.Forms.{Event, Own, Ran}
use Rattle.rendezvous_machine.specs.Machines.{Machine, Session, Member, Phase, Out, In, Counted, Here, Gone, Off, nobody, member, is_here}
use Rattle.rendezvous_machine.specs.Listed.{place_of, is_over, grown_unless}
use Rattle.rendezvous_machine.specs.Rules.{Rule}
use Rattle.rendezvous_machine.specs.Services.{written}
use Rattle.rendezvous_machine.specs.Effects.{effect, serves, gathers, made_ready, has_expired, made_begun, made_done, enclosed, entered, resumed, worked, given}
use Rattle.rendezvous_machine.specs.Runs.{Said}
use Rattle.rendezvous_machine.specs.Histories.{is_end, HasSaid, HasAll}
use Rattle.rendezvous_machine.proofs.Walks.{later, now}
use Rattle.rendezvous_machine.proofs.Changes.{step_of, session_after, session_is, with_rule, without_rule}
use Rattle.rendezvous_machine.proofs.Sets.{AllFit, fits, set_at, mapped}

pub some_of : {A : Type 0} (o : Option A) (F : A → Type 0) → IsSomeAnd o F → (x : A) × (o ≡ Some x) × F x
some_of None F h = absurd h
some_of (Some x) F h = (x, refl, h)

pub not_some : {A B : Type 0} (o : Option A) (x : A) → o ≡ None → o ≡ Some x → B
not_some None x e f = cc
not_some (Some y) x e f = cc

-- SERVING

still_some : {A : Type 0} (f : A → A) (o : Option A) → is_some o ≡ true → is_some (option_map f o) ≡ true
still_some f None h = h
still_some f (Some x) h = refl

still_unless : (b : Bool) (e : Event) (o : Option (List Event)) → is_some o ≡ true → is_some (grown_unless b e o) ≡ true
still_unless true e o h = h
still_unless false e o h = still_some _ o h

-- a serving list that has begun stays
still_serving : (over : Bool) (i : ℕ) (l : Label) (s : Session) → is_some s.serving ≡ true → is_some (step_of over i l s).serving ≡ true
still_serving over i say.Silent s h = h
still_serving over i (say.Excepted e) s h = h
still_serving over i (say.Wave w) s h = h
still_serving over i say.Enter s h = h
still_serving over i say.Turn s h = h
still_serving over i say.Arrive s h = h
still_serving over i say.Late s h = h
still_serving over i say.Elect s h = h
still_serving over i (say.Served w) s h = h
still_serving over i (say.Gather e) s h = h
still_serving over i (say.Ready n) s h = h
still_serving over i (say.Expire k) s h = h
still_serving over i say.Quit s h = h
still_serving over i say.Report s h = h
still_serving over i (say.Close n) s h = h
still_serving over i (say.Begin w) s h = refl
still_serving over i (say.Run j x S) s h = still_unless over (Ran i j x S) s.serving h
still_serving over i (say.Collect c) s h = still_unless over (Own (say.Collect c)) s.serving h
still_serving over i say.Done s h = h
still_serving over i (say.Release c) s h = h
still_serving over i say.Depart s h = h
still_serving over i say.End s h = h
still_serving over i (say.Resume how) s h = h
still_serving over i say.Off s h = h
still_serving over i _ s h = still_some _ s.serving h

was_some : {A : Type 0} (f : A → A) (o : Option A) → is_some (option_map f o) ≡ true → is_some o ≡ true
was_some f None h = h
was_some f (Some x) h = refl

was_unless : (b : Bool) (e : Event) (o : Option (List Event)) → is_some (grown_unless b e o) ≡ true → is_some o ≡ true
was_unless true e o h = h
was_unless false e o h = was_some _ o h

abbrev is_begin : Label → Bool
is_begin (say.Begin w) = true
is_begin _ = false

-- only its first label begins it
was_serving : (over : Bool) (i : ℕ) (l : Label) (s : Session) → is_begin l ≡ false → is_some (step_of over i l s).serving ≡ true → is_some s.serving ≡ true
was_serving over i say.Silent s n h = h
was_serving over i (say.Excepted e) s n h = h
was_serving over i (say.Wave w) s n h = h
was_serving over i say.Enter s n h = h
was_serving over i say.Turn s n h = h
was_serving over i say.Arrive s n h = h
was_serving over i say.Late s n h = h
was_serving over i say.Elect s n h = h
was_serving over i (say.Served w) s n h = h
was_serving over i (say.Gather e) s n h = h
was_serving over i (say.Ready k) s n h = h
was_serving over i (say.Expire k) s n h = h
was_serving over i say.Quit s n h = h
was_serving over i say.Report s n h = h
was_serving over i (say.Close k) s n h = h
was_serving over i (say.Begin w) s n h = absurd (true≢false n)
was_serving over i (say.Run j x S) s n h = was_unless over (Ran i j x S) s.serving h
was_serving over i (say.Collect c) s n h = was_unless over (Own (say.Collect c)) s.serving h
was_serving over i say.Done s n h = h
was_serving over i (say.Release c) s n h = h
was_serving over i say.Depart s n h = h
was_serving over i say.End s n h = h
was_serving over i (say.Resume how) s n h = h
was_serving over i say.Off s n h = h
was_serving over i _ s n h = was_some _ s.serving h

-- a session whose serving list has begun said so
abbrev pub Begun : List Said → Session → Type 0
Begun past s = is_some s.serving ≡ true → (w : ℕ) × (s.served ≡ Some w) × HasSaid s.bsp (say.Begin w) past

begun_after : (d : SetupData) (past : List Said) (m : Machine) (i : ℕ) (l : Label) → Rule d m i l → IfSome m.session (Begun past)
    → IfSome (session_after (is_over (place_of d m)) i l m.session) (Begun (past ++ (i, l) ∷ []))
begun_after d past m i say.Elect r h = λ t. absurd (true≢false (sym t))
begun_after d past m i say.End r h = tt
begun_after d past m i (say.Served w) r h =
    with_rule m.session _ (Begun past) (Begun (past ++ (i, say.Served w) ∷ [])) (serves w)
    (λ s q b t. let x = b t in not_some s.served x.0 q.1.0 x.1) r h
begun_after d past m i (say.Begin w) r h =
    with_rule m.session _ (Begun past) (Begun (past ++ (i, say.Begin w) ∷ [])) (made_begun w)
    (λ s q b t. (w, q.1.0, subst (λ k. HasSaid k (say.Begin w) (past ++ (i, say.Begin w) ∷ [])) (sym q.0) (now i (say.Begin w) past))) r h
begun_after d past m i l r h =
    without_rule m.session (Begun past) (Begun (past ++ (i, l) ∷ [])) (step_of (is_over (place_of d m)) i l)
    (λ s b t. let x = b (was_serving (is_over (place_of d m)) i l s refl t) in (x.0, x.1, later s.bsp (say.Begin x.0) past (i, l) refl x.2)) h

pub begun_step : (d : SetupData) (past : List Said) (m : Machine) (i : ℕ) (l : Label) → Rule d m i l → IfSome m.session (Begun past)
    → IfSome (effect d m i l).session (Begun (past ++ (i, l) ∷ []))
begun_step d past m i l r h =
    subst (λ o. IfSome o (Begun (past ++ (i, l) ∷ []))) (sym (session_is d m i l)) (begun_after d past m i l r h)

-- a session that is done has served
abbrev pub DoneServed : Session → Type 0
DoneServed s = s.is_done ≡ true → is_some s.serving ≡ true

done_after : (d : SetupData) (m : Machine) (i : ℕ) (l : Label) → Rule d m i l → IfSome m.session DoneServed
    → IfSome (session_after (is_over (place_of d m)) i l m.session) DoneServed
done_after d m i say.Elect r h = λ t. absurd (true≢false (sym t))
done_after d m i say.End r h = tt
done_after d m i say.Done r h =
    with_rule m.session _ DoneServed DoneServed made_done
    (λ s q b t. let w = some_of s.served _ q.1.1 in let es = some_of s.serving _ w.2 in ap is_some es.1) r.0 h
done_after d m i l r h =
    without_rule m.session DoneServed DoneServed (step_of (is_over (place_of d m)) i l)
    (λ s b t. still_serving (is_over (place_of d m)) i l s (b t)) h

pub done_step : (d : SetupData) (m : Machine) (i : ℕ) (l : Label) → Rule d m i l → IfSome m.session DoneServed → IfSome (effect d m i l).session DoneServed
done_step d m i l r h = subst (λ o. IfSome o DoneServed) (sym (session_is d m i l)) (done_after d m i l r h)

-- WAITING

pub record Waited (d : SetupData) (past : List Said) (bsp : ℕ) (gathered : Option ℕ) (is_ready : Bool) (expired : ℕ) : Type 0 where
  pub took : (e : ℕ) → gathered ≡ Some e → HasSaid bsp (say.Gather e) past
  pub counted : is_ready ≡ true → HasAll d bsp past
  pub twice : expired ≡ 2 → HasSaid bsp (say.Expire 2) past

abbrev pub HasWaitedIn : SetupData → List Said → Session → Type 0
HasWaitedIn d past s = Waited d past s.bsp s.gathered s.is_ready s.expired

all_later : (d : SetupData) (i : ℕ) (past : List Said) (e : Said) → is_end e.1 ≡ false → HasAll d i past → HasAll d i (past ++ e ∷ [])
all_later d i past e n h =
    record {
      members = h.members;
      blocked = h.blocked;
      enough = h.enough;
      gathered = later i (say.Gather h.blocked) past e n h.gathered;
      ready = later i (say.Ready h.members) past e n h.ready;
    }

waited_later : (d : SetupData) (past : List Said) (e : Said) (bsp : ℕ) (gathered : Option ℕ) (is_ready : Bool) (expired : ℕ) → is_end e.1 ≡ false
    → Waited d past bsp gathered is_ready expired → Waited d (past ++ e ∷ []) bsp gathered is_ready expired
waited_later d past e bsp gathered is_ready expired n w =
    record {
      took = λ b t. later bsp (say.Gather b) past e n (w.took b t);
      counted = λ t. all_later d bsp past e n (w.counted t);
      twice = λ t. later bsp (say.Expire 2) past e n (w.twice t);
    }

value_same : (x y : ℕ) → Some x ≡ Some y → x ≡ y
value_same x y e = ap (λ o. unwrap_or o 0) e

now_by : (i bsp : ℕ) (l : Label) (past : List Said) → bsp ≡ i → HasSaid bsp l (past ++ (i, l) ∷ [])
now_by i bsp l past e = subst (λ k. HasSaid k l (past ++ (i, l) ∷ [])) (sym e) (now i l past)

never_twice : ◌≡◌ {A = ℕ} 0 2 → ⊥
never_twice e = omega arith

waited_after : (d : SetupData) (past : List Said) (m : Machine) (i : ℕ) (l : Label) → Rule d m i l → IfSome m.session (HasWaitedIn d past)
    → IfSome (session_after (is_over (place_of d m)) i l m.session) (HasWaitedIn d (past ++ (i, l) ∷ []))
waited_after d past m i say.Elect r h =
    record { took = λ e t. cc; counted = λ t. absurd (true≢false (sym t)); twice = λ t. absurd (never_twice t) }
waited_after d past m i say.End r h = tt
waited_after d past m i (say.Gather e) r h =
    with_rule m.session _ (HasWaitedIn d past) (HasWaitedIn d (past ++ (i, say.Gather e) ∷ [])) (gathers e)
    (λ s q w. record {
      took = λ b t. subst (λ z. HasSaid s.bsp (say.Gather z) (past ++ (i, say.Gather e) ∷ [])) (value_same e b t) (now_by i s.bsp (say.Gather e) past q.0);
      counted = λ t. all_later d s.bsp past (i, say.Gather e) refl (w.counted t);
      twice = λ t. later s.bsp (say.Expire 2) past (i, say.Gather e) refl (w.twice t);
    }) r.0 h
waited_after d past m i (say.Ready n) r h =
    with_rule m.session _ (HasWaitedIn d past) (HasWaitedIn d (past ++ (i, say.Ready n) ∷ [])) made_ready
    (λ s q w. record {
      took = λ b t. later s.bsp (say.Gather b) past (i, say.Ready n) refl (w.took b t);
      counted = λ t. let g = some_of s.gathered _ q.1.2 in
          record {
            members = n;
            blocked = g.0;
            enough = g.2;
            gathered = later s.bsp (say.Gather g.0) past (i, say.Ready n) refl (w.took g.0 g.1);
            ready = now_by i s.bsp (say.Ready n) past q.0;
          };
      twice = λ t. later s.bsp (say.Expire 2) past (i, say.Ready n) refl (w.twice t);
    }) r.0 h
waited_after d past m i (say.Expire k) r h =
    with_rule m.session _ (HasWaitedIn d past) (HasWaitedIn d (past ++ (i, say.Expire k) ∷ [])) (has_expired k)
    (λ s q w. record {
      took = λ b t. later s.bsp (say.Gather b) past (i, say.Expire k) refl (w.took b t);
      counted = λ t. all_later d s.bsp past (i, say.Expire k) refl (w.counted t);
      twice = λ t. subst (λ z. HasSaid s.bsp (say.Expire z) (past ++ (i, say.Expire k) ∷ [])) t (now_by i s.bsp (say.Expire k) past q.0);
    }) r h
waited_after d past m i l r h =
    without_rule m.session (HasWaitedIn d past) (HasWaitedIn d (past ++ (i, l) ∷ [])) (step_of (is_over (place_of d m)) i l)
    (λ s w. waited_later d past (i, l) s.bsp s.gathered s.is_ready s.expired refl w) h

pub waited_step : (d : SetupData) (past : List Said) (m : Machine) (i : ℕ) (l : Label) → Rule d m i l → IfSome m.session (HasWaitedIn d past)
    → IfSome (effect d m i l).session (HasWaitedIn d (past ++ (i, l) ∷ []))
waited_step d past m i l r h =
    subst (λ o. IfSome o (HasWaitedIn d (past ++ (i, l) ∷ []))) (sym (session_is d m i l)) (waited_after d past m i l r h)

-- REPORTS

abbrev Reported : List Said → ℕ → Member → Type 0
Reported past j x = is_here x.phase ≡ true → HasSaid j say.Report past

abbrev pub AllTold : List Said → Machine → Type 0
AllTold past m = (j : ℕ) → Reported past j (member m j)

elsewhere : {A : Type 0} (p : Phase) → is_here p ≡ false → is_here p ≡ true → A
elsewhere p n t = absurd (true≢false (sym t ∙ n))

one_told : (past : List Said) (m : Machine) (i c : ℕ) (l : Label) (x : Member) → is_end l ≡ false → Reported (past ++ (i, l) ∷ []) c x → AllTold past m
    → (xs : List Member) → xs ≡ m.members → (j : ℕ) → Reported (past ++ (i, l) ∷ []) j (slice_index_or (slice_set xs c x) j nobody)
one_told past m i c l x n new old xs e j =
    set_at (Reported (past ++ (i, l) ∷ [])) xs c j x new
    (λ t. later j say.Report past (i, l) n (old j (subst (λ ys. is_here (slice_index_or ys j nobody).phase ≡ true) e t)))

-- a phase in which a processor isn't there
pub told : (d : SetupData) (past : List Said) (m : Machine) (i : ℕ) (l : Label) → Rule d m i l → AllFit m → AllTold past m
    → AllTold (past ++ (i, l) ∷ []) (effect d m i l)
told d past m i say.Enter r f h = one_told past m i i say.Enter (entered d i (member m i)) refl (elsewhere In refl) h m.members refl
told d past m i say.Turn r f h = one_told past m i i say.Turn (record (member m i) { phase = Gone }) refl (elsewhere Gone refl) h m.members refl
told d past m i say.Arrive r f h = one_told past m i i say.Arrive (record (member m i) { phase = Counted }) refl (elsewhere Counted refl) h m.members refl
told d past m i say.Late r f h = one_told past m i i say.Late (record (member m i) { phase = Gone }) refl (elsewhere Gone refl) h m.members refl
told d past m i say.Quit r f h = one_told past m i i say.Quit (record (member m i) { phase = Gone }) refl (elsewhere Gone refl) h m.members refl
told d past m i say.Report r f h = one_told past m i i say.Report (record (member m i) { phase = Here }) refl (λ t. now i say.Report past) h m.members refl
told d past m i (say.Close n) r f h = λ j.
    subst (Reported (past ++ (i, say.Close n) ∷ []) j) (sym (mapped enclosed refl m.members j)) (λ t. later j say.Report past (i, say.Close n) refl (h j t))
told d past m i (say.Write c register width x S) r f h =
    one_told past m i c (say.Write c register width x S) (record (member m c) { image = written S register width x (member m c).image }) refl
    (λ t. later c say.Report past (i, say.Write c register width x S) refl (h c t)) h m.members refl
told d past m i (say.Start c k p a) r f h =
    one_told past m i c (say.Start c k p a) (record (member m c) { job = Some (given k p a) }) refl
    (λ t. later c say.Report past (i, say.Start c k p a) refl (h c t)) h m.members refl
told d past m i (say.Run k x S) r f h =
    one_told past m i i (say.Run k x S) (worked d (x, S) (member m i)) refl (λ t. later i say.Report past (i, say.Run k x S) refl (h i t)) h m.members refl
told d past m i (say.Collect c) r f h =
    one_told past m i c (say.Collect c) (record (member m c) { job = None }) refl (λ t. later c say.Report past (i, say.Collect c) refl (h c t)) h m.members refl
told d past m i (say.Release c) r f h =
    one_told past m i c (say.Release c) (record (member m c) { is_released = true }) refl
    (λ t. later c say.Report past (i, say.Release c) refl (h c t)) h m.members refl
told d past m i say.Depart r f h =
    one_told past m i i say.Depart (record (member m i) { phase = Gone; has_departed = true }) refl (elsewhere Gone refl) h m.members refl
told d past m i say.End r f h = λ j t. absurd (true≢false (sym t ∙ (fits d m i say.End r f j).1))
told d past m i (say.Resume how) r f h = one_told past m i i (say.Resume how) (resumed (member m i)) refl (elsewhere Out refl) h m.members refl
told d past m i say.Off r f h = one_told past m i i say.Off (record (member m i) { phase = Off }) refl (elsewhere Off refl) h m.members refl
told d past m i l r f h = λ j t. later j say.Report past (i, l) refl (h j t)
