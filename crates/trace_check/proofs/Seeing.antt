-- What is seen of the machine after a label is what the label makes of what is seen of it.
use Rattle.std.proofs.Common.{◌≡◌, ◌⊎◌, ℕ, Bool, true, false, List, [], ◌∷◌, ◌++◌, map, Option, Some, None, IsSomeAnd, is_some, refl, sym, ap, subst, ⊎_elim, ◌∙◌, true≢false}
use Rattle.std.specs.Option.{option_map}
use Rattle.smm_base.specs.declared.kinds.HandlerType.{HandlerType}
use Rattle.cpu_table.specs.Data.{SetupData}
use Rattle.sync_words.specs.declared.label.Label.{Label}
use Rattle.sync_words.specs.declared.label.Label.TheVariants as say
use Rattle.handler_registry.specs.Registrations.{Registrations}
use Rattle.smram_pool.specs.State.{PoolState}
use Rattle.handler_ops.specs.Course.{after_all}
use Rattle.serving_place.specs.Serving.{Serving}
use Rattle.serving_place.specs.Forms.{Event, Own, Ran}
use Rattle.serving_place.specs.Beginning.{program_of, walks_of, at_begin}
use Rattle.serving_place.specs.Places.{Place, OpenWalk, Begun, at_first, next, HasMore}
use Rattle.serving_place.specs.Due.{due}
use Rattle.serving_judge.specs.Judging.{Judging, begun}
use Rattle.serving_judge.specs.Tests.{is_nothing}
use Rattle.serving_judge.proofs.Placing.{over_tells}
use Rattle.rendezvous_machine.specs.Machines.{Machine}
use Rattle.rendezvous_machine.specs.Machines as machine
use Rattle.rendezvous_machine.specs.Listed.{first_serving, place_by, place_in, nothing_left, is_over, grown, grown_unless, CanSay}
use Rattle.rendezvous_machine.specs.Rules.{Rule}
use Rattle.rendezvous_machine.specs.Effects.{effect, says, hears, serves, made_begun, enclosed, given}
use Rattle.rendezvous_machine.proofs.Lists.{Jobs, FitsList, FitsJobs, JobsFit, jobs_of, CanFollow}
use Rattle.trace_check.specs.Judged.{Judged, Session, session_of, speaker_by, speaker_of, seen}
use Rattle.trace_members.specs.Changes.{with_write, with_job, with_run}
use Rattle.trace_check.specs.Afterwards.{opened, changed_by, said, unless, after_label}

-- the place after one more event
after_one : (d : SetupData) (p : Place) (es : List Event) (e : Event) → after_all (program_of d) p (es ++ e ∷ []) ≡ next (program_of d) (after_all (program_of d) p es) e
after_one d p [] e = refl
after_one d p (x ∷ es) e = after_one d (next (program_of d) p x) es e

-- WHETHER NOTHING IS LEFT

none_more : (kinds : List HandlerType) (walks : List OpenWalk) (b : Option Begun) → nothing_left kinds walks b ≡ true → HasMore kinds walks b → ⊥
none_more [] [] None e h = h
none_more (k ∷ ks) ws b e h = absurd (true≢false (sym e))
none_more [] (w ∷ ws) b e h = absurd (true≢false (sym e))
none_more [] [] (Some b) e h = absurd (true≢false (sym e))

some_more : (kinds : List HandlerType) (walks : List OpenWalk) (b : Option Begun) → nothing_left kinds walks b ≡ false → (HasMore kinds walks b → ⊥) → ⊥
some_more [] [] None e h = true≢false e
some_more (k ∷ ks) ws b e h = h tt
some_more [] (w ∷ ws) b e h = h tt
some_more [] [] (Some b) e h = h tt

left_is : (d : SetupData) (p : Place) (b c : Bool) → is_over p ≡ b → is_nothing (due (program_of d) p) ≡ c → b ≡ c
left_is d p true true e f = refl
left_is d p false false e f = refl
left_is d p true false e f = let t : is_nothing (due (program_of d) p) ≡ true = (over_tells (program_of d) p).1 (none_more p.kinds p.walks p.begun e) in absurd (true≢false (sym t ∙ f))
left_is d p false true e f = absurd (some_more p.kinds p.walks p.begun e ((over_tells (program_of d) p).0 f))

pub over_same : (d : SetupData) (p : Place) → is_over p ≡ is_nothing (due (program_of d) p)
over_same d p = left_is d p (is_over p) (is_nothing (due (program_of d) p)) refl refl

-- WHAT IS SEEN OF A SESSION

abbrev judging_at : SetupData → Serving → Option machine.Session → Judging
judging_at d begin o = record { setup = d; bsp = speaker_of o; place = place_in d begin o }

abbrev Look : Type 0
Look = Option Session × Judging

abbrev looks : SetupData → Serving → Option machine.Session → Look
looks d begin o = (option_map session_of o, judging_at d begin o)

-- a label that changes the session alone
changed : (d : SetupData) (begin : Serving) (o : Option machine.Session) (f : machine.Session → machine.Session) (g : Session → Session)
    → ((s : machine.Session) → looks d begin (Some (f s)) ≡ (Some (g (session_of s)), judging_at d begin (Some s)))
    → looks d begin (option_map f o) ≡ (option_map g (option_map session_of o), judging_at d begin o)
changed d begin None f g h = refl
changed d begin (Some s) f g h = h s

-- a label by what its rule says of the session
changed_rule : (d : SetupData) (begin : Serving) (jobs : Jobs) (o : Option machine.Session) (F : machine.Session → Type 0) (f : machine.Session → machine.Session)
    (T : Option Session → Option Session) (K : Judging → Judging)
    → ((s : machine.Session) → F s → FitsList d 0 begin jobs s.served s.serving s.is_done → looks d begin (Some (f s)) ≡ (T (Some (session_of s)), K (judging_at d begin (Some s))))
    → IsSomeAnd o F → FitsJobs d 0 begin jobs o → looks d begin (option_map f o) ≡ (T (option_map session_of o), K (judging_at d begin o))
changed_rule d begin jobs None F f T K h r k = absurd r
changed_rule d begin jobs (Some s) F f T K h r k = h s r k

served_place : (d : SetupData) (begin : Serving) (jobs : Jobs) (w : ℕ) (served : Option ℕ) (serving : Option (List Event)) (done : Bool) → served ≡ None
    → FitsList d 0 begin jobs served serving done → place_by d begin (Some w) serving ≡ place_by d begin served serving
served_place d begin jobs w None None done e h = refl
served_place d begin jobs w (Some v) None done e h = absurd cc
served_place d begin jobs w None (Some es) done e h = absurd h
served_place d begin jobs w (Some v) (Some es) done e h = absurd cc

-- the list begins
abbrev begun_judging : SetupData → Serving → ℕ → ℕ → Option ℕ → Judging
begun_judging d begin w bsp served = record { setup = d; bsp = bsp; place = place_by d begin served (Some (Own (say.Begin w) ∷ [])) }

abbrev unbegun_judging : SetupData → Serving → ℕ → Option ℕ → Option (List Event) → Judging
unbegun_judging d begin bsp served serving = record { setup = d; bsp = speaker_by bsp serving; place = place_by d begin served serving }

begun_is : (d : SetupData) (g : Registrations) (q : PoolState) (w bsp i : ℕ) (served : Option ℕ) (serving : Option (List Event)) → bsp ≡ i → served ≡ Some w → serving ≡ None
    → begun_judging d (at_begin d g q) w bsp served ≡ said (say.Begin w) (begun i w (unbegun_judging d (at_begin d g q) bsp served serving))
begun_is d g q w bsp i served serving e f n =
    subst (λ (o : Option ℕ). begun_judging d (at_begin d g q) w bsp o ≡ said (say.Begin w) (begun i w (unbegun_judging d (at_begin d g q) bsp o serving))) (sym f)
    (subst (λ (z : Option (List Event)). begun_judging d (at_begin d g q) w bsp (Some w) ≡ said (say.Begin w) (begun i w (unbegun_judging d (at_begin d g q) bsp (Some w) z))) (sym n)
    (ap (λ (k : ℕ). begun_judging d (at_begin d g q) w k (Some w)) e))

-- the list grows by a label that can be said
grown_is : (d : SetupData) (begin : Serving) (l : Label) (bsp : ℕ) (served : Option ℕ) (serving : Option (List Event)) → CanFollow d begin l served serving
    → unbegun_judging d begin bsp served (grown (Own l) serving) ≡ said l (unbegun_judging d begin bsp served serving)
grown_is d begin l bsp None None h = absurd h
grown_is d begin l bsp None (Some es) h = absurd h
grown_is d begin l bsp (Some w) None h = absurd h
grown_is d begin l bsp (Some w) (Some es) h = λ t.
    record { setup = d; bsp = bsp; place = after_one d (at_first w (walks_of d.waves w) begin) es (Own l) t }

still_begun : (e : Event) (serving : Option (List Event)) → is_some (grown e serving) ≡ is_some serving
still_begun e None = refl
still_begun e (Some es) = refl

said_looks : (d : SetupData) (begin : Serving) (l : Label) (s : machine.Session) → CanFollow d begin l s.served s.serving
    → looks d begin (Some (says l s)) ≡ (Some (session_of s), said l (judging_at d begin (Some s)))
said_looks d begin l s h = λ t. (
  Some (record (session_of s) { has_begun = still_begun (Own l) s.serving t }),
  grown_is d begin l s.bsp s.served s.serving h t,
)

-- an event that is heard, unless the list is whole
heard_by : (d : SetupData) (begin : Serving) (w bsp : ℕ) (es : List Event) (e : Event) (b c : Bool) → b ≡ c
    → unbegun_judging d begin bsp (Some w) (grown_unless b e (Some es))
    ≡ unless c (unbegun_judging d begin bsp (Some w) (Some es))
    (record (unbegun_judging d begin bsp (Some w) (Some es)) { place = next (program_of d) (place_by d begin (Some w) (Some es)) e })
heard_by d begin w bsp es e true true h = refl
heard_by d begin w bsp es e false false h = λ t. record { setup = d; bsp = bsp; place = after_one d (at_first w (walks_of d.waves w) begin) es e t }
heard_by d begin w bsp es e true false h = absurd (true≢false h)
heard_by d begin w bsp es e false true h = absurd (true≢false (sym h))

abbrev heard_judging : SetupData → Serving → Event → ℕ → Option ℕ → Option (List Event) → Judging
heard_judging d begin e bsp served serving =
    unless (is_nothing (due (program_of d) (place_by d begin served serving))) (unbegun_judging d begin bsp served serving)
    (record (unbegun_judging d begin bsp served serving) { place = next (program_of d) (place_by d begin served serving) e })

heard_in : (d : SetupData) (begin : Serving) (jobs : Jobs) (e : Event) (bsp : ℕ) (served : Option ℕ) (serving : Option (List Event)) (done : Bool)
    → FitsList d 0 begin jobs served serving done
    → unbegun_judging d begin bsp served (grown_unless (is_over (place_by d begin served serving)) e serving) ≡ heard_judging d begin e bsp served serving
heard_in d begin jobs e bsp None None done h = refl
heard_in d begin jobs e bsp (Some w) None done h = refl
heard_in d begin jobs e bsp None (Some es) done h = absurd h
heard_in d begin jobs e bsp (Some w) (Some es) done h =
    heard_by d begin w bsp es e (is_over (place_by d begin (Some w) (Some es))) (is_nothing (due (program_of d) (place_by d begin (Some w) (Some es))))
    (over_same d (place_by d begin (Some w) (Some es)))

still_begun_unless : (b : Bool) (e : Event) (serving : Option (List Event)) → is_some (grown_unless b e serving) ≡ is_some serving
still_begun_unless true e serving = refl
still_begun_unless false e serving = still_begun e serving

heard : (d : SetupData) (begin : Serving) (jobs : Jobs) (e : Event) (o : Option machine.Session) → FitsJobs d 0 begin jobs o
    → looks d begin (option_map (hears (is_over (place_in d begin o)) e) o)
    ≡ (option_map session_of o, unless (is_nothing (due (program_of d) (place_in d begin o))) (judging_at d begin o) (record (judging_at d begin o) { place = next (program_of d) (place_in d begin o) e }))
heard d begin jobs e None h = refl
heard d begin jobs e (Some s) h = λ t. (
  Some (record (session_of s) { has_begun = still_begun_unless (is_over (place_by d begin s.served s.serving)) e s.serving t }),
  heard_in d begin jobs e s.bsp s.served s.serving s.is_done h t,
)

-- THE LABELS

abbrev with_look : Judged → Look → Judged
with_look j z = record j { session = z.0; judging = z.1 }

-- a label by which only the list grows
plain : (d : SetupData) (m : Machine) (i : ℕ) (l : Label) (j : Judged) → IsSomeAnd m.session (λ s. (s.bsp ≡ i) × CanSay d m l s) → JobsFit d 0 m
    → with_look j (looks d (first_serving d m) (option_map (says l) m.session))
    ≡ with_look j (option_map session_of m.session, said l (judging_at d (first_serving d m) m.session))
plain d m i l j r h =
    ap (with_look j)
    (changed_rule d (first_serving d m) (jobs_of m) m.session (λ s. (s.bsp ≡ i) × CanSay d m l s) (says l) (λ o. o) (said l)
    (λ s q k. said_looks d (first_serving d m) l s q.1) r h)

alone : (d : SetupData) (m : Machine) (j : Judged) (f : machine.Session → machine.Session) (g : Session → Session)
    → ((s : machine.Session) → looks d (first_serving d m) (Some (f s)) ≡ (Some (g (session_of s)), judging_at d (first_serving d m) (Some s)))
    → with_look j (looks d (first_serving d m) (option_map f m.session))
    ≡ with_look j (option_map g (option_map session_of m.session), judging_at d (first_serving d m) m.session)
alone d m j f g h = ap (with_look j) (changed d (first_serving d m) m.session f g h)

pub seen_after : (d : SetupData) (m : Machine) (i : ℕ) (l : Label) → Rule d m i l → JobsFit d 0 m → seen d (effect d m i l) ≡ after_label (seen d m) i l
seen_after d m i say.Silent r h = refl
seen_after d m i (say.Excepted e) r h = refl
seen_after d m i (say.Wave w) r h = refl
seen_after d m i say.Enter r h = refl
seen_after d m i say.Turn r h = refl
seen_after d m i say.Arrive r h = refl
seen_after d m i say.Late r h = refl
seen_after d m i say.Elect r h =
    ap (λ (o : Option machine.Session). with_look (seen d m) (Some (opened i), judging_at d (first_serving d m) o)) (sym r.1)
seen_after d m i (say.Served w) r h =
    ap (with_look (record (seen d m) { source = 0 }))
    (changed_rule d (first_serving d m) (jobs_of m) m.session (λ s. (s.bsp ≡ i) × ((s.served ≡ None) × (w ≡ m.source))) (serves w)
    (option_map (changed_by (say.Served w))) (λ g. g)
    (λ s q k. λ t. (
      Some (changed_by (say.Served w) (session_of s)),
      record { setup = d; bsp = speaker_by s.bsp s.serving; place = served_place d (first_serving d m) (jobs_of m) w s.served s.serving s.is_done q.1.0 k t },
    )) r h)
seen_after d m i (say.Gather e) r h = alone d m (seen d m) _ (changed_by (say.Gather e)) (λ s. refl)
seen_after d m i (say.Ready n) r h = alone d m (seen d m) _ (changed_by (say.Ready n)) (λ s. refl)
seen_after d m i (say.Expire k) r h = alone d m (seen d m) _ (changed_by (say.Expire k)) (λ s. refl)
seen_after d m i say.Quit r h = refl
seen_after d m i say.Report r h = refl
seen_after d m i (say.Close n) r h = alone d m (record (seen d m) { members = map enclosed m.members }) _ (changed_by (say.Close n)) (λ s. refl)
seen_after d m i (say.Begin w) r h =
    ap (with_look (seen d m))
    (changed_rule d (first_serving d m) (jobs_of m) m.session _ (made_begun w) (option_map (changed_by (say.Begin w))) (λ g. said (say.Begin w) (begun i w g))
    (λ s q k. λ t. (
      Some (changed_by (say.Begin w) (session_of s)),
      begun_is d m.registrations m.pool w s.bsp i s.served s.serving q.0 q.1.0 q.1.1 t,
    )) r h)
seen_after d m i (say.Read c register width x S) r h = plain d m i (say.Read c register width x S) (seen d m) r.0 h
seen_after d m i (say.Write c register width x S) r h =
    plain d m i (say.Write c register width x S) (record (seen d m) { members = with_write c register width x S m.members }) r.0 h
seen_after d m i (say.Refuse c x) r h = plain d m i (say.Refuse c x) (seen d m) r.0 h
seen_after d m i (say.Start c n p a) r h =
    plain d m i (say.Start c n p a) (record (seen d m) { members = with_job c (Some (given n p a)) m.members }) r.0 h
seen_after d m i (say.Run n x S) r h =
    ap (with_look (record (seen d m) { members = with_run d i (x, S) m.members })) (heard d (first_serving d m) (jobs_of m) (Ran i n x S) m.session h)
seen_after d m i (say.Collect c) r h =
    ap (with_look (record (seen d m) { members = with_job c None m.members })) (heard d (first_serving d m) (jobs_of m) (Own (say.Collect c)) m.session h)
seen_after d m i say.Done r h = alone d m (seen d m) _ (changed_by say.Done) (λ s. refl)
seen_after d m i (say.Release c) r h = refl
seen_after d m i say.Depart r h = refl
seen_after d m i say.End r h = refl
seen_after d m i (say.Resume how) r h = refl
seen_after d m i say.Off r h = refl
seen_after d m i l r h = plain d m i l (seen d m) r h
