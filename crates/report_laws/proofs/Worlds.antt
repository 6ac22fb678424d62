-- In every world that a schedule reaches each event names an actor and a word that there are, and its numbers are those of a word.
use Rattle.std.proofs.Common.{◌≡◌, ◌<◌, ◌≤◌, ◌+◌, ◌-◌, ℕ, zero, suc, Bool, true, false, List, [], ◌∷◌, ◌++◌, length, All, Option, Some, None, IfSome, refl, sym, ap, subst, ◌∙◌, arith}
use Rattle.std.specs.Prelude.{◌==◌, ◌||◌, ◌%◌, nat_lt, if◌then◌else◌, IsTrue, slice_get, slice_set, slice_index_or, replicate}
use Rattle.std.proofs.lemmas.List.{length-set}
use Rattle.std.proofs.lemmas.List.Elements.{All-nil, All-cons, All-head, All-tail, All-append}
use Rattle.std.proofs.lemmas.Bool.{ltb-true, eqb-false}
use Rattle.smm_base.specs.declared.kinds.Policy.{Policy}
use Rattle.smm_base.specs.declared.kinds.Policy.TheVariants.{Elected, Fixed}
use Rattle.save_state_map.specs.Images.{ImageContents}
use Rattle.cpu_regs.specs.Registers.{Registers}
use Rattle.cpu_table.specs.Data.{SetupData}
use Rattle.cpu_table.specs.Ranges.{policy_fits}
use Rattle.sync_words.specs.declared.access.Access.{Access}
use Rattle.sync_words.specs.declared.access.Access.TheVariants as access
use Rattle.sync_words.specs.declared.access.Applied.{Applied}
use Rattle.sync_words.specs.declared.access.Applied.TheVariants.{Changed, Same, NotReady}
use Rattle.sync_words.specs.declared.access.TheConstants.{LOCKED}
use Rattle.sync_words.specs.declared.event.Event.{Event}
use Rattle.sync_words.specs.declared.event.Hand.{Hand}
use Rattle.sync_words.specs.declared.event.Hand.TheVariants.{Nothing, Give, Take}
use Rattle.sync_words.specs.declared.event.Want.{Want}
use Rattle.sync_words.specs.declared.event.Want.TheVariants as want
use Rattle.sync_words.specs.declared.signal.TheConstants.{NO_SIGNAL, DELIVERABLE, HELD, OFF, INSIDE}
use Rattle.sync_words.specs.declared.word.WordId.{WordId}
use Rattle.sync_words.specs.declared.word.WordId.TheVariants as word
use Rattle.sync_words.specs.Access.{applied, signal_of, IsWithin, LeavesWord}
use Rattle.sync_words.specs.Steps.{IsWord, IsWantWithin, found_of, is_ready, IsAccepted, Accepts}
use Rattle.trace_text.specs.Spelling.{HasUpTo}
use Rattle.handler_ops.specs.Sessions.{first_session}
use Rattle.chipset.specs.Bounds.{IsPlatform}
use Rattle.chipset.proofs.StepLemmas.{begins}
use Rattle.cpu_program.specs.declared.cargo.Cargo.{Cargo}
use Rattle.cpu_program.specs.Actors.{Actor, OfProcessor, OfChipset}
use Rattle.cpu_program.specs.Bounds.{IsActor, HasProcessors}
use Rattle.cpu_program.specs.Laws.{GivingKeepsWant, ReceivingKeepsWant, WantsWithin}
use Rattle.cpu_program.specs.Programs.{want_of, gift_of, given, received, taken, processors_of}
use Rattle.cpu_program.proofs.PlatformLemmas.{taken_of, given_of, received_of}
use Rattle.cpu_program.proofs.StayLemmas.{given_stays, received_stays, taken_stays, actor_stays}
use Rattle.rendezvous_core.specs.declared.stepped.Stepped.TheVariants as stepped
use Rattle.rendezvous_core.specs.Worlds.{Words, Lying, World, Turn, Moves, Waits, Rests, read, write, bsp_at_first, first_words, own_chair, first_actors, start, lying_on, lay, gives, takes, changes, accesses, turn_wanting, turn, turned, step_of, step, with_event, events_from}
use Rattle.rendezvous_core.proofs.NumberLemmas.{taken_number}
use Rattle.rendezvous_core.proofs.Scheduling.{after_schedule}

-- WORDS

abbrev pub WordsFit : Words → Type 0
WordsFit w = (x : WordId) → read w x ≤ LOCKED

set_few : (xs : List ℕ) (c x : ℕ) → x ≤ LOCKED → ((k : ℕ) → slice_index_or xs k 0 ≤ LOCKED) → (k : ℕ) → slice_index_or (slice_set xs c x) k 0 ≤ LOCKED
set_few [] c x h each k = each k
set_few (y ∷ xs) zero x h each zero = h
set_few (y ∷ xs) zero x h each (suc k) = each (suc k)
set_few (y ∷ xs) (suc c) x h each zero = each 0
set_few (y ∷ xs) (suc c) x h each (suc k) = set_few xs c x h (λ i. each (suc i)) k

written_fits : (w : Words) (x : WordId) (v : ℕ) → v ≤ LOCKED → WordsFit w → WordsFit (write w x v)
written_fits w word.Counter v few h word.Counter = few
written_fits w word.Counter v few h y = h y
written_fits w word.Bsp v few h word.Bsp = few
written_fits w word.Bsp v few h y = h y
written_fits w word.Inside v few h word.Inside = few
written_fits w word.Inside v few h y = h y
written_fits w word.Insync v few h word.Insync = few
written_fits w word.Insync v few h y = h y
written_fits w word.Source v few h word.Source = few
written_fits w word.Source v few h y = h y
written_fits w word.Except v few h word.Except = few
written_fits w word.Except v few h y = h y
written_fits w (word.Pend i) v few h (word.Pend j) = set_few w.pend i v few (λ k. h (word.Pend k)) j
written_fits w (word.Pend i) v few h y = h y
written_fits w (word.Present i) v few h (word.Present j) = set_few w.present i v few (λ k. h (word.Present k)) j
written_fits w (word.Present i) v few h y = h y
written_fits w (word.Run i) v few h (word.Run j) = set_few w.run i v few (λ k. h (word.Run k)) j
written_fits w (word.Run i) v few h y = h y
written_fits w (word.Busy i) v few h (word.Busy j) = set_few w.busy i v few (λ k. h (word.Busy k)) j
written_fits w (word.Busy i) v few h y = h y

-- an access finds what the word holds, and leaves a number that a word holds
record Applies (v : ℕ) (x : Applied) : Type 0 where
  found : found_of x ≡ v
  leaves : LeavesWord x

either : (v : ℕ) (b : Bool) (x y : Applied) → (b ≡ true → Applies v x) → (b ≡ false → Applies v y) → Applies v (if b then x else y)
either v true x y h k = h refl
either v false x y h k = k refl

applies : (v : ℕ) (a : Access) → v ≤ LOCKED → IsWithin a → Applies v (applied v a)
applies v access.Look few h = record { found = refl; leaves = tt }
applies v (access.Put x) few h = record { found = refl; leaves = h }
applies v access.Up few h =
    either v (v == LOCKED) _ _ (λ e. record { found = refl; leaves = tt })
    (λ e. let other = unequal v e in record { found = refl; leaves = omega (arith, few, other) })
  where
    unequal : (v : ℕ) → (v == LOCKED) ≡ false → v ≡ LOCKED → ⊥
    unequal v e same = eqb-false v LOCKED e same
applies v access.Down few h = either v (v == 0) _ _ (λ e. record { found = refl; leaves = tt }) (λ e. record { found = refl; leaves = omega (arith, few) })
applies v access.Lower few h = either v (v == LOCKED || v == 0) _ _ (λ e. record { found = refl; leaves = tt }) (λ e. record { found = refl; leaves = omega (arith, few) })
applies v access.Lock few h = record { found = refl; leaves = omega arith }
applies v (access.Claim a b) few h = either v (v == a) _ _ (λ e. record { found = refl; leaves = h.1 }) (λ e. record { found = refl; leaves = tt })
applies v (access.Await a b) few h =
    either v (v == a) _ _ (λ e. either v (a == b) _ _ (λ f. record { found = refl; leaves = tt }) (λ f. record { found = refl; leaves = h.1 })) (λ e. record { found = refl; leaves = tt })
applies v (access.Seek n) few h = either v (nat_lt v n) _ _ (λ e. record { found = refl; leaves = tt }) (λ e. record { found = refl; leaves = tt })
applies v access.Signal few h =
    either v (signal_of v == NO_SIGNAL || signal_of v == HELD) _ _ (λ e. record { found = refl; leaves = omega (arith, few) }) (λ e. record { found = refl; leaves = tt })
applies v access.TakeSmi few h =
    either v (v == OFF) _ _ (λ e. record { found = refl; leaves = tt }) (λ e. either v (v == DELIVERABLE) _ _ (λ f. record { found = refl; leaves = omega arith }) (λ f. record { found = refl; leaves = tt }))
applies v access.ClearSmi few h = either v (nat_lt v INSIDE) _ _ (λ e. record { found = refl; leaves = tt }) (λ e. record { found = refl; leaves = omega (arith, few) })
applies v (access.Raise x) few h =
    either v (signal_of v == OFF) _ _ (λ e. record { found = refl; leaves = tt })
    (λ e. either v (signal_of v == DELIVERABLE) _ _ (λ f. record { found = refl; leaves = tt }) (λ f. record { found = refl; leaves = omega (arith, few, h) }))

up_to : (a : Access) → IsWithin a → HasUpTo LOCKED a
up_to (access.Put x) h = h
up_to (access.Claim a b) h = h
up_to (access.Await a b) h = h
up_to (access.Seek n) h = h
up_to (access.Raise x) h = omega (arith, h)
up_to _ h = tt

-- A TURN

-- the actor is one of this platform
abbrev pub IsPlaced : SetupData → Actor → Type 0
IsPlaced d (OfProcessor p) = p.setup ≡ d
IsPlaced d (OfChipset c) = c.setup.processors ≡ d.processors

pub record IsSeated (d : SetupData) (a : Actor) : Type 0 where
  pub bounds : IsActor a
  pub placed : IsPlaced d a

-- but for its label the event has a spelling
pub record IsShaped (n : ℕ) (e : Event) : Type 0 where
  pub actor : e.actor ≤ n
  pub word : IsWord n e.word
  pub access : HasUpTo LOCKED e.access
  pub found : e.found ≤ LOCKED

pub record Moved (d : SetupData) (me : ℕ) (e : Event) (now : Words) (a : Actor) : Type 0 where
  pub shaped : me ≤ d.processors → IsShaped d.processors e
  pub words : WordsFit now
  pub seated : IsSeated d a

abbrev pub TurnFits : SetupData → ℕ → Turn → Type 0
TurnFits d me (Moves e words lying a) = Moved d me e words a
TurnFits d me (Waits found) = Unit {0}
TurnFits d me Rests = Unit {0}

processors_is : (d : SetupData) (a : Actor) → IsPlaced d a → processors_of a ≡ d.processors
processors_is d (OfProcessor p) h = ap (λ (s : SetupData). s.processors) h
processors_is d (OfChipset c) h = h

taken_placed : (d : SetupData) (a : Actor) (found : ℕ) → IsPlaced d a → IsPlaced d (taken a found).after
taken_placed d (OfProcessor p) found h = taken_of d (OfProcessor p) found h
taken_placed d (OfChipset c) found h = taken_number (OfChipset c) found ∙ h

given_placed : (d : SetupData) (a : Actor) → IsPlaced d a → IsPlaced d (given a)
given_placed d (OfProcessor p) h = given_of d (OfProcessor p) h
given_placed d (OfChipset c) h = h

received_placed : (d : SetupData) (a : Actor) (cargo : Cargo) → IsPlaced d a → IsPlaced d (received cargo a)
received_placed d (OfProcessor p) cargo h = received_of d (OfProcessor p) cargo h
received_placed d (OfChipset c) cargo h = h

-- an access that was accepted on a word
record Found (v : ℕ) (a : Access) (x : Applied) : Type 0 where
  few : v ≤ LOCKED
  is : applied v a ≡ x
  within : IsWithin a
  ready : IsTrue (is_ready x)

found_few : (v : ℕ) (a : Access) (x : Applied) → Found v a x → found_of x ≤ LOCKED
found_few v a x f = subst (λ (y : Applied). found_of y ≤ LOCKED) f.is (subst (λ z. z ≤ LOCKED) (sym (applies v a f.few f.within).found) f.few)

found_accepted : (v : ℕ) (a : Access) (x : Applied) → Found v a x → IsAccepted a x
found_accepted v a x f =
    let same : found_of x ≡ v = sym (ap found_of f.is) ∙ (applies v a f.few f.within).found in
    record { of_word = found_few v a x f; meaning = sym f.is ∙ ap (λ z. applied z a) (sym same); ready = f.ready }

found_leaves : (v : ℕ) (a : Access) (x : Applied) → Found v a x → LeavesWord x
found_leaves v a x f = subst LeavesWord f.is (applies v a f.few f.within).leaves

pub record WorldFits (d : SetupData) (w : World) : Type 0 where
  pub count : length w.actors ≡ d.processors + 1
  pub actors : (i : ℕ) → IfSome (slice_get w.actors i) (IsSeated d)
  pub words : WordsFit w.words

pub record ReplayFits (d : SetupData) (w : World) (es : List Event) : Type 0 where
  pub world : WorldFits d w
  pub events : All (IsShaped d.processors) es

module _ (giving : GivingKeepsWant) (receiving : ReceivingKeepsWant) (within : WantsWithin) (d : SetupData) where
  takes_part : (me : ℕ) (w : WordId) (x : Access) (hand : Hand) (v : ℕ) (answer : Applied) (words : Words) (lying : Lying) (a : Actor) → IsSeated d a → want_of a ≡ want.Access w x hand → Found v x answer
      → WordsFit words → TurnFits d me (Moves (record { actor = me; word = w; access = x; found = found_of answer; label = (taken a (found_of answer)).label }) words lying (taken a (found_of answer)).after)
  takes_part me w x hand v answer words lying a s e f fits =
      let inside : IsWantWithin d.processors (want.Access w x hand) = subst (λ n. IsWantWithin n (want.Access w x hand)) (processors_is d a s.placed) (subst (λ z. IsWantWithin (processors_of a) z) e (within a s.bounds)) in
      let accepted : Accepts (want_of a) answer = subst (λ z. Accepts z answer) (sym e) (found_accepted v x answer f) in
      record {
        shaped = λ l. record { actor = l; word = inside.0; access = up_to x inside.1; found = found_few v x answer f };
        words = fits;
        seated = record { bounds = taken_stays a answer s.bounds accepted; placed = taken_placed d a (found_of answer) s.placed };
      }

  gives_fit : (words : Words) (lying : Lying) (me : ℕ) (w : WordId) (x : Access) (hand : Hand) (v new found : ℕ) (a : Actor) (o : Option Cargo) → IsSeated d a → want_of a ≡ want.Access w x hand → Found v x (Changed new found)
      → WordsFit words → TurnFits d me (gives words lying me w x new found a o)
  gives_fit words lying me w x hand v new found a None s e f fits = tt
  gives_fit words lying me w x hand v new found a (Some cargo) s e f fits =
      takes_part me w x hand v (Changed new found) (write words w new) (lay lying w (Some cargo)) (given a) (record { bounds = given_stays a s.bounds; placed = given_placed d a s.placed })
      (giving a s.bounds ∙ e) f (written_fits words w new (found_leaves v x (Changed new found) f) fits)

  takes_fit : (words : Words) (lying : Lying) (me : ℕ) (w : WordId) (x : Access) (hand : Hand) (v new found : ℕ) (a : Actor) (o : Option Cargo) → IsSeated d a → want_of a ≡ want.Access w x hand → Found v x (Changed new found)
      → WordsFit words → TurnFits d me (takes words lying me w x new found a o)
  takes_fit words lying me w x hand v new found a None s e f fits = tt
  takes_fit words lying me w x hand v new found a (Some cargo) s e f fits =
      takes_part me w x hand v (Changed new found) (write words w new) (lay lying w None) (received cargo a) (record { bounds = received_stays cargo a s.bounds; placed = received_placed d a cargo s.placed })
      (receiving a cargo s.bounds ∙ e) f (written_fits words w new (found_leaves v x (Changed new found) f) fits)

  changes_fit : (words : Words) (lying : Lying) (me : ℕ) (w : WordId) (x : Access) (hand : Hand) (v new found : ℕ) (a : Actor) → IsSeated d a → want_of a ≡ want.Access w x hand → Found v x (Changed new found)
      → WordsFit words → TurnFits d me (changes words lying me w x hand new found a)
  changes_fit words lying me w x Nothing v new found a s e f fits =
      takes_part me w x Nothing v (Changed new found) (write words w new) lying a s e f (written_fits words w new (found_leaves v x (Changed new found) f) fits)
  changes_fit words lying me w x (Give k) v new found a s e f fits = gives_fit words lying me w x (Give k) v new found a (gift_of a) s e f fits
  changes_fit words lying me w x (Take k) v new found a s e f fits = takes_fit words lying me w x (Take k) v new found a (lying_on lying w) s e f fits

  accesses_fit : (words : Words) (lying : Lying) (me : ℕ) (w : WordId) (x : Access) (hand : Hand) (v : ℕ) (a : Actor) (answer : Applied) → IsSeated d a → want_of a ≡ want.Access w x hand → v ≤ LOCKED → applied v x ≡ answer → IsWithin x
      → WordsFit words → TurnFits d me (accesses words lying me w x hand a answer)
  accesses_fit words lying me w x hand v a (NotReady found) s e few is inside fits = tt
  accesses_fit words lying me w x hand v a (Same found) s e few is inside fits = takes_part me w x hand v (Same found) words lying a s e (record { few = few; is = is; within = inside; ready = refl }) fits
  accesses_fit words lying me w x hand v a (Changed new found) s e few is inside fits =
      changes_fit words lying me w x hand v new found a s e (record { few = few; is = is; within = inside; ready = refl }) fits

  wanting_fits : (words : Words) (lying : Lying) (me : ℕ) (a : Actor) (z : Want) → want_of a ≡ z → IsSeated d a → WordsFit words → TurnFits d me (turn_wanting words lying me a z)
  wanting_fits words lying me a want.Off e s fits = tt
  wanting_fits words lying me a (want.Access w x hand) e s fits =
      let inside : IsWantWithin (processors_of a) (want.Access w x hand) = subst (λ z. IsWantWithin (processors_of a) z) e (within a s.bounds) in
      accesses_fit words lying me w x hand (read words w) a (applied (read words w) x) s e (fits w) refl inside.1 fits

  -- A STEP

  set_seated : (actors : List Actor) (me : ℕ) (b : Actor) → IsSeated d b → ((i : ℕ) → IfSome (slice_get actors i) (IsSeated d)) → (i : ℕ) → IfSome (slice_get (slice_set actors me b) i) (IsSeated d)
  set_seated [] me b h each i = each i
  set_seated (a ∷ actors) zero b h each zero = h
  set_seated (a ∷ actors) zero b h each (suc i) = each (suc i)
  set_seated (a ∷ actors) (suc me) b h each zero = each 0
  set_seated (a ∷ actors) (suc me) b h each (suc i) = set_seated actors me b h (λ k. each (suc k)) i

  got_within : (actors : List Actor) (me : ℕ) (a : Actor) → slice_get actors me ≡ Some a → me < length actors
  got_within [] me a e = cc
  got_within (x ∷ actors) zero a e = omega arith
  got_within (x ∷ actors) (suc me) a e = omega (arith, got_within actors me a e)

  turned_fits : (w : World) (me : ℕ) (t : Turn) → me ≤ d.processors → WorldFits d w → TurnFits d me t → WorldFits d (turned w me t).1 × All (IsShaped d.processors) (with_event (turned w me t).0 [])
  turned_fits w me (Moves e words lying a) l h t = (
    record { count = length-set w.actors me a ∙ h.count; actors = set_seated w.actors me a t.seated h.actors; words = t.words },
    All-cons (IsShaped d.processors) e [] (t.shaped l) (All-nil (IsShaped d.processors)),
  )
  turned_fits w me (Waits found) l h t = (h, All-nil (IsShaped d.processors))
  turned_fits w me Rests l h t = (h, All-nil (IsShaped d.processors))

  stepped_fits : (w : World) (me : ℕ) (o : Option Actor) → slice_get w.actors me ≡ o → WorldFits d w → WorldFits d (step_of w me o).1 × All (IsShaped d.processors) (with_event (step_of w me o).0 [])
  stepped_fits w me None at h = (h, All-nil (IsShaped d.processors))
  stepped_fits w me (Some a) at h =
      let inside : me < length w.actors = got_within w.actors me a at in
      let count = h.count in
      let seated : IsSeated d a = subst (λ (o : Option Actor). IfSome o (IsSeated d)) at (h.actors me) in
      turned_fits w me (turn w.words w.lying me a) (omega (arith, inside, count)) h (wanting_fits w.words w.lying me a (want_of a) refl seated h.words)

  -- A SCHEDULE

  pub replay_fits : (schedule : List ℕ) (w : World) → WorldFits d w → All (IsShaped d.processors) (events_from w schedule)
  replay_fits schedule w h =
      (after_schedule (ReplayFits d)
      (λ w es me r. let s = stepped_fits w me (slice_get w.actors me) refl r.world in
      record { world = s.0; events = All-append (IsShaped d.processors) es (with_event (step w me).0 []) r.events s.1 })
      schedule w [] (record { world = h; events = All-nil (IsShaped d.processors) })).events

-- AT FIRST

zeros_few : (n k : ℕ) → slice_index_or (replicate n 0) k 0 ≤ LOCKED
zeros_few zero k = omega arith
zeros_few (suc n) zero = omega arith
zeros_few (suc n) (suc k) = zeros_few n k

bsp_few : (n : ℕ) (policy : Policy) → n ≤ 64 → policy_fits n policy ≡ true → bsp_at_first policy ≤ LOCKED
bsp_few n Elected few h = omega arith
bsp_few n (Fixed bsp) few h = let below : bsp < n = ltb-true bsp n h in omega (arith, few, below)

first_words_fit : (d : SetupData) → d.processors ≤ 64 → policy_fits d.processors d.policy ≡ true → WordsFit (first_words d)
first_words_fit d few h word.Bsp = bsp_few d.processors d.policy few h
first_words_fit d few h (word.Pend i) = zeros_few d.processors i
first_words_fit d few h (word.Present i) = zeros_few d.processors i
first_words_fit d few h (word.Run i) = zeros_few d.processors i
first_words_fit d few h (word.Busy i) = zeros_few d.processors i
first_words_fit d few h _ = omega arith

chair_by : (d : SetupData) (policy : Policy) (me : ℕ) → IfSome (own_chair policy d me) (HasProcessors d.processors)
chair_by d Elected me = tt
chair_by d (Fixed bsp) me = by_own (me == bsp)
  where
    by_own : (b : Bool) → IfSome (if b then Some (first_session d) else None) (HasProcessors d.processors)
    by_own true = refl
    by_own false = tt

first_seated : (d : SetupData) (k : ℕ) (rs : List Registers) (ms : List ImageContents) → IsPlatform d → k + length rs ≡ d.processors → length ms ≡ length rs
    → All (λ r. r.kind ≡ d.kind) rs → All (λ m. m.kind ≡ d.kind) ms → (i : ℕ) → IfSome (slice_get (first_actors d k rs ms) i) (IsSeated d)
first_seated d k [] ms p all same rk mk zero = record { bounds = begins d p; placed = refl }
first_seated d k [] ms p all same rk mk (suc i) = tt
first_seated d k (r ∷ rs) [] p all same rk mk i = absurd (omega (arith, same))
first_seated d k (r ∷ rs) (m ∷ ms) p all same rk mk zero =
    record {
      bounds = actor_stays d k (Some m) (Some r) (own_chair d.policy d k) p (λ s. omega (arith, all)) (All-head (λ m. m.kind ≡ d.kind) m ms mk) (All-head (λ r. r.kind ≡ d.kind) r rs rk) (chair_by d d.policy k);
      placed = refl;
    }
first_seated d k (r ∷ rs) (m ∷ ms) p all same rk mk (suc i) =
    first_seated d (k + 1) rs ms p (omega (arith, all)) (omega (arith, same)) (All-tail (λ r. r.kind ≡ d.kind) r rs rk) (All-tail (λ m. m.kind ≡ d.kind) m ms mk) i

first_count : (d : SetupData) (k : ℕ) (rs : List Registers) (ms : List ImageContents) → length ms ≡ length rs → length (first_actors d k rs ms) ≡ length rs + 1
first_count d k [] ms h = refl
first_count d k (r ∷ rs) [] h = absurd (omega (arith, h))
first_count d k (r ∷ rs) (m ∷ ms) h = omega (arith, first_count d (k + 1) rs ms (omega (arith, h)))

pub start_fits : (d : SetupData) (rs : List Registers) (ms : List ImageContents) → IsPlatform d → policy_fits d.processors d.policy ≡ true
    → length rs ≡ d.processors → length ms ≡ d.processors → All (λ r. r.kind ≡ d.kind) rs → All (λ m. m.kind ≡ d.kind) ms → WorldFits d (start d rs ms)
start_fits d rs ms p policy count many rk mk =
    record {
      count = first_count d 0 rs ms (many ∙ sym count) ∙ ap (λ n. n + 1) count;
      actors = first_seated d 0 rs ms p (omega (arith, count)) (many ∙ sym count) rk mk;
      words = first_words_fit d p.few.1 policy;
    }
