-- Who need not be asked: an actor that makes no event makes none before a word has changed.
use Rattle.std.proofs.Common.{◌≡◌, ◌≢◌, ◌<◌, ◌+◌, ℕ, zero, suc, Bool, true, false, List, [], ◌∷◌, ◌++◌, Option, Some, None, length, get_or, replicate, refl, ap, sym, subst, ◌∙◌, ⊎_elim, arith, append-nil}
use Rattle.std.specs.Prelude.{slice_get, slice_set}
use Rattle.std.proofs.lemmas.Bool.{cases_eq}
use Rattle.std.proofs.lemmas.List.{ext_get_or, get_or-set_same, get_or-set_other, length-set, length-replicate, get_or-replicate}
use Rattle.sync_words.specs.declared.access.Access.{Access}
use Rattle.sync_words.specs.declared.access.Access.TheVariants as access
use Rattle.sync_words.specs.declared.access.Applied.{Applied}
use Rattle.sync_words.specs.declared.access.Applied.TheVariants.{Changed, Same, NotReady}
use Rattle.sync_words.specs.declared.event.Event.{Event}
use Rattle.sync_words.specs.declared.event.Hand.{Hand}
use Rattle.sync_words.specs.declared.event.Hand.TheVariants.{Nothing, Give, Take}
use Rattle.sync_words.specs.declared.event.Want.{Want}
use Rattle.sync_words.specs.declared.event.Want.TheVariants as want
use Rattle.sync_words.specs.declared.word.WordId.{WordId}
use Rattle.sync_words.specs.Access.{applied}
use Rattle.cpu_program.specs.Actors.{Actor}
use Rattle.cpu_program.specs.declared.cargo.Cargo.{Cargo}
use Rattle.cpu_program.specs.Programs.{want_of, gift_of}
use Rattle.rendezvous_core.specs.declared.stepped.Stepped.{Stepped}
use Rattle.rendezvous_core.specs.declared.stepped.Stepped.TheVariants as stepped
use Rattle.rendezvous_core.specs.Worlds.{World, Words, Lying, Replay, Turn, Moves, Waits, Rests, read, lying_on, gives, takes, changes, accesses, turn_wanting, turn, turned, step_of, step, MakesNoEvent}
use Rattle.rendezvous_core.proofs.Scheduling.{step_stays}
use Rattle.rendezvous_core.specs.Asleep.{AreAsleep, woken, noted}
use Rattle.rendezvous_core.specs.Finishes.{played_on}
use Rattle.rendezvous_core.proofs.Steps.{same_replay, step_adds_none}

-- WHO NEED NOT BE ASKED

-- a turn that looks changes no word, and leaves what lies on it
abbrev LooksOnly : Words → Lying → Turn → Type 0
LooksOnly words lying (Moves e words' lying' a) = e.access ≡ access.Look → (words' ≡ words) × (lying' ≡ lying)
LooksOnly words lying (Waits found) = Unit {0}
LooksOnly words lying Rests = Unit {0}

module _ (words : Words) (lying : Lying) (me : ℕ) (word : WordId) (x : Access) (other : x ≢ access.Look) (a : Actor) where
  gives_apart : (new found : ℕ) (o : Option Cargo) → LooksOnly words lying (gives words lying me word x new found a o)
  gives_apart new found None = tt
  gives_apart new found (Some cargo) = λ e. absurd (other e)

  takes_apart : (new found : ℕ) (o : Option Cargo) → LooksOnly words lying (takes words lying me word x new found a o)
  takes_apart new found None = tt
  takes_apart new found (Some cargo) = λ e. absurd (other e)

  changes_apart : (hand : Hand) (new found : ℕ) → LooksOnly words lying (changes words lying me word x hand new found a)
  changes_apart Nothing new found = λ e. absurd (other e)
  changes_apart (Give k) new found = gives_apart new found (gift_of a)
  changes_apart (Take k) new found = takes_apart new found (lying_on lying word)

  apart : (hand : Hand) (r : Applied) → LooksOnly words lying (accesses words lying me word x hand a r)
  apart hand (NotReady found) = tt
  apart hand (Same found) = λ e. absurd (other e)
  apart hand (Changed new found) = changes_apart hand new found

wanted_looks : (words : Words) (lying : Lying) (me : ℕ) (word : WordId) (x : Access) (hand : Hand) (a : Actor) → LooksOnly words lying (accesses words lying me word x hand a (applied (read words word) x))
wanted_looks words lying me word access.Look hand a = λ e. (refl, refl)
wanted_looks words lying me word (access.Put n) hand a = apart words lying me word (access.Put n) (λ e. absurd cc) a hand (applied (read words word) (access.Put n))
wanted_looks words lying me word access.Up hand a = apart words lying me word access.Up (λ e. absurd cc) a hand (applied (read words word) access.Up)
wanted_looks words lying me word access.Down hand a = apart words lying me word access.Down (λ e. absurd cc) a hand (applied (read words word) access.Down)
wanted_looks words lying me word access.Lower hand a = apart words lying me word access.Lower (λ e. absurd cc) a hand (applied (read words word) access.Lower)
wanted_looks words lying me word access.Lock hand a = apart words lying me word access.Lock (λ e. absurd cc) a hand (applied (read words word) access.Lock)
wanted_looks words lying me word (access.Claim m n) hand a = apart words lying me word (access.Claim m n) (λ e. absurd cc) a hand (applied (read words word) (access.Claim m n))
wanted_looks words lying me word (access.Await m n) hand a = apart words lying me word (access.Await m n) (λ e. absurd cc) a hand (applied (read words word) (access.Await m n))
wanted_looks words lying me word (access.Seek n) hand a = apart words lying me word (access.Seek n) (λ e. absurd cc) a hand (applied (read words word) (access.Seek n))
wanted_looks words lying me word access.Signal hand a = apart words lying me word access.Signal (λ e. absurd cc) a hand (applied (read words word) access.Signal)
wanted_looks words lying me word access.TakeSmi hand a = apart words lying me word access.TakeSmi (λ e. absurd cc) a hand (applied (read words word) access.TakeSmi)
wanted_looks words lying me word access.ClearSmi hand a = apart words lying me word access.ClearSmi (λ e. absurd cc) a hand (applied (read words word) access.ClearSmi)
wanted_looks words lying me word (access.Raise n) hand a = apart words lying me word (access.Raise n) (λ e. absurd cc) a hand (applied (read words word) (access.Raise n))

turn_looks : (words : Words) (lying : Lying) (me : ℕ) (a : Actor) (w : Want) → LooksOnly words lying (turn_wanting words lying me a w)
turn_looks words lying me a want.Off = tt
turn_looks words lying me a (want.Access word x hand) = wanted_looks words lying me word x hand a

-- an actor's step depends on the words, what lies on them, and the actor alone
same_step : (w w' : World) (j : ℕ) (o : Option Actor) → w'.words ≡ w.words → w'.lying ≡ w.lying → MakesNoEvent (step_of w j o).0 → MakesNoEvent (step_of w' j o).0
same_step w w' j None words lying h = tt
same_step w w' j (Some a) words lying h =
    let t : turn w'.words w'.lying j a ≡ turn w.words w.lying j a = ap (λ x. turn x w'.lying j a) words ∙ ap (λ x. turn w.words x j a) lying in
    rests w w' (turn w.words w.lying j a) (turn w'.words w'.lying j a) t h
  where
    of_turn : (v v' : World) (t : Turn) → MakesNoEvent (turned v j t).0 → MakesNoEvent (turned v' j t).0
    of_turn v v' (Moves e words lying a) h = absurd h
    of_turn v v' (Waits found) h = tt
    of_turn v v' Rests h = tt

    rests : (v v' : World) (t t' : Turn) → t' ≡ t → MakesNoEvent (turned v j t).0 → MakesNoEvent (turned v' j t').0
    rests v v' t t' e h = subst (λ (x : Turn). MakesNoEvent (turned v' j x).0) (sym e) (of_turn v v' t h)

get_other : (xs : List Actor) (i j : ℕ) (a : Actor) → j ≢ i → slice_get (slice_set xs i a) j ≡ slice_get xs j
get_other [] i j a n = refl
get_other (x ∷ xs) zero zero a n = absurd (n refl)
get_other (x ∷ xs) zero (suc j) a n = refl
get_other (x ∷ xs) (suc i) zero a n = refl
get_other (x ∷ xs) (suc i) (suc j) a n = get_other xs i j a (λ e. n (ap suc e))

-- who makes no event makes none after another's look
others_wait : (w : World) (i j : ℕ) (e : Event) → j ≢ i → (step w i).0 ≡ stepped.Event e → e.access ≡ access.Look → MakesNoEvent (step w j).0 → MakesNoEvent (step (step w i).1 j).0
others_wait w i j e n is looks h = by_actor (slice_get w.actors i) is
  where
    by_turn : (t : Turn) → LooksOnly w.words w.lying t → (turned w i t).0 ≡ stepped.Event e → MakesNoEvent (step (turned w i t).1 j).0
    by_turn (Moves e' words' lying' a') only is =
        let same : e' ≡ e = cc in
        let stay = only (ap (λ (x : Event). x.access) same ∙ looks) in
        let w' : World = record { words = words'; lying = lying'; actors = slice_set w.actors i a' } in
        subst (λ (o : Option Actor). MakesNoEvent (step_of w' j o).0) (sym (get_other w.actors i j a' n)) (same_step w w' j (slice_get w.actors j) stay.0 stay.1 h)
    by_turn (Waits found) only is = absurd cc
    by_turn Rests only is = absurd cc

    by_actor : (o : Option Actor) → (step_of w i o).0 ≡ stepped.Event e → MakesNoEvent (step (step_of w i o).1 j).0
    by_actor None is = absurd cc
    by_actor (Some a) is = by_turn (turn w.words w.lying i a) (turn_looks w.words w.lying i a (want_of a)) is

-- one flag more is set
pub set_more : (xs : List Bool) (i : ℕ) → i < length xs → ((k : ℕ) → k < i → get_or xs k true ≡ true) → (k : ℕ) → k < i + 1 → get_or (slice_set xs i true) k true ≡ true
set_more xs i within done k below =
    ⊎_elim
    (λ (same : k ≡ i). subst (λ (x : ℕ). get_or (slice_set xs i true) x true ≡ true) (sym same) (get_or-set_same xs i true true within))
    (λ (apart : k ≢ i). get_or-set_other xs i k true true apart ∙ done k (omega (arith, below, apart)))
    (cases_eq k i)

pub all_set : (xs : List Bool) (n : ℕ) → length xs ≡ n → ((k : ℕ) → k < n → get_or xs k true ≡ true) → xs ≡ replicate n true
all_set xs n size done =
    ext_get_or true xs (replicate n true) (size ∙ sym (length-replicate {A = Bool} n true)) (λ k below. done k (omega (arith, below, size)) ∙ sym (get_or-replicate {A = Bool} n k true true (omega (arith, below, size))))

pub all_awake : (n : ℕ) (w : World) → AreAsleep (replicate n true) w
all_awake n w = λ j below asleep. let flag = get_or-replicate n j true true (omega (arith, below, length-replicate {A = Bool} n true)) in absurd (subst (λ (b : Bool). b ≡ true → ⊥) (sym asleep) (λ z. absurd cc) flag)

-- after an event of an actor with a flag
pub event_sleeps : (awake : List Bool) (w : World) (i : ℕ) (e : Event) → get_or awake i true ≡ true → (step w i).0 ≡ stepped.Event e → AreAsleep awake w → AreAsleep (woken e.access awake) (step w i).1
event_sleeps awake w i e up is asleep = by_access e.access refl
  where
    others : (x : Access) → AreAsleep (replicate (length awake) true) (step w i).1
    others x = all_awake (length awake) (step w i).1

    by_access : (x : Access) → e.access ≡ x → AreAsleep (woken x awake) (step w i).1
    by_access access.Look looks = λ j below flag.
        let apart : j ≢ i = λ (same : j ≡ i). let a : get_or awake i true ≡ false = ap (λ (k : ℕ). get_or awake k true) (sym same) ∙ flag in absurd (subst (λ (b : Bool). b ≡ false → ⊥) (sym up) (λ z. absurd cc) a) in
        others_wait w i j e apart is looks (asleep j below flag)
    by_access (access.Put n) is = others (access.Put n)
    by_access access.Up is = others access.Up
    by_access access.Down is = others access.Down
    by_access access.Lower is = others access.Lower
    by_access access.Lock is = others access.Lock
    by_access (access.Claim m n) is = others (access.Claim m n)
    by_access (access.Await m n) is = others (access.Await m n)
    by_access (access.Seek n) is = others (access.Seek n)
    by_access access.Signal is = others access.Signal
    by_access access.TakeSmi is = others access.TakeSmi
    by_access access.ClearSmi is = others access.ClearSmi
    by_access (access.Raise n) is = others (access.Raise n)

pub woken_size : (x : Access) (awake : List Bool) → length (woken x awake) ≡ length awake
woken_size access.Look awake = refl
woken_size (access.Put n) awake = length-replicate (length awake) true
woken_size access.Up awake = length-replicate (length awake) true
woken_size access.Down awake = length-replicate (length awake) true
woken_size access.Lower awake = length-replicate (length awake) true
woken_size access.Lock awake = length-replicate (length awake) true
woken_size (access.Claim m n) awake = length-replicate (length awake) true
woken_size (access.Await m n) awake = length-replicate (length awake) true
woken_size (access.Seek n) awake = length-replicate (length awake) true
woken_size access.Signal awake = length-replicate (length awake) true
woken_size access.TakeSmi awake = length-replicate (length awake) true
woken_size access.ClearSmi awake = length-replicate (length awake) true
woken_size (access.Raise n) awake = length-replicate (length awake) true

-- after a step that makes no event, the actor is known to make none
pub wait_sleeps : (awake : List Bool) (w : World) (i : ℕ) → MakesNoEvent (step w i).0 → AreAsleep awake w → AreAsleep (slice_set awake i false) (step w i).1
wait_sleeps awake w i h asleep = λ j below flag.
    let stays = step_stays w i h in
    subst (λ (v : World). MakesNoEvent (step v j).0) (sym stays)
    (⊎_elim
    (λ (same : j ≡ i). subst (λ (k : ℕ). MakesNoEvent (step w k).0) (sym same) h)
    (λ (apart : j ≢ i). asleep j (omega (arith, below, length-set awake i false)) (sym (get_or-set_other awake i j false true apart) ∙ flag))
    (cases_eq j i))

-- after any step of an actor with a flag
pub noted_sleeps : (awake : List Bool) (w : World) (i : ℕ) → get_or awake i true ≡ true → AreAsleep awake w → AreAsleep (noted (step w i).0 i awake) (step w i).1
noted_sleeps awake w i up asleep = by_step (step w i).0 refl
  where
    by_step : (s : Stepped) → (step w i).0 ≡ s → AreAsleep (noted s i awake) (step w i).1
    by_step (stepped.Event e) is = event_sleeps awake w i e up is asleep
    by_step (stepped.Waiting found) is = wait_sleeps awake w i (subst MakesNoEvent (sym is) tt) asleep
    by_step stepped.Off is = wait_sleeps awake w i (subst MakesNoEvent (sym is) tt) asleep

pub noted_size : (s : Stepped) (i : ℕ) (awake : List Bool) → length (noted s i awake) ≡ length awake
noted_size (stepped.Event e) i awake = woken_size e.access awake
noted_size (stepped.Waiting found) i awake = length-set awake i false
noted_size stepped.Off i awake = length-set awake i false

-- an actor without a flag need not be asked
pub asleep_plays : (awake : List Bool) (r s : Replay) (i : ℕ) → i < length awake → get_or awake i true ≡ false → AreAsleep awake r.world → s ≡ r → s ≡ played_on r (i ∷ [])
asleep_plays awake r s i below flag asleep same =
    let none = step_adds_none r.world i [] (asleep i below flag) in
    same ∙ sym (same_replay r (played_on r (i ∷ [])) refl none.0 (ap (λ es. r.events ++ es) none.1 ∙ append-nil r.events) refl)
