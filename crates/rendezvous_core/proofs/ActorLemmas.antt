-- The actors of a world: those of a start, and those after a turn.
use Rattle.std.proofs.Common.{◌≡◌, ℕ, zero, suc, ◌+◌, ◌<◌, ◌≤◌, List, [], ◌∷◌, ◌++◌, Option, Some, None, length, drop, get_or, set, refl, ap, sym, subst, ◌∙◌, arith, add-one, append_assoc}
use Rattle.std.proofs.Math.Seq.{drop-cons}
use Rattle.std.proofs.lemmas.List.{set-get_or}
use Rattle.std.proofs.lemmas.Option.{get_or_from_slice_get, slice_get-get_or}
use Rattle.std.specs.Prelude.{slice_get, slice_set, IsSomeAnd}
use Rattle.save_state_map.specs.Images.{ImageContents}
use Rattle.cpu_regs.specs.Registers.{Registers}
use Rattle.cpu_table.specs.Data.{SetupData}
use Rattle.sync_words.specs.declared.word.WordId.{WordId}
use Rattle.sync_words.specs.declared.access.Access.{Access}
use Rattle.sync_words.specs.declared.access.Applied.{Applied}
use Rattle.sync_words.specs.declared.access.Applied.TheVariants.{Changed, Same, NotReady}
use Rattle.sync_words.specs.declared.event.Hand.{Hand}
use Rattle.sync_words.specs.declared.event.Hand.TheVariants.{Nothing, Give, Take}
use Rattle.sync_words.specs.declared.event.Want.{Want}
use Rattle.sync_words.specs.declared.event.Want.TheVariants as want
use Rattle.sync_words.specs.Access.{applied}
use Rattle.cpu_program.specs.declared.cargo.Cargo.{Cargo}
use Rattle.cpu_program.specs.Actors.{Actor, OfProcessor, OfChipset}
use Rattle.cpu_program.specs.Programs.{want_of, taken, gift_of, given, received, number_of}
use Rattle.rendezvous_core.specs.Starts.{AreImagesOf, first_registers}
use Rattle.rendezvous_core.specs.Worlds.{Words, Lying, World, Turn, Moves, Waits, Rests, lying_on, read, gives, takes, changes, accesses, turn_wanting, turn, turned, step_of, step, first_actor, first_actors}
use Rattle.rendezvous_core.specs.Turns.{stepped_by, words_by, lying_by, actor_by, world_in}
use Rattle.rendezvous_core.specs.WorldInside.{HasImage, HasNumber, AreActors}
use Rattle.rendezvous_core.proofs.NumberLemmas.{taken_number, given_number, received_number}
use Rattle.rendezvous_core.proofs.Scheduling.{step_actors}
use Rattle.rendezvous_core.proofs.StartLemmas.{first_are}

-- AFTER A TURN

-- what an actor keeps while things change hands, and at its event
pub record IsKept (P : Actor → Type 0) : Type 0 where
  pub taken : (a : Actor) (found : ℕ) → P a → P (taken a found).after
  pub given : (a : Actor) → P a → P (given a)
  pub received : (a : Actor) (cargo : Cargo) → P a → P (received cargo a)

gives_keep : (P : Actor → Type 0) → IsKept P → (words : Words) (lying : Lying) (me : ℕ) (word : WordId) (access : Access) (new found : ℕ) (a : Actor) (o : Option Cargo)
    → P a → P (actor_by (gives words lying me word access new found a o) a)
gives_keep P k words lying me word access new found a None h = h
gives_keep P k words lying me word access new found a (Some cargo) h = k.taken (given a) found (k.given a h)

takes_keep : (P : Actor → Type 0) → IsKept P → (words : Words) (lying : Lying) (me : ℕ) (word : WordId) (access : Access) (new found : ℕ) (a : Actor) (o : Option Cargo)
    → P a → P (actor_by (takes words lying me word access new found a o) a)
takes_keep P k words lying me word access new found a None h = h
takes_keep P k words lying me word access new found a (Some cargo) h = k.taken (received cargo a) found (k.received a cargo h)

changes_keep : (P : Actor → Type 0) → IsKept P → (words : Words) (lying : Lying) (me : ℕ) (word : WordId) (access : Access) (hand : Hand) (new found : ℕ) (a : Actor)
    → P a → P (actor_by (changes words lying me word access hand new found a) a)
changes_keep P k words lying me word access Nothing new found a h = k.taken a found h
changes_keep P k words lying me word access (Give j) new found a h = gives_keep P k words lying me word access new found a (gift_of a) h
changes_keep P k words lying me word access (Take j) new found a h = takes_keep P k words lying me word access new found a (lying_on lying word) h

accesses_keep : (P : Actor → Type 0) → IsKept P → (words : Words) (lying : Lying) (me : ℕ) (word : WordId) (access : Access) (hand : Hand) (a : Actor) (x : Applied)
    → P a → P (actor_by (accesses words lying me word access hand a x) a)
accesses_keep P k words lying me word access hand a (NotReady found) h = h
accesses_keep P k words lying me word access hand a (Same found) h = k.taken a found h
accesses_keep P k words lying me word access hand a (Changed new found) h = changes_keep P k words lying me word access hand new found a h

wanting_keep : (P : Actor → Type 0) → IsKept P → (words : Words) (lying : Lying) (me : ℕ) (a : Actor) (w : Want) → P a → P (actor_by (turn_wanting words lying me a w) a)
wanting_keep P k words lying me a want.Off h = h
wanting_keep P k words lying me a (want.Access word access hand) h = accesses_keep P k words lying me word access hand a (applied (read words word) access) h

-- A TURN IN A WORLD

pub record IsTurned (w : World) (me : ℕ) (t : Turn) (a : Actor) : Type 0 where
  pub stepped : (step w me).0 ≡ stepped_by t
  pub world : (step w me).1 ≡ world_in (words_by t w.words) (lying_by t w.lying) (slice_set w.actors me (actor_by t a))

set_same : (actors : List Actor) (me : ℕ) (a : Actor) → slice_get actors me ≡ Some a → slice_set actors me a ≡ actors
set_same actors me a h = ap (λ (x : Actor). slice_set actors me x) (sym (get_or_from_slice_get actors me a a h)) ∙ set-get_or actors me a

turned_is : (w : World) (me : ℕ) (t : Turn) (a : Actor) → slice_get w.actors me ≡ Some a
    → (turned w me t).1 ≡ world_in (words_by t w.words) (lying_by t w.lying) (slice_set w.actors me (actor_by t a))
turned_is w me (Moves e words lying b) a h = refl
turned_is w me (Waits found) a h = ap (λ actors. world_in w.words w.lying actors) (sym (set_same w.actors me a h))
turned_is w me Rests a h = ap (λ actors. world_in w.words w.lying actors) (sym (set_same w.actors me a h))

turned_says : (w : World) (me : ℕ) (t : Turn) → (turned w me t).0 ≡ stepped_by t
turned_says w me (Moves e words lying b) = refl
turned_says w me (Waits found) = refl
turned_says w me Rests = refl

-- the step of an actor is its turn in its place
pub step_is : (w : World) (me : ℕ) (a : Actor) → slice_get w.actors me ≡ Some a → IsTurned w me (turn w.words w.lying me a) a
step_is w me a h =
    let t = turn w.words w.lying me a in
    record {
      stepped = ap (λ o. (step_of w me o).0) h ∙ turned_says w me t;
      world = ap (λ o. (step_of w me o).1) h ∙ turned_is w me t a h;
    }

-- THE ACTORS STAY

set_each : (P : ℕ → Actor → Type 0) (actors : List Actor) (me : ℕ) (b : Actor) (i k : ℕ) → (me ≡ i → P k b) → IsSomeAnd (slice_get actors i) (P k) → IsSomeAnd (slice_get (slice_set actors me b) i) (P k)
set_each P [] me b i k new h = absurd h
set_each P (a ∷ actors) zero b zero k new h = new refl
set_each P (a ∷ actors) zero b (suc i) k new h = h
set_each P (a ∷ actors) (suc me) b zero k new h = h
set_each P (a ∷ actors) (suc me) b (suc i) k new h = set_each P actors me b i k (λ e. new (ap suc e)) h

turned_each : (P : ℕ → Actor → Type 0) → ((i : ℕ) → IsKept (P i)) → (w : World) (me i : ℕ) (o : Option Actor) → slice_get w.actors me ≡ o
    → IsSomeAnd (slice_get w.actors i) (P i) → IsSomeAnd (slice_get (step_of w me o).1.actors i) (P i)
turned_each P k w me i None at h = h
turned_each P k w me i (Some a) at h =
    let t = turn w.words w.lying me a in
    let stood : me ≡ i → P i a = λ same. subst (λ (o : Option Actor). IsSomeAnd o (P i)) (ap (λ j. slice_get w.actors j) (sym same) ∙ at) h in
    subst (λ (x : World). IsSomeAnd (slice_get x.actors i) (P i)) (sym (turned_is w me t a at))
    (set_each P w.actors me (actor_by t a) i i (λ same. wanting_keep (P i) (k i) w.words w.lying me a (want_of a) (stood same)) h)

-- what each actor keeps every step keeps
pub step_each : (P : ℕ → Actor → Type 0) → ((i : ℕ) → IsKept (P i)) → (w : World) (me i : ℕ)
    → IsSomeAnd (slice_get w.actors i) (P i) → IsSomeAnd (slice_get (step w me).1.actors i) (P i)
step_each P k w me i h = turned_each P k w me i (slice_get w.actors me) refl h

taken_image : (a : Actor) (found : ℕ) → HasImage a → HasImage (taken a found).after
taken_image (OfProcessor p) found h = refl
taken_image (OfChipset c) found h = h

given_image : (a : Actor) → HasImage a → HasImage (given a)
given_image (OfProcessor p) h = refl
given_image (OfChipset c) h = h

received_image : (a : Actor) (cargo : Cargo) → HasImage a → HasImage (received cargo a)
received_image (OfProcessor p) cargo h = refl
received_image (OfChipset c) cargo h = h

image_kept : IsKept HasImage
image_kept = record { taken = taken_image; given = given_image; received = received_image }

number_kept : (i : ℕ) → IsKept (HasNumber i)
number_kept i =
    record {
      taken = λ a found h. taken_number a found ∙ h;
      given = λ a h. given_number a ∙ h;
      received = λ a cargo h. received_number cargo a ∙ h;
    }

-- a step takes and brings no actor, and each keeps its number and its image
pub step_actors_are : (n : ℕ) (w : World) (me : ℕ) → AreActors n w.actors → AreActors n (step w me).1.actors
step_actors_are n w me h =
    record {
      count = step_actors w me ∙ h.count;
      numbers = λ i within. step_each HasNumber number_kept w me i (h.numbers i within);
      images = λ i below. step_each (λ j. HasImage) (λ j. image_kept) w me i (h.images i below);
    }

-- AT THE START

first_count : (d : SetupData) (k : ℕ) (rs : List Registers) (ms : List ImageContents) → length ms ≡ length rs → length (first_actors d k rs ms) ≡ length rs + 1
first_count d k [] ms h = refl
first_count d k (r ∷ rs) [] h = absurd (omega (arith, h))
first_count d k (r ∷ rs) (m ∷ ms) h = omega (arith, first_count d (k + 1) rs ms (omega (arith, h)))

first_each : (d : SetupData) (k : ℕ) (rs : List Registers) (ms : List ImageContents) (i : ℕ) → length ms ≡ length rs → i < length rs → IsSomeAnd (slice_get (first_actors d k rs ms) i) HasImage
first_each d k [] ms i h below = absurd (omega (arith, below))
first_each d k (r ∷ rs) [] i h below = absurd (omega (arith, h))
first_each d k (r ∷ rs) (m ∷ ms) zero h below = refl
first_each d k (r ∷ rs) (m ∷ ms) (suc i) h below = first_each d (k + 1) rs ms i (omega (arith, h)) (omega (arith, below))

first_numbers : (d : SetupData) (k : ℕ) (rs : List Registers) (ms : List ImageContents) (i : ℕ) → length ms ≡ length rs → k + length rs ≡ d.processors → i ≤ length rs
    → IsSomeAnd (slice_get (first_actors d k rs ms) i) (HasNumber (k + i))
first_numbers d k [] ms zero h all within = omega (arith, all)
first_numbers d k [] ms (suc i) h all within = absurd (omega (arith, within))
first_numbers d k (r ∷ rs) [] i h all within = absurd (omega (arith, h))
first_numbers d k (r ∷ rs) (m ∷ ms) zero h all within = omega arith
first_numbers d k (r ∷ rs) (m ∷ ms) (suc i) h all within =
    let e : k + 1 + i ≡ k + suc i = omega arith in
    subst (λ (j : ℕ). IsSomeAnd (slice_get (first_actors d (k + 1) rs ms) i) (HasNumber j)) e (first_numbers d (k + 1) rs ms i (omega (arith, h)) (omega (arith, all)) (omega (arith, within)))

first_are_actors : (d : SetupData) (rs : List Registers) (ms : List ImageContents) (actors : List Actor) → length ms ≡ d.processors → length rs ≡ d.processors → actors ≡ first_actors d 0 rs ms
    → AreActors d.processors actors
first_are_actors d rs ms actors images registers is =
    let same = images ∙ sym registers in
    subst (λ (xs : List Actor). AreActors d.processors xs) (sym is)
    (record {
      count = first_count d 0 rs ms same ∙ ap (λ k. k + 1) registers;
      numbers = λ i within.
          let e : 0 + i ≡ i = omega arith in
          subst (λ (j : ℕ). IsSomeAnd (slice_get (first_actors d 0 rs ms) i) (HasNumber j)) e
          (first_numbers d 0 rs ms i same (omega (arith, registers)) (omega (arith, within, registers)));
      images = λ i below. first_each d 0 rs ms i same (omega (arith, below, registers));
    })

-- one actor more of a start
pub first_next : (d : SetupData) (rs : List Registers) (ms : List ImageContents) (i : ℕ) (r : Registers) (m : ImageContents) → i < length rs → i < length ms
    → first_actors d i (drop i rs) (drop i ms) ≡ first_actor d i (get_or rs i r) (get_or ms i m) ∷ first_actors d (i + 1) (drop (i + 1) rs) (drop (i + 1) ms)
first_next d rs ms i r m in_rs in_ms =
    let registers : drop i rs ≡ get_or rs i r ∷ drop (i + 1) rs = drop-cons rs i r in_rs ∙ ap (λ n. get_or rs i r ∷ drop n rs) (sym (add-one i)) in
    let images : drop i ms ≡ get_or ms i m ∷ drop (i + 1) ms = drop-cons ms i m in_ms ∙ ap (λ n. get_or ms i m ∷ drop n ms) (sym (add-one i)) in
    ap (λ xs. first_actors d i xs (drop i ms)) registers ∙ ap (λ ys. first_actors d i (get_or rs i r ∷ drop (i + 1) rs) ys) images

-- a program more in the list of those that are made
pub programs_next : (made all more : List Actor) (a : Actor) (rest : List Actor) → made ++ rest ≡ all → rest ≡ a ∷ more → (made ++ a ∷ []) ++ more ≡ all
programs_next made all more a rest so_far is = append_assoc made (a ∷ []) more ∙ ap (λ xs. made ++ xs) (sym is) ∙ so_far

pub start_actors : (d : SetupData) (ms : List ImageContents) (actors : List Actor) → AreImagesOf d ms → actors ≡ first_actors d 0 (first_registers d ms) ms → AreActors d.processors actors
start_actors d ms actors h is = first_are_actors d (first_registers d ms) ms actors h.count (first_are d ms (first_registers d ms) h refl).count is

-- IN THE CODE

-- one step, by the turn of the actor in its place
pub stepped_world : (words words' : Words) (lying lying' : Lying) (actors : List Actor) (me from : ℕ) (d b : Actor) → from ≡ me → me < length actors
    → let t = turn words lying me (get_or actors from d) in
    words' ≡ words_by t words → lying' ≡ lying_by t lying → b ≡ actor_by t (get_or actors from d)
    → world_in words' lying' (set actors from b) ≡ (step (world_in words lying actors) me).1
stepped_world words words' lying lying' actors me from d b place below words_are lying_are actor_is =
    let a = get_or actors from d in
    let t = turn words lying me a in
    let at : slice_get actors me ≡ Some a = slice_get-get_or actors me d below ∙ ap (λ k. Some (get_or actors k d)) (sym place) in
    let s = step_is (world_in words lying actors) me a at in
    ap (λ x. world_in x lying' (set actors from b)) words_are
    ∙ ap (λ x. world_in (words_by t words) x (set actors from b)) lying_are
    ∙ ap (λ x. world_in (words_by t words) (lying_by t lying) (set actors from x)) actor_is
    ∙ ap (λ k. world_in (words_by t words) (lying_by t lying) (set actors k (actor_by t a))) place
    ∙ sym s.world

-- the actors after a step
pub kept_actors : (n : ℕ) (words words' : Words) (lying lying' : Lying) (olds items news : List Actor) (me : ℕ)
    → olds ≡ items → world_in words' lying' news ≡ (step (world_in words lying olds) me).1 → AreActors n items → AreActors n news
kept_actors n words words' lying lying' olds items news me same is h =
    let before : AreActors n olds = subst (λ (xs : List Actor). AreActors n xs) (sym same) h in
    subst (λ (xs : List Actor). AreActors n xs) (sym (ap (λ (w : World). w.actors) is)) (step_actors_are n (world_in words lying olds) me before)

-- the number of the actor whose turn it is
pub number_at : (actors : List Actor) (me from : ℕ) (d : Actor) → from ≡ me → me < length actors → IsSomeAnd (slice_get actors me) (HasNumber me) → number_of (get_or actors from d) ≡ me
number_at actors me from d place below h =
    let at : slice_get actors me ≡ Some (get_or actors from d) = slice_get-get_or actors me d below ∙ ap (λ k. Some (get_or actors k d)) (sym place) in
    subst (λ (o : Option Actor). IsSomeAnd o (HasNumber me)) at h
