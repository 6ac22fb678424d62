-- Each processor of a world stays one of the platform.
use Rattle.std.proofs.Common.{◌≡◌, ℕ, zero, suc, ◌+◌, ◌<◌, List, [], ◌∷◌, Option, Some, None, length, refl, ap, sym, subst, ◌∙◌, arith}
use Rattle.std.specs.Prelude.{slice_get, slice_set, IsSomeAnd}
use Rattle.save_state_map.specs.Images.{ImageContents}
use Rattle.cpu_regs.specs.Registers.{Registers}
use Rattle.cpu_table.specs.Data.{SetupData}
use Rattle.sync_words.specs.declared.word.WordId.{WordId}
use Rattle.sync_words.specs.declared.access.Access.{Access}
use Rattle.sync_words.specs.declared.access.Applied.{Applied}
use Rattle.sync_words.specs.declared.access.Applied.TheVariants.{Changed, Same, NotReady}
use Rattle.sync_words.specs.declared.event.Hand.{Hand}
use Rattle.sync_words.specs.declared.event.Hand.TheVariants.{Nothing, Give, Take}
use Rattle.sync_words.specs.declared.event.Want.{Want}
use Rattle.sync_words.specs.declared.event.Want.TheVariants as want
use Rattle.sync_words.specs.Access.{applied}
use Rattle.cpu_program.specs.declared.cargo.Cargo.{Cargo}
use Rattle.cpu_program.specs.Actors.{Actor, OfProcessor, OfChipset}
use Rattle.cpu_program.specs.Platforms.{IsProcessorOf, FitsPlatform}
use Rattle.cpu_program.specs.Programs.{want_of, gift_of, given, received}
use Rattle.cpu_program.proofs.PlatformLemmas.{taken_of, given_of, received_of}
use Rattle.rendezvous_core.specs.Platforms.{HasProcessorOf, HasFittingImage}
use Rattle.rendezvous_core.specs.Worlds.{Words, Lying, World, Turn, Moves, Waits, Rests, lying_on, read, gives, takes, changes, accesses, turn_wanting, turn, turned, step_of, first_actors, start, replay_world, last_in, last_image}
use Rattle.rendezvous_core.proofs.Scheduling.{after_schedule}

-- a turn leaves its actor on the platform
abbrev StaysOf : SetupData → Turn → Type 0
StaysOf d (Moves e words lying a) = IsProcessorOf d a
StaysOf d (Waits found) = Unit {0}
StaysOf d Rests = Unit {0}

gives_of : (d : SetupData) (words : Words) (lying : Lying) (me : ℕ) (word : WordId) (access : Access) (new found : ℕ) (a : Actor) (o : Option Cargo) → IsProcessorOf d a → StaysOf d (gives words lying me word access new found a o)
gives_of d words lying me word access new found a None h = tt
gives_of d words lying me word access new found a (Some cargo) h = taken_of d (given a) found (given_of d a h)

takes_of : (d : SetupData) (words : Words) (lying : Lying) (me : ℕ) (word : WordId) (access : Access) (new found : ℕ) (a : Actor) (o : Option Cargo) → IsProcessorOf d a → StaysOf d (takes words lying me word access new found a o)
takes_of d words lying me word access new found a None h = tt
takes_of d words lying me word access new found a (Some cargo) h = taken_of d (received cargo a) found (received_of d a cargo h)

changes_of : (d : SetupData) (words : Words) (lying : Lying) (me : ℕ) (word : WordId) (access : Access) (hand : Hand) (new found : ℕ) (a : Actor) → IsProcessorOf d a → StaysOf d (changes words lying me word access hand new found a)
changes_of d words lying me word access Nothing new found a h = taken_of d a found h
changes_of d words lying me word access (Give k) new found a h = gives_of d words lying me word access new found a (gift_of a) h
changes_of d words lying me word access (Take k) new found a h = takes_of d words lying me word access new found a (lying_on lying word) h

accesses_of : (d : SetupData) (words : Words) (lying : Lying) (me : ℕ) (word : WordId) (access : Access) (hand : Hand) (a : Actor) (x : Applied) → IsProcessorOf d a → StaysOf d (accesses words lying me word access hand a x)
accesses_of d words lying me word access hand a (NotReady found) h = tt
accesses_of d words lying me word access hand a (Same found) h = taken_of d a found h
accesses_of d words lying me word access hand a (Changed new found) h = changes_of d words lying me word access hand new found a h

wanting_of : (d : SetupData) (words : Words) (lying : Lying) (me : ℕ) (a : Actor) (w : Want) → IsProcessorOf d a → StaysOf d (turn_wanting words lying me a w)
wanting_of d words lying me a want.Off h = tt
wanting_of d words lying me a (want.Access word access hand) h = accesses_of d words lying me word access hand a (applied (read words word) access) h

set_of : (d : SetupData) (actors : List Actor) (me : ℕ) (b : Actor) (i : ℕ) → (me ≡ i → IsProcessorOf d b) → IsSomeAnd (slice_get actors i) (IsProcessorOf d) → IsSomeAnd (slice_get (slice_set actors me b) i) (IsProcessorOf d)
set_of d [] me b i new h = absurd h
set_of d (a ∷ actors) zero b zero new h = new refl
set_of d (a ∷ actors) zero b (suc i) new h = h
set_of d (a ∷ actors) (suc me) b zero new h = h
set_of d (a ∷ actors) (suc me) b (suc i) new h = set_of d actors me b i (λ e. new (ap suc e)) h

turned_of : (d : SetupData) (w : World) (me : ℕ) (t : Turn) (i : ℕ) → (me ≡ i → StaysOf d t) → HasProcessorOf d w i → HasProcessorOf d (turned w me t).1 i
turned_of d w me (Moves e words lying a) i stays h = set_of d w.actors me a i stays h
turned_of d w me (Waits found) i stays h = h
turned_of d w me Rests i stays h = h

stepped_of : (d : SetupData) (w : World) (me : ℕ) (o : Option Actor) (i : ℕ) → slice_get w.actors me ≡ o → HasProcessorOf d w i → HasProcessorOf d (step_of w me o).1 i
stepped_of d w me None i at h = h
stepped_of d w me (Some a) i at h =
    let P : Option Actor → Type 0 = λ x. IsSomeAnd x (IsProcessorOf d) in
    turned_of d w me (turn w.words w.lying me a) i (λ same. wanting_of d w.words w.lying me a (want_of a) (subst P (ap (λ k. slice_get w.actors k) (sym same) ∙ at) h)) h

first_of : (d : SetupData) (k : ℕ) (rs : List Registers) (ms : List ImageContents) (i : ℕ) → length ms ≡ length rs → i < length rs → IsSomeAnd (slice_get (first_actors d k rs ms) i) (IsProcessorOf d)
first_of d k [] ms i same below = absurd (omega (arith, below))
first_of d k (r ∷ rs) [] i same below = absurd (omega (arith, same))
first_of d k (r ∷ rs) (m ∷ ms) zero same below = refl
first_of d k (r ∷ rs) (m ∷ ms) (suc i) same below = first_of d (k + 1) rs ms i (omega (arith, same)) (omega (arith, below))

-- after every schedule each processor is still one of the platform
pub replayed_of : (d : SetupData) (registers : List Registers) (images : List ImageContents) (schedule : List ℕ) (i : ℕ) → length images ≡ length registers → i < length registers → HasProcessorOf d (replay_world d registers images schedule) i
replayed_of d registers images schedule i same below =
    after_schedule (λ w _. HasProcessorOf d w i) (λ w _ me h. stepped_of d w me (slice_get w.actors me) i refl h) schedule (start d registers images) [] (first_of d 0 registers images i same below)

some_is : (x y : ImageContents) → ◌≡◌ {A = Option ImageContents} (Some x) (Some y) → x ≡ y
some_is x y e = cc

kind_in : (d : SetupData) (o : Option Actor) (image : ImageContents) → IsSomeAnd o (IsProcessorOf d) → IsSomeAnd o FitsPlatform → last_in o ≡ Some image → image.kind ≡ d.kind
kind_in d None image of fits is = absurd of
kind_in d (Some (OfProcessor p)) image of fits is = ap (λ m. m.kind) (sym (some_is p.last image is)) ∙ fits ∙ ap (λ s. s.kind) of
kind_in d (Some (OfChipset c)) image of fits is = absurd of

-- the image after of a processor of the platform is of the platform's kind
pub kind_is : (d : SetupData) (w : World) (i : ℕ) (image : ImageContents) → HasProcessorOf d w i → HasFittingImage w i → last_image w i ≡ Some image → image.kind ≡ d.kind
kind_is d w i image of fits is = kind_in d (slice_get w.actors i) image of fits is
