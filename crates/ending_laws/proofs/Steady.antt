-- What holds of the world alone, beside what holds of its session: each processor's signal, by where it stands and whether the chipset has
-- told it to turn off; and while the BSP serves no AP was released.
use Rattle.std.proofs.Common.{ℕ, ◌+◌, ◌-◌, ◌%◌, ◌≡◌, ◌≢◌, ◌<◌, ◌≤◌, ⊎_elim, arith, Bool, true, false, length, get_or, slice_set, Option, Some, None, refl, sym, ap, subst, ◌∙◌}
use Rattle.std.specs.Prelude.{if◌then◌else◌, ◌==◌, ◌&&◌}
use Rattle.std.proofs.lemmas.Bool.{cases_eq}
use Rattle.std.proofs.lemmas.List.{get_or-set_other, get_or-set_same, length-set}
use Rattle.cpu_table.specs.Data.{SetupData}
use Rattle.sync_words.specs.declared.access.Access.{Access}
use Rattle.sync_words.specs.declared.access.Applied.{Applied}
use Rattle.sync_words.specs.declared.access.Applied.TheVariants.{Changed, Same, NotReady}
use Rattle.sync_words.specs.declared.event.Hand.{Hand}
use Rattle.sync_words.specs.declared.event.Hand.TheVariants.{Nothing, Give, Take}
use Rattle.sync_words.specs.declared.event.Want.{Want}
use Rattle.sync_words.specs.declared.event.Want.TheVariants as want
use Rattle.sync_words.specs.declared.row.Row.{Row}
use Rattle.sync_words.specs.declared.row.Row.TheVariants as row
use Rattle.sync_words.specs.declared.word.WordId.{WordId}
use Rattle.sync_words.specs.declared.word.WordId.TheVariants as word
use Rattle.sync_words.specs.Access.{applied}
use Rattle.sync_words.specs.Steps.{hand_of}
use Rattle.cpu_program.specs.declared.cargo.Cargo.{Cargo}
use Rattle.cpu_program.specs.declared.cargo.Cargo.TheVariants as cargo
use Rattle.cpu_program.specs.declared.part.Part.{Part}
use Rattle.chipset.specs.Chipsets.{Chipset, first_chipset}
use Rattle.cpu_program.specs.Actors.{Actor, Processor, OfProcessor, OfChipset}
use Rattle.cpu_program.specs.Hands.{after_giving, after_receiving, desk_left, is_kind}
use Rattle.cpu_program.specs.Processors.{taken_in}
use Rattle.cpu_program.specs.Programs.{gift_of, given_by_hand, received_by_hand, want_of}
use Rattle.rendezvous_core.specs.Worlds.{World, Words, Lying, Turn, Moves, Waits, Rests, read, write, lay, lying_on, gives, takes, accesses, turn_wanting, turned}
use Rattle.ending_laws.proofs.Parts.{class_of}

-- THE INVARIANT

abbrev pub actor_at : SetupData → World → ℕ → Actor
actor_at d w j = get_or w.actors j (OfChipset (first_chipset d))

abbrev pub class_in : Actor → ℕ
class_in (OfProcessor p) = class_of p.part
class_in (OfChipset c) = 0

abbrev pub class_at : SetupData → World → ℕ → ℕ
class_at d w j = class_in (actor_at d w j)

-- how many processors the chipset has told to turn off
abbrev pub told_row : ℕ → Option Row → ℕ
told_row n None = n
told_row n (Some (row.RaiseOff j)) = j
told_row n (Some _) = 0

abbrev pub told_in : ℕ → Actor → ℕ
told_in n (OfProcessor p) = 0
told_in n (OfChipset c) = told_row n c.row

abbrev pub told : SetupData → World → ℕ
told d w = told_in d.processors (actor_at d w d.processors)

-- the signal of the processor j, whose part is of the class k
pub record IsPend (told j k pend : ℕ) : Type 0 where
  pub below : pend < 16
  pub out : 3 ≤ k → pend < 8
  pub off : k ≡ 4 → pend % 8 ≡ 4
  pub last : j < told → pend % 8 ≡ 4

pub record IsSteady (d : SetupData) (w : World) : Type 0 where
  pub count : length w.actors ≡ d.processors + 1
  pub pend : length w.words.pend ≡ d.processors
  pub each : (j : ℕ) → j < d.processors → IsPend (told d w) j (class_at d w j) (get_or w.words.pend j 0)
  pub staying : (b j : ℕ) → b < d.processors → j < d.processors → class_at d w b ≡ 1 → class_at d w j ≢ 2

-- ONE ACTOR MOVES

-- a processor
pub moved : (d : SetupData) (w : World) (i : ℕ) (words : Words) (lying : Lying) (a : Actor) → IsSteady d w → i < d.processors → length words.pend ≡ d.processors
    → ((j : ℕ) → j < d.processors → j ≢ i → IsPend (told d w) j (class_at d w j) (get_or words.pend j 0))
    → IsPend (told d w) i (class_in a) (get_or words.pend i 0)
    → (class_in a ≡ 1 → (j : ℕ) → j < d.processors → j ≢ i → class_at d w j ≢ 2)
    → (class_in a ≡ 2 → (b : ℕ) → b < d.processors → b ≢ i → class_at d w b ≢ 1)
    → IsSteady d (record { words = words; lying = lying; actors = slice_set w.actors i a })
moved d w i words lying a f l size others own leavers servers =
    let w' : World = record { words = words; lying = lying; actors = slice_set w.actors i a } in
    let there : i < length w.actors = (let c = f.count in omega arith) in
    let here : actor_at d w' i ≡ a = get_or-set_same w.actors i a (OfChipset (first_chipset d)) there in
    let other : (j : ℕ) → j ≢ i → actor_at d w' j ≡ actor_at d w j = (λ j q. get_or-set_other w.actors i j a (OfChipset (first_chipset d)) q) in
    let told_is : told d w' ≡ told d w = ap (told_in d.processors) (other d.processors (λ q. omega (arith, l, q))) in
    record {
      count = length-set w.actors i a ∙ f.count;
      pend = size;
      each = λ j k.
          subst (λ (x : ℕ). IsPend x j (class_at d w' j) (get_or words.pend j 0)) (sym told_is)
          (⊎_elim
          (λ (q : j ≡ i). subst (λ (y : ℕ). IsPend (told d w) y (class_at d w' y) (get_or words.pend y 0)) (sym q) (subst (λ (x : Actor). IsPend (told d w) i (class_in x) (get_or words.pend i 0)) (sym here) own))
          (λ (q : j ≢ i). subst (λ (x : Actor). IsPend (told d w) j (class_in x) (get_or words.pend j 0)) (sym (other j q)) (others j k q))
          (cases_eq j i));
      staying = λ b j lb lj x y.
          ⊎_elim
          (λ (q : b ≡ i).
          let one : class_in a ≡ 1 = sym (ap (λ (u : ℕ). class_at d w' u) q ∙ ap class_in here) ∙ x in
          ⊎_elim
          (λ (r : j ≡ i). let two : class_in a ≡ 2 = sym (ap (λ (u : ℕ). class_at d w' u) r ∙ ap class_in here) ∙ y in omega (arith, one, two))
          (λ (r : j ≢ i). leavers one j lj r (sym (ap class_in (other j r)) ∙ y))
          (cases_eq j i))
          (λ (q : b ≢ i).
          let one : class_at d w b ≡ 1 = sym (ap class_in (other b q)) ∙ x in
          ⊎_elim
          (λ (r : j ≡ i). servers (sym (ap (λ (u : ℕ). class_at d w' u) r ∙ ap class_in here) ∙ y) b lb q one)
          (λ (r : j ≢ i). f.staying b j lb lj one (sym (ap class_in (other j r)) ∙ y))
          (cases_eq j i))
          (cases_eq b i);
    }

-- the chipset
pub moved_chip : (d : SetupData) (w : World) (words : Words) (lying : Lying) (c : Chipset) → IsSteady d w → length words.pend ≡ d.processors
    → ((j : ℕ) → j < d.processors → IsPend (told_row d.processors c.row) j (class_at d w j) (get_or words.pend j 0))
    → IsSteady d (record { words = words; lying = lying; actors = slice_set w.actors d.processors (OfChipset c) })
moved_chip d w words lying c f size all =
    let n : ℕ = d.processors in
    let a : Actor = OfChipset c in
    let w' : World = record { words = words; lying = lying; actors = slice_set w.actors n a } in
    let there : n < length w.actors = (let c = f.count in omega arith) in
    let here : actor_at d w' n ≡ a = get_or-set_same w.actors n a (OfChipset (first_chipset d)) there in
    let other : (j : ℕ) → j < n → class_at d w' j ≡ class_at d w j = (λ j k. ap class_in (get_or-set_other w.actors n j a (OfChipset (first_chipset d)) (λ q. omega (arith, k, q)))) in
    record {
      count = length-set w.actors n a ∙ f.count;
      pend = size;
      each = λ j k.
          subst (λ (x : ℕ). IsPend x j (class_at d w' j) (get_or words.pend j 0)) (sym (ap (told_in n) here))
          (subst (λ (x : ℕ). IsPend (told_row n c.row) j x (get_or words.pend j 0)) (sym (other j k)) (all j k));
      staying = λ b j lb lj x y. f.staying b j lb lj (sym (other b lb) ∙ x) (sym (other j lj) ∙ y);
    }

-- a signal is written, of any processor
pub written : (d : SetupData) (w : World) (t x told : ℕ) → length w.words.pend ≡ d.processors → ((j : ℕ) → j < d.processors → IsPend told j (class_at d w j) (get_or w.words.pend j 0))
    → (t < d.processors → IsPend told t (class_at d w t) (get_or w.words.pend t 0) → IsPend told t (class_at d w t) x) → (j : ℕ) → j < d.processors
    → IsPend told j (class_at d w j) (get_or (slice_set w.words.pend t x) j 0)
written d w t x told size f h j k =
    ⊎_elim
    (λ (q : j ≡ t).
    let lt : t < d.processors = subst (λ (y : ℕ). y < d.processors) q k in
    subst (λ (y : ℕ). IsPend told y (class_at d w y) (get_or (slice_set w.words.pend t x) y 0)) (sym q)
    (subst (λ (y : ℕ). IsPend told t (class_at d w t) y) (sym (get_or-set_same w.words.pend t x 0 (rw size lt))) (h lt (f t lt))))
    (λ (q : j ≢ t). subst (λ (y : ℕ). IsPend told j (class_at d w j) y) (sym (get_or-set_other w.words.pend t j x 0 q)) (f j k))
    (cases_eq j t)

-- the low digit of a signal changes to x, where it wasn't 4
pub low_digit : (told j v x k : ℕ) → x ≤ 4 → v % 8 ≢ 4 → IsPend told j k v → IsPend told j k (v - v % 8 + x)
low_digit told j v x k a b h =
    let c = h.below in
    record { below = omega arith; out = λ y. let d = h.out y in omega arith; off = λ y. absurd (b (h.off y)); last = λ y. absurd (b (h.last y)) }

-- TURNS

abbrev pub SteadyTurn : SetupData → World → ℕ → Turn → Type 0
SteadyTurn d w i (Moves e words lying a) = IsSteady d (record { words = words; lying = lying; actors = slice_set w.actors i a })
SteadyTurn d w i (Waits found) = Unit {0}
SteadyTurn d w i Rests = Unit {0}

pub turned_steady : (d : SetupData) (w : World) (i : ℕ) (t : Turn) → IsSteady d w → SteadyTurn d w i t → IsSteady d (turned w i t).1
turned_steady d w i (Moves e words lying a) f h = h
turned_steady d w i (Waits found) f h = f
turned_steady d w i Rests f h = f

-- HANDS

if_part : (b : Bool) (x y : Processor) (q : Part) → x.part ≡ q → y.part ≡ q → (if b then x else y).part ≡ q
if_part true x y q f g = f
if_part false x y q f g = g

giving_part : (p : Processor) (k : ℕ) → (after_giving p k).part ≡ p.part
giving_part p k = if_part (k == p.setup.processors) (record p { chair = None }) (desk_left p k) p.part refl refl

given_part : (h : Hand) (p : Processor) → (given_by_hand h p).part ≡ p.part
given_part Nothing p = refl
given_part (Give k) p = giving_part p k
given_part (Take k) p = refl

taking_part : (p : Processor) (k : ℕ) (x : Cargo) → (after_receiving p k x).part ≡ p.part
taking_part p k (cargo.Desk desk) = if_part (is_kind desk.image.kind p.setup.kind) (record p { held = slice_set p.held k (Some desk) }) p p.part refl refl
taking_part p k (cargo.Chair s) = if_part (k == p.setup.processors && s.setup.processors == p.setup.processors) (record p { chair = Some s }) p p.part refl refl

received_part : (h : Hand) (x : Cargo) (p : Processor) → (received_by_hand h x p).part ≡ p.part
received_part Nothing x p = refl
received_part (Give k) x p = taking_part p k x
received_part (Take k) x p = taking_part p k x

-- ACCESSES TO OTHER WORDS

abbrev pub not_pend : WordId → ℕ
not_pend (word.Pend i) = 0
not_pend _ = 1

abbrev pub other_word : Want → ℕ
other_word want.Off = 1
other_word (want.Access word access hand) = not_pend word

write_pend : (words : Words) (w : WordId) (x : ℕ) → not_pend w ≡ 1 → (write words w x).pend ≡ words.pend
write_pend words (word.Pend i) x h = absurd (omega (arith, h))
write_pend words _ x h = refl

-- wherever the processor is landed by its event, with the signals that there were, that is kept
abbrev pub Lands : SetupData → World → ℕ → Part → Type 0
Lands d w i at =
    (q : Processor) (found : ℕ) → q.part ≡ at → (words : Words) (lying : Lying) → words.pend ≡ w.words.pend
    → IsSteady d (record { words = words; lying = lying; actors = slice_set w.actors i (OfProcessor (taken_in q.part q found).after) })

module _ (d : SetupData) (w : World) (i : ℕ) (p : Processor) (lands : Lands d w i p.part) where
  plain_gives : (word : WordId) (access : Access) (new found : ℕ) (o : Option Cargo) → not_pend word ≡ 1
      → SteadyTurn d w i (gives w.words w.lying i word access new found (OfProcessor p) o)
  plain_gives word access new found None n = tt
  plain_gives word access new found (Some x) n =
      lands (given_by_hand (hand_of (want_of (OfProcessor p))) p) found (given_part (hand_of (want_of (OfProcessor p))) p) (write w.words word new) (lay w.lying word (Some x)) (write_pend w.words word new n)

  plain_takes : (word : WordId) (access : Access) (new found : ℕ) (o : Option Cargo) → not_pend word ≡ 1
      → SteadyTurn d w i (takes w.words w.lying i word access new found (OfProcessor p) o)
  plain_takes word access new found None n = tt
  plain_takes word access new found (Some x) n =
      lands (received_by_hand (hand_of (want_of (OfProcessor p))) x p) found (received_part (hand_of (want_of (OfProcessor p))) x p) (write w.words word new) (lay w.lying word None) (write_pend w.words word new n)

  plain_access : (word : WordId) (access : Access) (hand : Hand) (x : Applied) → not_pend word ≡ 1 → SteadyTurn d w i (accesses w.words w.lying i word access hand (OfProcessor p) x)
  plain_access word access hand (NotReady found) n = tt
  plain_access word access hand (Same found) n = lands p found refl w.words w.lying refl
  plain_access word access Nothing (Changed new found) n = lands p found refl (write w.words word new) w.lying (write_pend w.words word new n)
  plain_access word access (Give k) (Changed new found) n = plain_gives word access new found (gift_of (OfProcessor p)) n
  plain_access word access (Take k) (Changed new found) n = plain_takes word access new found (lying_on w.lying word) n

  -- a turn that goes to another word than a signal
  pub plain : (x : Want) → other_word x ≡ 1 → SteadyTurn d w i (turn_wanting w.words w.lying i (OfProcessor p) x)
  plain want.Off n = tt
  plain (want.Access word access hand) n = plain_access word access hand (applied (read w.words word) access) n
