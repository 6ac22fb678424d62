-- Every request leaves a pool well formed.
use Rattle.std.proofs.Common.{◌≡◌, ℕ, zero, suc, ◌+◌, ◌-◌, ◌*◌, ◌<◌, Bool, true, false, cond, eqb, ltb, leb, List, [], ◌∷◌, Option, Some, None, IfSome, length, get_or, refl, sym, ap, subst, ◌∙◌, arith, inl, inr}
use Rattle.std.proofs.lemmas.List.{length-set}
use Rattle.std.proofs.lemmas.Bool.{cases_Bool, cases_lt, eqb-true, eqb-false}
use Rattle.smram_pool.specs.State.{PoolState, Taken, block_size, class_for, pages_for, put, found, without, run_taken, block_taken, block_allocated, run_allocated, pages_allocated, allocated, block_freed, run_freed, freed_at, freed_block, freed, freed_run, pages_freed, pages_from, fresh}
use Rattle.smram_pool.specs.Partition.{IsMeasure, measured, IsClass, IsCount, Each, IsWellFormed}
use Rattle.smram_pool.proofs.MeasureLemmas.{sized, page_pieces, measured_pieces, measured_put, measured_without, measure_none, measure_pages, measured_put_pages, measured_taken, measured_block_put, IsSplit, free_measure, split_block}

each_put : (P : ℕ → Type 0) (place amount : ℕ) (es : List (ℕ × ℕ)) → P amount → Each P es → Each P (put place amount es)
each_put P place amount [] p h = (p, tt)
each_put P place amount (e ∷ es) p h =
    elim (cases_Bool (ltb place e.0)) [
      | inl t ↦ rw t (p, h)
      | inr n ↦ rw n (h.0, each_put P place amount es p h.1)
    ]

each_without : (P : ℕ → Type 0) (place : ℕ) (es : List (ℕ × ℕ)) → Each P es → Each P (without place es)
each_without P place [] h = tt
each_without P place (e ∷ es) h =
    elim (cases_Bool (eqb e.0 place)) [
      | inl t ↦ rw t h.1
      | inr n ↦ rw n (h.0, each_without P place es h.1)
    ]

each_found : (P : ℕ → Type 0) (place : ℕ) (es : List (ℕ × ℕ)) → Each P es → IfSome (found place es) P
each_found P place [] h = tt
each_found P place (e ∷ es) h =
    elim (cases_Bool (eqb e.0 place)) [
      | inl t ↦ rw t h.0
      | inr n ↦ rw n (each_found P place es h.1)
    ]

-- what holds of something that was found
pub at_found : {A : Type 0} (P : A → Type 0) (o : Option A) (x : A) → o ≡ Some x → IfSome o P → P x
at_found P o x e h = let Q : Option _ → Type 0 = λ q. IfSome q P in subst Q e h

pub found_is : (P : ℕ → Type 0) (place amount : ℕ) (es : List (ℕ × ℕ)) → found place es ≡ Some amount → Each P es → P amount
found_is P place amount es e h = at_found P (found place es) amount e (each_found P place es h)

-- what is at a place, and the others
pub measured_found : (m : ℕ → ℕ → ℕ) (f : ℕ → ℕ) (place amount : ℕ) (es : List (ℕ × ℕ)) → found place es ≡ Some amount →
    measured m (sized f es) ≡ m place (f amount) + measured m (sized f (without place es))
measured_found m f place amount es e =
    at_found (λ (a : ℕ). measured m (sized f es) ≡ m place (f a) + measured m (sized f (without place es))) (found place es) amount e (measured_without m f place es)

-- by this measure nothing has any
no_measure : ℕ → ℕ → ℕ
no_measure place length = 0

no_measure_is : IsMeasure no_measure
unfolding no_measure
no_measure_is place lower upper = refl

keeps_block : (class : ℕ) (s : PoolState) (o : Option Taken) → IsClass class → IsWellFormed s →
    ((m : ℕ → ℕ → ℕ) → IsMeasure m → IfSome o (IsSplit m class (free_measure m s.blocks s.free_pages) (length s.blocks))) →
    IsWellFormed ((block_allocated class s o).1)
keeps_block class s None c w h = w
keeps_block class s (Some t) c w h =
    record {
      lists = (h no_measure no_measure_is).lists_stay ∙ w.lists;
      classes = each_put IsClass t.place class s.live c w.classes;
      counts = w.counts;
      whole = λ m is.
          let split = h m is in
          omega (arith, w.whole m is, split.whole, measured_pieces m s, measured_pieces m ((block_allocated class s (Some t)).1), measured_put m block_size t.place class s.live);
    }

keeps_run : (count : ℕ) (s : PoolState) (o : Option (ℕ × List ℕ)) → 0 < count → IsWellFormed s →
    ((m : ℕ → ℕ → ℕ) → IsMeasure m → IfSome o (λ r. measured m (page_pieces s.free_pages) ≡ m r.0 (4096 * count) + measured m (page_pieces r.1))) →
    IsWellFormed ((run_allocated count s o).1)
keeps_run count s None c w h = w
keeps_run count s (Some r) c w h =
    record {
      lists = w.lists;
      classes = w.classes;
      counts = each_put IsCount r.0 count s.runs c w.counts;
      whole = λ m is.
          omega (arith, w.whole m is, h m is, measured_pieces m s, measured_pieces m ((run_allocated count s (Some r)).1), measured_put m (λ n. 4096 * n) r.0 count s.runs);
    }

pub keeps_block_freed : (place class : ℕ) (s : PoolState) → found place s.live ≡ Some class → IsWellFormed s → IsWellFormed (block_freed place class s)
keeps_block_freed place class s e w =
    let is_class : IsClass class = found_is IsClass place class s.live e w.classes in
    let one : 1 + (class - 1) ≡ class = omega arith in
    record {
      lists = length-set s.blocks (class - 1) (place ∷ get_or s.blocks (class - 1) []) ∙ w.lists;
      classes = each_without IsClass place s.live w.classes;
      counts = w.counts;
      whole = λ m is.
          let size : m place (block_size (1 + (class - 1))) ≡ m place (block_size class) = ap (λ (k : ℕ). m place (block_size k)) one in
          omega (
            arith,
            size,
            w.whole m is,
            measured_pieces m s,
            measured_pieces m (block_freed place class s),
            measured_found m block_size place class s.live e,
            measured_block_put m 1 (class - 1) place s.blocks (omega (arith, w.lists)),
          );
    }

pub keeps_run_freed : (place count : ℕ) (s : PoolState) → found place s.runs ≡ Some count → IsWellFormed s → IsWellFormed (run_freed place count s)
keeps_run_freed place count s e w =
    record {
      lists = w.lists;
      classes = w.classes;
      counts = each_without IsCount place s.runs w.counts;
      whole = λ m is.
          omega (
            arith,
            w.whole m is,
            measured_pieces m s,
            measured_pieces m (run_freed place count s),
            measured_found m (λ n. 4096 * n) place count s.runs e,
            measured_put_pages m is count place s.free_pages,
          );
    }

-- each class that a request asks for is one of the six
is_class_by : (b : Bool) (x y : ℕ) → IsClass x → IsClass y → IsClass (cond b x y)
is_class_by true x y h k = h
is_class_by false x y h k = k

pub class_for_is : (size : ℕ) → IsClass (class_for size)
class_for_is size =
    is_class_by (leb size 64) 6 _ (omega arith, omega arith)
    (is_class_by (leb size 128) 5 _ (omega arith, omega arith)
    (is_class_by (leb size 256) 4 _ (omega arith, omega arith)
    (is_class_by (leb size 512) 3 _ (omega arith, omega arith)
    (is_class_by (leb size 1024) 2 1 (omega arith, omega arith) (omega arith, omega arith)))))

pub keeps_class : (class : ℕ) (s : PoolState) → IsClass class → IsWellFormed s → IsWellFormed ((block_allocated class s (block_taken class s.blocks s.free_pages)).1)
keeps_class class s c w =
    keeps_block class s (block_taken class s.blocks s.free_pages) c w
    (λ m is. split_block m is class s.blocks s.free_pages c.1 (omega (arith, w.lists, c.1)))

pub keeps_count : (count : ℕ) (s : PoolState) → 0 < count → IsWellFormed s → IsWellFormed ((run_allocated count s (run_taken count s.free_pages)).1)
keeps_count count s c w = keeps_run count s (run_taken count s.free_pages) c w (λ m is. measured_taken m is count s.free_pages)

some_count : (count : ℕ) → eqb count 0 ≡ false → 0 < count
some_count count n =
    elim (cases_lt 0 count) [
      | inl p ↦ p
      | inr z ↦ absurd (eqb-false count 0 n (omega arith))
    ]

pub keeps_pages_allocated : (count : ℕ) (s : PoolState) → IsWellFormed s → IsWellFormed ((pages_allocated count s).1)
keeps_pages_allocated count s w =
    elim (cases_Bool (eqb count 0)) [
      | inl t ↦ rw t w
      | inr n ↦ rw n (keeps_count count s (some_count count n) w)
    ]

pub keeps_allocated : (size : ℕ) (s : PoolState) → IsWellFormed s → IsWellFormed ((allocated size s).1)
keeps_allocated size s w =
    elim (cases_Bool (eqb size 0)) [
      | inl t ↦ rw t w
      | inr n ↦
          rw n
          (elim (cases_Bool (leb size 2048)) [
            | inl few ↦ rw few (keeps_class (class_for size) s (class_for_is size) w)
            | inr many ↦ rw many (keeps_pages_allocated (pages_for size) s w)
          ])
    ]

keeps_freed_at : (place : ℕ) (s : PoolState) (o : Option ℕ) → found place s.runs ≡ o → IsWellFormed s → IsWellFormed ((freed_at place s o).1)
keeps_freed_at place s None e w = w
keeps_freed_at place s (Some count) e w = keeps_run_freed place count s e w

keeps_freed_block : (place : ℕ) (s : PoolState) (o : Option ℕ) → found place s.live ≡ o → IsWellFormed s → IsWellFormed ((freed_block place s o).1)
keeps_freed_block place s None e w = keeps_freed_at place s (found place s.runs) refl w
keeps_freed_block place s (Some class) e w = keeps_block_freed place class s e w

pub keeps_freed : (place : ℕ) (s : PoolState) → IsWellFormed s → IsWellFormed ((freed place s).1)
keeps_freed place s w = keeps_freed_block place s (found place s.live) refl w

keeps_freed_run : (place count : ℕ) (s : PoolState) (o : Option ℕ) → found place s.runs ≡ o → IsWellFormed s → IsWellFormed ((freed_run place count s o).1)
keeps_freed_run place count s None e w = w
keeps_freed_run place count s (Some n) e w =
    elim (cases_Bool (eqb n count)) [
      | inl t ↦ rw t (let same : found place s.runs ≡ Some count = e ∙ ap Some (eqb-true n count t) in keeps_run_freed place count s same w)
      | inr f ↦ rw f w
    ]

pub keeps_pages_freed : (place count : ℕ) (s : PoolState) → IsWellFormed s → IsWellFormed ((pages_freed place count s).1)
keeps_pages_freed place count s w = keeps_freed_run place count s (found place s.runs) refl w

measured_from : (m : ℕ → ℕ → ℕ) → IsMeasure m → (count place : ℕ) → measured m (page_pieces (pages_from count place)) ≡ m place (4096 * count)
measured_from m is zero place = sym (measure_none m is place)
measured_from m is (suc count) place = omega (arith, measured_from m is count (place + 4096), measure_pages m is place count)

pub fresh_is : (start pages : ℕ) → IsWellFormed (fresh start pages)
fresh_is start pages =
    record {
      lists = refl;
      classes = tt;
      counts = tt;
      whole = λ m is. omega (arith, measured_pieces m (fresh start pages), measured_from m is pages start);
    }
