-- The places of a pool have 64 bits.
use Rattle.std.proofs.Common.{◌≡◌, ℕ, ◌+◌, ◌-◌, ◌*◌, ◌/◌, ◌<◌, ◌≤◌, ◌^◌, ◌∙◌, Bool, true, false, cond, eqb, leb, List, Option, Some, None, refl, arith}
use Rattle.std.specs.Prelude.{◌&&◌, nat_le, nat_lt, IfOk, Result}
use Rattle.std.proofs.lemmas.Bool.{and_parts, leb-true, leb-false}
use Rattle.cpu_table.specs.declared.setup.Smram.{Smram}
use Rattle.cpu_table.specs.Layout.{areas_end, layout_refusal, layout_fits, is_accepted}
use Rattle.cpu_table.specs.declared.layout.LayoutError.{LayoutError}
use Rattle.cpu_table.specs.Ranges.{smram_fits, is_between}
use Rattle.smbase_reloc.specs.Pools.{pool_of}
use Rattle.smbase_reloc.proofs.AreaLemmas.{accepted}
use Rattle.smram_pool.specs.declared.error.PoolError.{PoolError}
use Rattle.smram_pool.specs.State.{PoolState, Taken, class_for, pages_for, run_taken, block_taken, block_allocated, run_allocated, allocated, freed, freed_at, freed_block, found, fresh}
use Rattle.smram_pool.specs.Partition.{IsClass, IsWellFormed}
use Rattle.smram_pool.proofs.MeasureLemmas.{measured_pieces}
use Rattle.smram_pool.proofs.WellFormedLemmas.{class_for_is, keeps_allocated, keeps_freed, fresh_is}
use Rattle.smram_pool.proofs.RangeLemmas.{IsPiece, piece_within, run_is, taken_within}

-- a well-formed pool that ends below 2^64
pub record PoolFits (s : PoolState) : Type 0 where
  pub well : IsWellFormed s
  pub end : s.start + 4096 * s.pages < 2 ^ 64

-- the range stays
record IsSameRange (s t : PoolState) : Type 0 where
  start : t.start ≡ s.start
  pages : t.pages ≡ s.pages

block_range : (class : ℕ) (s : PoolState) (o : Option Taken) → IsSameRange s (block_allocated class s o).1
block_range class s None = record { start = refl; pages = refl }
block_range class s (Some t) = record { start = refl; pages = refl }

run_range : (count : ℕ) (s : PoolState) (o : Option (ℕ × List ℕ)) → IsSameRange s (run_allocated count s o).1
run_range count s None = record { start = refl; pages = refl }
run_range count s (Some t) = record { start = refl; pages = refl }

by_test : (A : Type 0) (s : PoolState) (b : Bool) (x y : Result A PoolError × PoolState) → IsSameRange s x.1 → IsSameRange s y.1 → IsSameRange s (cond b x y).1
by_test A s true x y h k = h
by_test A s false x y h k = k

allocated_range : (size : ℕ) (s : PoolState) → IsSameRange s (allocated size s).1
allocated_range size s =
    by_test ℕ s (eqb size 0) _ _ (record { start = refl; pages = refl })
    (by_test ℕ s (leb size 2048) _ _ (block_range (class_for size) s (block_taken (class_for size) s.blocks s.free_pages))
    (by_test ℕ s (eqb (pages_for size) 0) _ _ (record { start = refl; pages = refl }) (run_range (pages_for size) s (run_taken (pages_for size) s.free_pages))))

freed_range_at : (place : ℕ) (s : PoolState) (o : Option ℕ) → IsSameRange s (freed_at place s o).1
freed_range_at place s None = record { start = refl; pages = refl }
freed_range_at place s (Some count) = record { start = refl; pages = refl }

freed_range_by : (place : ℕ) (s : PoolState) (o : Option ℕ) → IsSameRange s (freed_block place s o).1
freed_range_by place s None = freed_range_at place s (found place s.runs)
freed_range_by place s (Some class) = record { start = refl; pages = refl }

pub allocated_keeps : (size : ℕ) (s : PoolState) → PoolFits s → PoolFits (allocated size s).1
allocated_keeps size s h =
    let r = allocated_range size s in
    record { well = keeps_allocated size s h.well; end = omega (arith, h.end, r.start, r.pages) }

pub freed_keeps : (place : ℕ) (s : PoolState) → PoolFits s → PoolFits (freed place s).1
freed_keeps place s h =
    let r = freed_range_by place s (found place s.live) in
    record { well = keeps_freed place s h.well; end = omega (arith, h.end, r.start, r.pages) }

-- WHERE A REQUEST GOES

block_goes : (class : ℕ) (s : PoolState) (o : Option Taken) → block_taken class s.blocks s.free_pages ≡ o → IsClass class → PoolFits s → IfOk (block_allocated class s o).0 (λ place. place < 2 ^ 64)
block_goes class s None e c h = tt
block_goes class s (Some t) e c h = let w = taken_within s class t c h.well e in let low = w.0 in let high = w.1 in omega (arith, h.end, high)

run_goes : (count : ℕ) (s : PoolState) (o : Option (ℕ × List ℕ)) → run_taken count s.free_pages ≡ o → 0 < count → PoolFits s → IfOk (run_allocated count s o).0 (λ place. place < 2 ^ 64)
run_goes count s None e c h = tt
run_goes count s (Some r) e c h =
    let piece : IsPiece s r.0 (4096 * count) = λ m is. let split = run_is s count r e m is in omega (arith, split, measured_pieces m s) in
    let w = piece_within s r.0 (4096 * count) h.well (omega (arith, c)) piece in
    let high = w.1 in omega (arith, h.end, high, c)

ok_by : (b : Bool) (x y : Result ℕ PoolError × PoolState) → (b ≡ true → IfOk x.0 (λ place. place < 2 ^ 64)) → (b ≡ false → IfOk y.0 (λ place. place < 2 ^ 64)) → IfOk (cond b x y).0 (λ place. place < 2 ^ 64)
ok_by true x y h k = h refl
ok_by false x y h k = k refl

some_pages : (size : ℕ) → leb size 2048 ≡ false → 0 < pages_for size
some_pages size many = let more : 2048 < size = leb-false size 2048 many in omega (arith, more)

pub place_fits : (size : ℕ) (s : PoolState) → PoolFits s → IfOk (allocated size s).0 (λ place. place < 2 ^ 64)
place_fits size s h =
    ok_by (eqb size 0) _ _ (λ e. tt)
    (λ e. ok_by (leb size 2048) _ _ (λ f. block_goes (class_for size) s (block_taken (class_for size) s.blocks s.free_pages) refl (class_for_is size) h)
    (λ f. ok_by (eqb (pages_for size) 0) _ _ (λ g. tt) (λ g. run_goes (pages_for size) s (run_taken (pages_for size) s.free_pages) refl (some_pages size f) h)))

-- AT FIRST

accepted_none : (o : Option LayoutError) → is_accepted o ≡ true → o ≡ None
accepted_none None h = refl
accepted_none (Some e) h = absurd cc

pub first_fits : (n : ℕ) (o : Option Smram) → smram_fits o ≡ true → layout_fits n o ≡ true → PoolFits (fresh (pool_of n o).start (pool_of n o).pages)
first_fits n None fits layout = record { well = fresh_is 0 0; end = omega arith }
first_fits n (Some area) fits layout =
    let front = and_parts (is_between 1 8388608 area.size && nat_le (area.base + area.size) 4294967296 && nat_lt area.tile 9223372036854775808) (nat_lt area.code 9223372036854775808) fits in
    let middle = and_parts (is_between 1 8388608 area.size && nat_le (area.base + area.size) 4294967296) (nat_lt area.tile 9223372036854775808) front.0 in
    let low = and_parts (is_between 1 8388608 area.size) (nat_le (area.base + area.size) 4294967296) middle.0 in
    let top : area.base + area.size ≤ 4294967296 = leb-true (area.base + area.size) 4294967296 low.1 in
    let end = (accepted area n (accepted_none (layout_refusal area n) layout)).end in
    record { well = fresh_is _ _; end = pool_end (areas_end area n) (area.base + area.size) end top }
  where
    pool_end : (end top : ℕ) → end ≤ top → top ≤ 4294967296 → (end + 4095) / 4096 * 4096 + 4096 * (top / 4096 - (end + 4095) / 4096) < 2 ^ 64
    pool_end end top h k = omega (arith, h, k)
