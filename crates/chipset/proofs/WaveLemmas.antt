-- Each wave has a status for each processor.
use Rattle.std.proofs.Common.{◌≡◌, ◌≤◌, ℕ, zero, suc, true, List, [], ◌∷◌, length, arith}
use Rattle.std.proofs.lemmas.Bool.{and_parts, eqb-true}
use Rattle.std.proofs.lemmas.List.Sums.{count_by-le-length}
use Rattle.std.specs.Prelude.{slice_get, ◌==◌, nat_le}
use Rattle.std.specs.List.{list_all}
use Rattle.cpu_table.specs.Data.{SetupData}
use Rattle.cpu_table.specs.Ranges.{wave_fits, is_between}
use Rattle.cpu_table.specs.declared.waves.Wave.{Wave}
use Rattle.cpu_table.specs.Waves.{arrivals_in, arrivals_of, blocked_in, is_blocked}
use Rattle.chipset.specs.Bounds.{IsPlatform}

wave_few : (n : ℕ) (waves : List Wave) (i : ℕ) → list_all (wave_fits n) waves ≡ true → length (arrivals_in (slice_get waves i)) ≤ n
wave_few n [] i h = omega arith
wave_few n (wave ∷ waves) zero h =
    let a = and_parts (wave_fits n wave) (list_all (wave_fits n) waves) h in
    let b = and_parts (length wave.status == n) (nat_le (length wave.manage) 16) a.0 in
    let e = eqb-true (length wave.status) n b.0 in
    omega (arith, e)
wave_few n (wave ∷ waves) (suc i) h = wave_few n waves i (and_parts (wave_fits n wave) (list_all (wave_fits n) waves) h).1

few_by : (n : ℕ) (waves : List Wave) (w : ℕ) → list_all (wave_fits n) waves ≡ true → length (arrivals_of waves w) ≤ n
few_by n waves zero h = omega arith
few_by n waves (suc i) h = wave_few n waves i h

pub arrivals_few : (d : SetupData) (w : ℕ) → IsPlatform d → length (arrivals_of d.waves w) ≤ 64
arrivals_few d w h =
    let fits = and_parts (is_between 1 d.visits (length d.waves)) (list_all (wave_fits d.processors) d.waves) h.waves in
    let few = h.few.1 in
    omega (arith, few_by d.processors d.waves w fits.1)

le_of : (a b : ℕ) → nat_le a b ≡ true → a ≤ b
le_of a b h = grind arith

waves_between : (d : SetupData) → IsPlatform d → (1 ≤ length d.waves) × (length d.waves ≤ d.visits)
waves_between d h =
    let fits = and_parts (is_between 1 d.visits (length d.waves)) (list_all (wave_fits d.processors) d.waves) h.waves in
    let ends = and_parts (nat_le 1 (length d.waves)) (nat_le (length d.waves) d.visits) fits.0 in
    (le_of 1 (length d.waves) ends.0, le_of (length d.waves) d.visits ends.1)

pub waves_some : (d : SetupData) → IsPlatform d → 1 ≤ length d.waves
waves_some d h = (waves_between d h).0

pub waves_few : (d : SetupData) → IsPlatform d → length d.waves ≤ 256
waves_few d h = let few = h.visits.1 in let between = (waves_between d h).1 in omega (arith, few, between)

pub blocked_few : (d : SetupData) (w : ℕ) → IsPlatform d → blocked_in d.waves w ≤ 64
blocked_few d w h = omega (arith, count_by-le-length is_blocked (arrivals_of d.waves w), arrivals_few d w h)
