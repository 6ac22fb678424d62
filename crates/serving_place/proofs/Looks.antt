-- What is looked up: the levels left above the stack, whose top is the last of the vector, the walks of a wave, a live registration, an id.
use Rattle.std.proofs.Common.{◌≡◌, ◌≢◌, ◌<◌, ◌-◌, ◌||◌, ℕ, zero, suc, Bool, true, false, cond, List, [], ◌∷◌, Some, length, refl, ap, ◌∙◌, arith}
use Rattle.std.proofs.lemmas.Bool.{ne_eqb}
use Rattle.std.proofs.lemmas.List.{length-reverse, length-map}
use Rattle.std.specs.Prelude.{slice_get, slice_index_or, unwrap_or, is_some, option_map}
use Rattle.std.specs.List.{find, list_any}
use Rattle.cpu_table.specs.declared.waves.Wave.{Wave}
use Rattle.handler_registry.specs.declared.registration.Registration.{Registration}
use Rattle.handler_registry.specs.Registrations.{Registrations, has_serial, is_live, handler_at, IsRising, IsRegistered}
use Rattle.serving_place.specs.declared.progress.Walk.{Walk}
use Rattle.serving_place.specs.Forms.{Program}
use Rattle.serving_place.specs.Beginning.{manage_in, walks_of}
use Rattle.serving_place.specs.Places.{OpenWalk, one_less, levels_left}
use Rattle.serving_place.specs.Progresses.{walks_in}

one_less_is : (n : ℕ) → one_less n ≡ n - 1
one_less_is zero = omega arith
one_less_is (suc n) = omega arith

levels_len : (ws : List OpenWalk) → levels_left ws ≡ 4 - length ws
levels_len [] = refl
levels_len (w ∷ ws) = omega (arith, one_less_is (levels_left ws), levels_len ws)

pub levels_are : (program : Program) (ws : List Walk) → levels_left (walks_in program ws) ≡ 4 - length ws
levels_are program ws = levels_len (walks_in program ws) ∙ ap (λ n. 4 - n) (simp (length-reverse, length-map))

pub walks_at : (waves : List Wave) (w : ℕ) → w ≢ 0 → walks_of waves w ≡ manage_in (slice_get waves (w - 1))
walks_at waves zero h = absurd (h refl)
walks_at waves (suc n) h = let e : suc n - 1 ≡ n = omega arith in rw e refl

pub live_is : (serial : ℕ) (rs : List Registration) → list_any (has_serial serial) rs ≡ is_some (option_map (λ r. r.handler) (find (has_serial serial) rs))
live_is serial [] = refl
live_is serial (r ∷ rs) = at_test (has_serial serial r) (live_is serial rs)
  where
    at_test : (b : Bool) → list_any (has_serial serial) rs ≡ is_some (option_map (λ r. r.handler) (find (has_serial serial) rs))
        → (b || list_any (has_serial serial) rs) ≡ is_some (option_map (λ r. r.handler) (cond b (Some r) (find (has_serial serial) rs)))
    at_test true h = refl
    at_test false h = h

-- a serial number that wasn't given yet is not live
pub live_given : (serial above last : ℕ) (rs : List Registration) → IsRising above last rs → last < serial → list_any (has_serial serial) rs ≡ false
live_given serial above last [] r h = refl
live_given serial above last (x ∷ rs) r h =
    let other : has_serial serial x ≡ false = ne_eqb x.serial serial (omega (arith, r.1, h)) in
    rw other (live_given serial x.serial last rs r.2 h)

pub live_only_given : (serial : ℕ) (g : Registrations) → IsRegistered g → g.last < serial → is_live serial g ≡ false
live_only_given serial g h a = live_given serial 0 g.last g.live h.rising a

-- a live registration's serial number is at least 1
below_all : (above last : ℕ) (rs : List Registration) → IsRising above last rs → list_any (has_serial 0) rs ≡ false
below_all above last [] r = refl
below_all above last (x ∷ rs) r =
    let other : has_serial 0 x ≡ false = ne_eqb x.serial 0 (omega (arith, r.1)) in
    rw other (below_all x.serial last rs r.2)

pub zero_not_live : (serial : ℕ) (g : Registrations) → IsRegistered g → serial ≡ 0 → is_live serial g ≡ false
zero_not_live serial g h e = rw e (below_all 0 g.last g.live h.rising)

pub live_found : (serial : ℕ) (g : Registrations) → is_live serial g ≡ is_some (handler_at serial g)
live_found serial g = live_is serial g.live

pub index_is : (xs : List ℕ) (i : ℕ) → unwrap_or (slice_get xs i) 0 ≡ slice_index_or xs i 0
index_is [] i = refl
index_is (x ∷ xs) zero = refl
index_is (x ∷ xs) (suc i) = index_is xs i
