-- What an operation's label changes: a refusal of the pool puts nothing, and a number that isn't live takes nothing out.
use Rattle.std.proofs.Common.{◌≡◌, ◌<◌, ◌≤◌, ◌||◌, ℕ, zero, suc, Bool, true, false, cond, not, List, [], ◌∷◌, length, refl, ap, ◌∙◌, arith}
use Rattle.std.specs.Prelude.{slice_set}
use Rattle.std.specs.List.{filter, list_any}
use Rattle.smm_base.specs.declared.registers.Register.{Register}
use Rattle.smm_base.specs.declared.status.Status.{Status}
use Rattle.cpu_table.specs.declared.handlers.OpDef.{OpDef}
use Rattle.cpu_table.specs.declared.handlers.OpDef.TheVariants as op
use Rattle.cpu_table.specs.declared.handlers.Operand.{Operand}
use Rattle.sync_words.specs.declared.label.Label.{Label}
use Rattle.sync_words.specs.declared.label.Label.TheVariants as say
use Rattle.handler_registry.specs.declared.registration.Registration.{Registration}
use Rattle.handler_registry.specs.Registrations.{Registrations, has_serial, is_live, unregistered, IsRegistered}
use Rattle.smram_pool.specs.declared.error.PoolError.{PoolError}
use Rattle.smram_pool.specs.declared.error.PoolError.TheVariants as pool
use Rattle.serving_place.specs.Serving.{Serving, put_on}
use Rattle.serving_place.specs.Operations.{after, pool_status}
use Rattle.serving_place.proofs.Looks.{live_only_given, zero_not_live}

pub refused_put : (e : PoolError) (into x : ℕ) (s : Serving) → put_on (pool_status e) into x s ≡ s
refused_put pool.Zero into x s = refl
refused_put pool.OutOfResources into x s = refl
refused_put (pool.NotABlock place) into x s = refl

others_stay : (n : ℕ) (rs : List Registration) → list_any (has_serial n) rs ≡ false → filter (λ r. not (has_serial n r)) rs ≡ rs
others_stay n [] e = refl
others_stay n (r ∷ rs) e = at_test (has_serial n r) e (others_stay n rs)
  where
    at_test : (b : Bool) → (b || list_any (has_serial n) rs) ≡ false → (list_any (has_serial n) rs ≡ false → filter (λ r. not (has_serial n r)) rs ≡ rs)
        → cond (not b) (r ∷ filter (λ r. not (has_serial n r)) rs) (filter (λ r. not (has_serial n r)) rs) ≡ r ∷ rs
    at_test true e rec = absurd cc
    at_test false e rec = ap (λ (xs : List Registration). r ∷ xs) (rec e)

pub not_live_stays : (n : ℕ) (g : Registrations) → is_live n g ≡ false → unregistered n g ≡ g
not_live_stays n g e = ap (λ (rs : List Registration). record g { live = rs }) (others_stay n g.live e)

pub not_given_stays : (n : ℕ) (g : Registrations) → IsRegistered g → g.last < n → unregistered n g ≡ g
not_given_stays n g h a = not_live_stays n g (live_only_given n g h a)

pub zero_stays : (n : ℕ) (g : Registrations) → IsRegistered g → n ≡ 0 → unregistered n g ≡ g
zero_stays n g h e = not_live_stays n g (zero_not_live n g h e)

-- a write leaves all that serving knows as it was, and no other operation goes by its label
pub after_write : (cpu reg width : ℕ) (v : Operand) (s : Serving) (l : Label) → after (op.Write cpu reg width v) s l ≡ s
after_write cpu reg width v s l = refl

pub after_said_write : (o : OpDef) (s : Serving) (c : ℕ) (r : Register) (w x : ℕ) (S : Status) → after o s (say.Write c r w x S) ≡ s
after_said_write (op.Set into v) s c r w x S = refl
after_said_write _ s c r w x S = refl

pub set_past : (xs : List ℕ) (i x : ℕ) → length xs ≤ i → slice_set xs i x ≡ xs
set_past [] i x h = refl
set_past (y ∷ xs) zero x h = absurd (omega (arith, h))
set_past (y ∷ xs) (suc i) x h = ap (λ (ys : List ℕ). y ∷ ys) (set_past xs i x (omega (arith, h)))
