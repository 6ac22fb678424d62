-- What calls make of an object, one after the other.
use Rattle.std.specs.Prelude.{ℕ, ◌≤◌}
use Rattle.std.proofs.Common.{arith}
use Rattle.smm_base.specs.Faults.{Rose}

-- some calls in turn, maybe none, lead from one moment of an object to another
pub data Leads {A : Type 0} (call : A → A → Type 0) : A → A → Type 0 where
  stays : {a : A} → Leads call a a
  goes : {a b c : A} → call a b → Leads call b c → Leads call a c

-- one call
pub one_call : {A : Type 0} (call : A → A → Type 0) (a b : A) → call a b → Leads call a b
one_call call a b is = goes is stays

-- calls, and then further ones
pub leads_on : {A : Type 0} {call : A → A → Type 0} {a b c : A} → Leads call a b → Leads call b c → Leads call a c
leads_on stays further = further
leads_on (goes is rest) further = goes is (leads_on rest further)

-- a count that falls at no call doesn't fall along them
pub never_falls : {A : Type 0} {call : A → A → Type 0} (count : A → ℕ) → ((a b : A) → call a b → count a ≤ count b) → {a b : A} → Leads call a b → count a ≤ count b
never_falls count each stays = omega arith
never_falls count each (goes {a} {b} {c} is rest) = omega (arith, each a b is, never_falls count each rest)

-- a count that rose at last rose from the first on
pub rose_later : {A : Type 0} {call : A → A → Type 0} (count : A → ℕ) → ((a b : A) → call a b → count a ≤ count b) → (a b c : A) → Leads call a b → Rose (count b) (count c) → Rose (count a) (count c)
rose_later count each a b c led rose = omega (arith, never_falls count each led)

-- a count that rose has risen to the last
pub rose_further : {A : Type 0} {call : A → A → Type 0} (count : A → ℕ) → ((a b : A) → call a b → count a ≤ count b) → (a b c : A) → Leads call b c → Rose (count a) (count b) → Rose (count a) (count c)
rose_further count each a b c led rose = omega (arith, never_falls count each led)
