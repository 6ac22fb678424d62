-- A test tells a fact: it is true exactly where the fact holds.
use Rattle.std.proofs.Common.{◌≡◌, ◌↔◌, ◌<◌, ◌⊎◌, ℕ, Bool, true, false, inl, inr, refl, subst}
use Rattle.std.proofs.lemmas.Bool.{eqb-true, eq-eqb, ltb-true, lt-ltb}
use Rattle.std.specs.Prelude.{◌==◌, nat_lt, ◌&&◌, ◌||◌, not}

abbrev pub Tells : Bool → Type 0 → Type 0
Tells b A = (b ≡ true) ↔ A

pub never : {A : Type 0} → (A → ⊥) → Tells false A
never n = (λ e. absurd cc, λ x. absurd (n x))

pub nothing : Tells false ⊥
nothing = (λ e. absurd cc, λ x. absurd x)

pub always : Tells true (Unit {0})
always = (λ e. tt, λ x. refl)

pub both : (a b : Bool) {A B : Type 0} → Tells a A → Tells b B → Tells (a && b) (A × B)
both true b h k = (λ e. (h.0 refl, k.0 e), λ x. k.1 x.1)
both false b h k = (λ e. absurd cc, λ x. let e : false ≡ true = h.1 x.0 in absurd cc)

pub either : (a b : Bool) {A B : Type 0} → Tells a A → Tells b B → Tells (a || b) (A ⊎ B)
either true b h k = (λ e. inl (h.0 refl), λ x. refl)
either false b h k = (
  λ e. inr (k.0 e),
  λ x. elim x [
    | inl u ↦ let e : false ≡ true = h.1 u in absurd cc
    | inr v ↦ k.1 v
  ],
)

pub isnt : (a : Bool) {A : Type 0} → Tells a A → Tells (not a) (A → ⊥)
isnt true h = (λ e. absurd cc, λ n. absurd (n (h.0 refl)))
isnt false h = (λ e x. let f : false ≡ true = h.1 x in absurd cc, λ n. refl)

pub along : {b : Bool} {A B : Type 0} → (A → B) → (B → A) → Tells b A → Tells b B
along f g h = (λ e. f (h.0 e), λ x. h.1 (g x))

pub number_tells : (a b : ℕ) → Tells (a == b) (a ≡ b)
number_tells a b = (λ e. eqb-true a b e, λ e. eq-eqb a b e)

pub below_tells : (a b : ℕ) → Tells (nat_lt a b) (a < b)
below_tells a b = (λ e. ltb-true a b e, λ e. lt-ltb a b e)

pub at_test : {a b : Bool} {A : Type 0} → a ≡ b → Tells a A → Tells b A
at_test {A = A} e h = subst (λ (c : Bool). Tells c A) e h

-- more than two facts in a row
pub three : {b : Bool} {A B C : Type 0} → Tells b (A × (B × C)) → Tells b (A × B × C)
three h = (λ e. let x = h.0 e in (x.0, x.1.0, x.1.1), λ x. h.1 (x.0, (x.1, x.2)))

pub four : {b : Bool} {A B C D : Type 0} → Tells b (A × (B × (C × D))) → Tells b (A × B × C × D)
four h = (λ e. let x = h.0 e in (x.0, x.1.0, x.1.1.0, x.1.1.1), λ x. h.1 (x.0, (x.1, (x.2, x.3))))

pub five : {b : Bool} {A B C D E : Type 0} → Tells b (A × (B × (C × (D × E)))) → Tells b (A × B × C × D × E)
five h = (λ e. let x = h.0 e in (x.0, x.1.0, x.1.1.0, x.1.1.1.0, x.1.1.1.1), λ x. h.1 (x.0, (x.1, (x.2, (x.3, x.4)))))
