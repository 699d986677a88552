-- Tests as facts: a true one, a false one, an order of two numbers. Assumes nothing.
use mathlib.Core.{Path.{◌≡◌, refl, sym, ◌∙◌, subst}, Logic.{◌⊎◌, inl, inr}, Bool.{Bool, true, false, not, ◌&&◌, ◌||◌, true≢false}}
use Prim.Native.Nat.{ℕ, ◌≤◌, ◌<◌}
use native.Mathlib.{Nat.{le_of_eq, eq-or-lt_of_le}, Omega.arith}
use borrow.Author.Tests.{leb-true, leb-false, le-leb, lt-leb, lt-ltb, le-ltb, eq-eqb, ne_eqb}
use lib.Dec.{T, leb, ltb, eqb}

pub held : {b : Bool} → b ≡ true → T b
held e = subst T (sym e) tt

pub no : {X : Type 0} → false ≡ true → X
no e = absurd (true≢false (sym e))

pub both : (a b : Bool) → (a && b) ≡ true → (a ≡ true) × (b ≡ true)
both true b e = (refl, e)
both false b e = no e

pub le_or_lt : (a b : ℕ) → (a ≤ b) ⊎ (b < a)
le_or_lt a b = go (leb a b) refl
  where
    go : (t : Bool) → leb a b ≡ t → (a ≤ b) ⊎ (b < a)
    go true e = inl (leb-true a b e)
    go false e = inr (leb-false a b e)

-- `<` or `==`, as `le` has them, with e that a and b are equal
pub one_sign : (a b : ℕ) (e : Bool) → (a ≡ b → e ≡ true) → ((a ≡ b → ⊥) → e ≡ false) → (ltb a b || (e && true)) ≡ not (ltb b a)
one_sign a b e y n = elim (le_or_lt a b) [
  | inl h ↦ elim (eq-or-lt_of_le h) [ inl p ↦ rw (le-ltb a b (le_of_eq (sym p)), y p, le-ltb b a h) | inr l ↦ rw (lt-ltb a b l, le-ltb b a h) ]
  | inr h ↦ rw (le-ltb a b (omega arith), n (λ p. omega arith), lt-ltb b a h)
]

pub ordered : (a b : ℕ) → (ltb a b || (eqb a b && true)) ≡ leb a b
ordered a b = one_sign a b (eqb a b) (eq-eqb a b) (ne_eqb a b) ∙ elim (le_or_lt a b) [ inl h ↦ rw (le-ltb b a h, le-leb a b h) | inr h ↦ rw (lt-ltb b a h, lt-leb a b h) ]
