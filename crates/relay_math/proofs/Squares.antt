-- Whole numbers about a root: r * r < n + r and n ≤ r * r + r say that r is the whole number nearest to the root of n. Assumes nothing.
use Rattle.laws.proofs.Prelude.{◌≡◌, ℕ, zero, suc, ◌+◌, ◌*◌, ◌^◌, ◌≤◌, ◌<◌, zero-lt-suc, mul-le-mul, mul-le-mul_right, le_of_suc-le-suc, lt_of_not-le, arith}

pub square_le : (r : ℕ) → r ≤ 2 ^ 26 → r * r ≤ 2 ^ 52
square_le r h = mul-le-mul h h

pub own_square : (r : ℕ) → r ≤ r * r
own_square zero = omega arith
own_square (suc r) = let q : 1 * suc r ≤ suc r * suc r = mul-le-mul_right (suc r) (zero-lt-suc r) in omega arith

-- a root that is too large is not zero
pub some : (n r : ℕ) → 0 < n → n + r ≤ r * r → 0 < r
some n r p t = lt_of_not-le (λ (g : r ≤ 0). let q : r * r ≤ 0 * r = mul-le-mul_right r g in omega arith)

pub capped : (n r : ℕ) → n < 2 ^ 48 → r * r < n + r → r ≤ 2 ^ 24
capped n r h t = le_of_suc-le-suc (lt_of_not-le (λ (g : suc (2 ^ 24) ≤ r). let q : suc (2 ^ 24) * r ≤ r * r = mul-le-mul_right r g in omega arith))

pub next : (r : ℕ) → (r + 1) * (r + 1) ≡ r * r + r + r + 1
next r = omega arith
