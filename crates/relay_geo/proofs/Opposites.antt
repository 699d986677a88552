-- Floats that are each other's negative: x - y and y - x, and their halves. Assumes nothing.
use Rattle.laws.proofs.Prelude.{ℕ, zero, suc, ◌+◌, ◌-◌, ◌*◌, ◌/◌, ◌%◌, ◌^◌, compare, ◌≡◌, refl, Bool, true, false, not, Bool·beq, cond, ◌&&◌, ◌||◌, add_comm, zero-mul, mul_comm, arith, ltb-true}
use Rattle.laws.proofs.Prelude.{ltb-false, ℤ, pos, T, ltb, Float, nan, inf, fin, binary32, up, down, unlike, nearest, size, odd, units, round, sum, neg, add, sub, mul, eq, is_nan, of_bits}
use Rattle.relay_math.{specs.F32.{◌⊖◌, ◌⊗◌, 0·5, is_finite}, proofs.{Sums.round_zero, Order.eq_refl_of, Zeros.{IsZero, none, times}}}

-- ---- a product has the same bits either way round

unlike_comm : (s t : Bool) → unlike s t ≡ unlike t s
unlike_comm true true = refl
unlike_comm true false = refl
unlike_comm false true = refl
unlike_comm false false = refl

pub times_comm : (x y : Float) → x ⊗ y ≡ y ⊗ x
unfolding mul
times_comm nan nan = refl
times_comm nan (inf t) = refl
times_comm nan (fin t n d) = refl
times_comm (inf s) nan = refl
times_comm (inf s) (inf t) = rw (unlike_comm s t)
times_comm (inf s) (fin t n d) = rw (unlike_comm s t)
times_comm (fin s m e) nan = refl
times_comm (fin s m e) (inf t) = rw (unlike_comm s t)
times_comm (fin s m e) (fin t n d) = rw (unlike_comm s t, mul_comm (m * up e) (n * up d), mul_comm (down e) (down d))

-- ---- each other's negative, as numbers: two zeros are, whatever their signs

pub data Opposite : Float → Float → Type 0 where
  infinite : (s : Bool) → Opposite (inf s) (inf (not s))
  finite : (s : Bool) (m : ℕ) (e : ℤ) → Opposite (fin s m e) (fin (not s) m e)
  zeros : {x y : Float} → IsZero x → IsZero y → Opposite x y

or_true : (b : Bool) → T (b || true)
or_true true = tt
or_true false = tt

pub equal : {x y : Float} → Opposite x y → T (eq x (neg y))
unfolding eq neg is_nan
equal (infinite true) = tt
equal (infinite false) = tt
equal (finite true m e) = eq_refl_of (fin true m e) tt
equal (finite false m e) = eq_refl_of (fin false m e) tt
equal (zeros (none s e) (none t d)) = rw (zero-mul (up e), zero-mul (up d), zero-mul (down e), zero-mul (down d)) (or_true (Bool·beq s (not t)))

pub rounds : (s : Bool) (a c : ℕ) → Opposite (round binary32 s a c) (round binary32 (not s) a c)
unfolding round units odd
rounds s a c =
    let n = a * 2 ^ 149 in let k = size (n / c) - 24 in let u = c * 2 ^ k in
    let q = nearest (n / u) (compare (n % u * 2) u) in
    go (ltb (q * 2 ^ k) (2 ^ 277)) q k
  where
    go : (b : Bool) (q k : ℕ) → Opposite (cond b (odd 25 s q k 149) (inf s)) (cond b (odd 25 (not s) q k 149) (inf (not s)))
    go true zero k = finite s 0 (pos 0)
    go true (suc q) k = finite s _ _
    go false q k = infinite s

nothing : (a b c : ℕ) → a ≡ 0 → b ≡ 0 → Opposite (round binary32 false a c) (round binary32 false b c)
nothing a b c p q = rw (p, q, round_zero false c) (zeros (none false (pos 0)) (none false (pos 0)))

-- ±a / c ∓ b / c against ±b / c ∓ a / c
apart : (s : Bool) (a b c : ℕ) → Opposite (sum binary32 s a (not s) b c) (sum binary32 s b (not s) a c)
unfolding sum
apart s a b c = at s (ltb a b) (ltb b a) refl refl
  where
    at : (s u v : Bool) → ltb a b ≡ u → ltb b a ≡ v
        → Opposite (cond (Bool·beq s (not s)) (round binary32 s (a + b) c) (cond u (round binary32 (not s) (b - a) c) (round binary32 (s && v) (a - b) c)))
        (cond (Bool·beq s (not s)) (round binary32 s (b + a) c) (cond v (round binary32 (not s) (a - b) c) (round binary32 (s && u) (b - a) c)))
    at s true true p q = absurd (omega (arith, ltb-true a b p, ltb-true b a q))
    at true true false p q = rounds false (b - a) c
    at false true false p q = rounds true (b - a) c
    at true false true p q = rounds true (a - b) c
    at false false true p q = rounds false (a - b) c
    at true false false p q = nothing (a - b) (b - a) c (omega (arith, ltb-false b a q)) (omega (arith, ltb-false a b p))
    at false false false p q = nothing (a - b) (b - a) c (omega (arith, ltb-false b a q)) (omega (arith, ltb-false a b p))

sums : (s t : Bool) (a b c : ℕ) → Opposite (sum binary32 s a (not t) b c) (sum binary32 t b (not s) a c)
unfolding sum
sums true true a b c = apart true a b c
sums false false a b c = apart false a b c
sums true false a b c = rw (add_comm b a) (rounds true (a + b) c)
sums false true a b c = rw (add_comm b a) (rounds false (a + b) c)

pub less : (x y : Float) → T (is_finite x) → T (is_finite y) → Opposite (x ⊖ y) (y ⊖ x)
unfolding sub add neg is_finite
less nan y p q = absurd p
less (inf s) y p q = absurd p
less (fin s m e) nan p q = absurd q
less (fin s m e) (inf t) p q = absurd q
less (fin s m e) (fin t n d) p q = rw (mul_comm (down d) (down e)) (sums s t (m * up e * down d) (n * up d * down e) (down e * down d))

pub halved : {x y : Float} → Opposite x y → Opposite (0·5 ⊗ x) (0·5 ⊗ y)
unfolding mul is_finite of_bits
halved (infinite true) = infinite true
halved (infinite false) = infinite false
halved (finite true m e) = rounds true (1 * (m * up e)) (2 * down e)
halved (finite false m e) = rounds false (1 * (m * up e)) (2 * down e)
halved (zeros p q) = zeros (times 0·5 tt p) (times 0·5 tt q)
