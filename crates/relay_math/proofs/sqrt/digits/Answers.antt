-- `sqrt::digits`: a subnormal is shifted up to 24 digits, by its count of leading zeros; any other has its fields. Assumes nothing.
use Rattle.laws.proofs.Prelude.{◌≡◌, refl, ℕ, suc, ◌+◌, ◌-◌, ◌*◌, ◌%◌, ◌^◌, ◌<◌, arith, Float, binary32, to_bits}
use lib.Count.{count_leading_zeros}
use Rattle.relay_math.specs.F32.{grains}
use Rattle.relay_math.proofs.Signs.{of_positive}
use Rattle.relay_math.proofs.Grains.{reads}
use Rattle.relay_math.proofs.Root.{Scaled, M, E, joined, zeros, small_is, scaled_small, scaled_normal}
use Rattle.relay_math.proofs.sqrt.digits.Goals as goal
use Rattle.relay_math.proofs.sqrt.digits.Goals.{Then-b-lt-FIRST}

shown : (c : Then-b-lt-FIRST) → (8 < count_leading_zeros 32 c.args.b) × (count_leading_zeros 32 c.args.b < 32)
shown c = zeros c.args.b c.requires.0 c.if-b-lt-FIRST.true

scaled : (c : Then-b-lt-FIRST) → let b = c.args.b in let z = count_leading_zeros 32 b in Scaled b ((b * 2 ^ (z - 8)) % 2 ^ 32) (31 - z)
scaled c =
    let b = c.args.b in
    let w = scaled_small b c.requires.0 c.if-b-lt-FIRST.true in
    let i : (b * 2 ^ (count_leading_zeros 32 b - 8)) % 2 ^ 32 ≡ b * 2 ^ (count_leading_zeros 32 b - 8) = omega (arith, w.high) in
    rw i w

abbrev Kept : ℕ → ℕ → Float → Type 0
Kept b d x = to_bits binary32 x ≡ b → grains x * 2 ^ 23 ≡ M d * 2 ^ E d

kept : {X m e d : ℕ} → Scaled X m e → d ≡ e * 2 ^ 23 + m → X * 2 ^ 23 ≡ M d * 2 ^ E d
kept {d = d} w i = let j = joined {d = d} w i in rw (j.0, j.1) w.is

pub overflow_sub-result-then-b-lt-FIRST : goal.overflow_sub-result-then-b-lt-FIRST
overflow_sub-result-then-b-lt-FIRST c = omega (arith, shown c)

pub overflow_add-result : goal.overflow_add-result
overflow_add-result c = omega (arith, (scaled c).high, shown c)

pub returns-then-b-lt-FIRST : goal.returns-then-b-lt-FIRST
returns-then-b-lt-FIRST c = record { sized = ((joined (scaled c) refl).2, (joined (scaled c) refl).3); is = of_positive (Kept c.args.b _) (λ m i f e. rw (small_is (rw e at (reads (suc m) i f)) c.if-b-lt-FIRST.true) (kept (scaled c) refl)) }

pub returns-else-b-lt-FIRST : goal.returns-else-b-lt-FIRST
returns-else-b-lt-FIRST c = record { sized = (omega arith, omega arith); is = of_positive (Kept c.args.b _) (λ m i f e. kept (scaled_normal (rw e at (reads (suc m) i f)) c.if-b-lt-FIRST.false) (omega arith)) }
