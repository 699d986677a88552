-- `sqrt::sqrtf_near_one`: what `near_one` says of the numbers that the test takes. Assumes nothing.
use Rattle.laws.proofs.Prelude.{le-ltb, ◌≡◌, true, suc, ◌+◌, ◌*◌, ◌/◌, ◌%◌, ◌^◌, ◌<◌, arith, T, Float, binary32, fits, of_bits, to_bits, lt, held}
use lib.Ieee.Bits.{nan_bits_above, to_bits-lt}
use Rattle.relay_math.specs.Steps.{Zero}
use Rattle.relay_math.specs.Sqrt.{sqrtf}
use Rattle.relay_math.proofs.Signs.{of_positive}
use Rattle.relay_math.proofs.Grains.{reads}
use Rattle.relay_math.proofs.Root.{above, near_one}
use Rattle.relay_math.proofs.sqrt.sqrtf_near_one.Goals as goal
use Rattle.relay_math.proofs.sqrt.sqrtf_near_one.Goals.{Start}

fit : (c : Start) → T (fits binary32 c.args.x)
fit c = held c.well_formed.0.1

halfway : (x : Float) → T (fits binary32 x) → lt Zero x ≡ true → (to_bits binary32 x / 2048 + 1) / 2 ≡ 0x3f800 → of_bits binary32 (to_bits binary32 x / 2 + 0x1fc0_0000) ≡ sqrtf x
unfolding sqrtf
halfway x f t h =
    of_positive (λ (y : Float). (to_bits binary32 y / 2048 + 1) / 2 ≡ 0x3f800 → of_bits binary32 (to_bits binary32 y / 2 + 0x1fc0_0000) ≡ sqrtf y)
    (λ m i g. λ k. near_one (reads (suc m) i g) (omega arith)) x f (above x f t (omega arith)).0 h

pub overflow_add-b : goal.overflow_add-b
unfolding of_bits
overflow_add-b c = let b : to_bits binary32 c.args.x < 2 ^ 32 = to_bits-lt binary32 c.args.x (fit c.before) in omega arith

pub float_from_bits-result : goal.float_from_bits-result
unfolding of_bits
float_from_bits-result c = rw (nan_bits_above, le-ltb (255 * 2 ^ 23) ((to_bits binary32 c.args.x / 2 + 0x1fc0_0000) % 2 ^ 31) (omega arith)) tt

pub returns-then-b-eq-UPPER_ONE_BITS : goal.returns-then-b-eq-UPPER_ONE_BITS
unfolding of_bits
returns-then-b-eq-UPPER_ONE_BITS c = halfway c.args.x (fit c.before.before) c.if-x.true c.if-b-eq-UPPER_ONE_BITS.true
