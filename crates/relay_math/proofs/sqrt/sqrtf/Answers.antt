-- `sqrt::sqrtf`: the tests part the cases of the definition, and `positive_root` has the pattern of the root. Assumes nothing.
use Rattle.laws.proofs.Prelude.{◌≡◌, refl, ◌*◌, ◌%◌, ◌^◌, arith, le-ltb, T, Float, binary32, fits, of_bits, div, held}
use lib.Ieee.Bits.{nan_bits_above}
use Rattle.relay_math.specs.Sqrt.{IsRoot, sqrtf}
use Rattle.relay_math.proofs.Root.{is_root, by_tests_lem, above}
use Rattle.relay_math.proofs.sqrt.sqrtf.Goals as goal
use Rattle.relay_math.proofs.sqrt.sqrtf.Goals.{Start}

fit : (c : Start) → T (fits binary32 c.args.x)
fit c = held c.well_formed.0.1

answer : (c : Start) {r : Float} → r ≡ sqrtf c.args.x → IsRoot c.args.x r × (r ≡ sqrtf c.args.x)
answer c {r} e = (rw e (is_root c.args.x (fit c)), e)

pub positive_root-requires : goal.positive_root-requires
unfolding of_bits div
positive_root-requires c = ((above c.args.x (fit c.before.before) c.if-x.true c.if-b-lt-INFINITY_BITS.true).1, c.if-b-lt-INFINITY_BITS.true)

pub float_from_bits-result : goal.float_from_bits-result
unfolding of_bits div
float_from_bits-result c = rw (nan_bits_above, le-ltb (255 * 2 ^ 23) (c.positive_root.result % 2 ^ 31) (omega (arith, c.positive_root.ensures.finite))) tt

pub returns-then-b-lt-INFINITY_BITS : goal.returns-then-b-lt-INFINITY_BITS
unfolding of_bits div
returns-then-b-lt-INFINITY_BITS c = let s = c.before.before.before in let p = answer s (c.positive_root.ensures.is s.args.x (fit s) (above s.args.x (fit s) c.if-x.true c.if-b-lt-INFINITY_BITS.true).0 refl) in record { nearest = p.0; is = p.1 }

pub returns-else-b-lt-INFINITY_BITS : goal.returns-else-b-lt-INFINITY_BITS
unfolding of_bits div
returns-else-b-lt-INFINITY_BITS c = let p = answer c.before.before (simp (c.if-x.true, le-ltb _ _ c.if-b-lt-INFINITY_BITS.false) at (by_tests_lem c.args.x (fit c.before.before))) in record { nearest = p.0; is = p.1 }

pub returns-then-x-2 : goal.returns-then-x-2
unfolding of_bits div
returns-then-x-2 c = let p = answer c.before.before (simp (c.if-x.false, c.if-x-2.true) at (by_tests_lem c.args.x (fit c.before.before))) in record { nearest = p.0; is = p.1 }

pub returns-else-x-2 : goal.returns-else-x-2
unfolding of_bits div
returns-else-x-2 c = let p = answer c.before.before (simp (c.if-x.false, c.if-x-2.false) at (by_tests_lem c.args.x (fit c.before.before))) in record { nearest = p.0; is = p.1 }
