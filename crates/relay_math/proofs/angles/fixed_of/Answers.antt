-- `angles::fixed_of`: the fields of a float of size 2^-12 to 2^13 are in range. Assumes nothing.
use Rattle.laws.proofs.Prelude.{◌+◌, ◌-◌, ◌%◌, ◌/◌, ◌≤◌, lt_of_lt_of_le, arith, shl_lt, pow_mono, binary32, to_bits, held}
use Rattle.std.proofs.Common.{shl_exact}
use Rattle.relay_math.specs.Steps.{fixed}
use Rattle.relay_math.proofs.AngleReduction.{Parts, known}
use Rattle.relay_math.proofs.angles.fixed_of.Goals as goal
use Rattle.relay_math.proofs.angles.fixed_of.Goals.{Start}

parts : (c : Start) → Parts c.args.x
parts c = known c.args.x (held c.well_formed.0.1) c.requires.from_tiny c.requires.to_most

pub float_to_bits-b : goal.float_to_bits-b
float_to_bits-b c = (parts c).number

pub overflow_sub-result : goal.overflow_sub-result
overflow_sub-result c = omega (arith, (parts c).low)

pub overflow_shl-result : goal.overflow_shl-result
overflow_shl-result c = omega (arith, (parts c).high)

pub returns : goal.returns
unfolding fixed
returns c = let b = to_bits binary32 c.args.x in let k = b / 8388608 % 256 - 102 in let h : k ≤ 38 = omega (arith, (parts c).high) in let e = shl_exact {a = b % 8388608 + 8388608} 24 k 64 (omega arith) (omega arith) in record { is = e; small = rw e (lt_of_lt_of_le (shl_lt 24 k (omega arith)) (pow_mono {i = 24 + k} {j = 62} (omega arith))) }
