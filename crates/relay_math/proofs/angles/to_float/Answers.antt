-- `angles::to_float`: both halves are floats exactly, and so are the scales. Assumes nothing.
use Rattle.laws.proofs.Prelude.{◌≡◌, refl, Bool, true, false, not, ◌+◌, ◌*◌, ◌<◌, T, lit<, negsuc, fin, binary32, nan_bits, of_bits}
use lib.Ieee.{in_float}
use mir.Val.{bool_byte}
use Rattle.relay_math.proofs.Round.{to_float_lem}
use Rattle.relay_math.proofs.angles.to_float.Goals as goal

scales : (s : Bool) → let high = bool_byte s * 2147483648 + 864026624 in let low = bool_byte s * 2147483648 + 662700032 in
    (high < 4294967296) × T (not (nan_bits binary32 high)) × T (not (nan_bits binary32 low)) × (of_bits binary32 high ≡ fin s 1 (negsuc 23)) × (of_bits binary32 low ≡ fin s 1 (negsuc 47))
unfolding nan_bits of_bits
scales true = (lit< tt, tt, tt, refl, refl)
scales false = (lit< tt, tt, tt, refl, refl)

pub float_from_bits-result : goal.float_from_bits-result
unfolding in_float
float_from_bits-result c = (scales c.args.s).1

pub float_from_bits-result-2 : goal.float_from_bits-result-2
unfolding in_float
float_from_bits-result-2 c = (scales c.args.s).2

pub returns : goal.returns
unfolding in_float
returns c = let b = c.before.before in let k = scales b.args.s in rw (k.3, k.4) (to_float_lem b.args.s b.args.v b.requires)
