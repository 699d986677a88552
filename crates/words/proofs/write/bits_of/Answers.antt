-- `x != x` is true of `nan` alone, whose bits `to_bits` gives as 0x7fc0_0000; elsewhere `to_bits` is defined. Assumes nothing.
use Rattle.laws.proofs.Prelude.{◌≡◌, sym, subst, ◌∙◌, true, false, not, T, Float, binary32, is_nan, to_bits, ne}
use lib.Ieee.Compare.{differs_from_itself}
use Rattle.relay_math.proofs.Order.{differs_as_nan}
use Rattle.words.proofs.write.bits_of.Goals as goal

not_nan : (x : Float) → ne x x ≡ false → T (not (is_nan x))
not_nan x e = rw (sym (differs_as_nan x) ∙ e) tt

nan_bits_lem : (x : Float) → ne x x ≡ true → 0x7fc00000 ≡ to_bits binary32 x
unfolding to_bits
nan_bits_lem x e = rw (differs_from_itself x (subst T (sym e) tt))

pub float_to_bits-result : goal.float_to_bits-result
float_to_bits-result c = not_nan c.args.x c.if-x.false

pub returns-then-x : goal.returns-then-x
returns-then-x c = nan_bits_lem c.args.x c.if-x.true
