-- A plain word is read as it stands; every other is the NaN's. Assumes nothing.
use Rattle.laws.proofs.Prelude.{◌≡◌, refl, sym, subst, ◌∙◌, Bool, false, not, T, Float, nan, inf, fin, binary32, is_nan, of_bits, div}
use lib.Ieee.Bits.{nan_bits_is}
use Rattle.words.proofs.read.float_of.Goals as goal

is_nan_lem : (x : Float) → not (is_nan x) ≡ false → x ≡ nan
unfolding is_nan
is_nan_lem nan e = refl
is_nan_lem (inf s) e = cc
is_nan_lem (fin s m x) e = cc

pub float_from_bits-result : goal.float_from_bits-result
float_from_bits-result c =
    let p = c.before in let w = p.args.w in
    subst (λ (b : Bool). T (not b)) (sym (nan_bits_is binary32 w)) (subst T (sym (sym p.is_plain.ensures ∙ c.if-is_plain.true)) tt)

pub returns-else-is_plain : goal.returns-else-is_plain
unfolding div of_bits
returns-else-is_plain c =
    let p = c.before in
    sym (is_nan_lem _ (sym p.is_plain.ensures ∙ c.if-is_plain.false))
