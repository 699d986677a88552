-- What proofs name of the toolchain's libraries and of `laws`, passed on under the same names, so that each file brings it in by one line.
-- It declares nothing and renames nothing. Assumes nothing.
pub use mathlib.Core.Path.{◌≡◌, refl, sym, ap, subst, ◌∙◌}
pub use mathlib.Core.Logic.{◌⊎◌, inl, inr, ⊎_elim, ◌↔◌}
pub use mathlib.Core.Bool.{Bool, true, false, not, ◌&&◌, ◌||◌, cond, and-false, beq as Bool·beq}
pub use mathlib.Core.List.{List, [], ◌∷◌, ◌++◌, map, append_assoc, append-nil, map-append}
pub use Prim.Native.Nat.{ℕ, zero, suc, ◌+◌, ◌-◌, ◌*◌, ◌/◌, ◌%◌, ◌^◌, ◌≤◌, ◌<◌, compare, suc-le-suc}
pub use native.Mathlib.Nat.{add-zero, zero-add, add_comm, add_assoc, sub-zero, mul-zero, zero-mul, mul-one, one-mul, mul_comm, mul_assoc, mul_right_comm, add-mul, pow-suc, mul-pos}
pub use native.Mathlib.Nat.{le_trans, le_of_lt, le_of_eq, le_of_suc-le-suc, eq-or-lt_of_le, zero-lt-suc, lt_of_lt_of_le, lt_of_le_of_lt, lt_of_not-le, not-le_of_lt}
pub use native.Mathlib.Nat.{mul-le-mul, mul-le-mul_left, mul-le-mul_right, le_of_mul-le-mul_right, mul-lt-mul_of_pos_right, mod-eq_of_lt, mod-lt, div-mul-le_self}
pub use native.Mathlib.Numerals.{add-one}
pub use native.Mathlib.Omega.{arith}
pub use lib.Dec.{T, eqb, ltb, leb, lit<, lit≤, leb→le}
pub use lib.IntN.{ℤ, pos, negsuc}
pub use lib.ListN.{length, get_or, take, drop, set, replicate, length-append, length-drop, length-map, length-set, get_or-append as List·getD-append, take-append-drop}
pub use lib.Seq.{sets, slice, length-take-le, length-sets, length-slice, get_or-take, get_or-drop, get_or-append-add, sets-eq, drop_at, take_at, take_all, take-take}
pub use lib.Pow.{pow_mono, pow_pos, pow-add, shl_lt}
pub use lib.Ieee.{Float, nan, inf, fin, binary32}
unfoldable pub use lib.Ieee.{fits, of_bits, to_bits, nan_bits, is_nan, lt, le, eq, ne, neg, add, sub, mul, div, round, nearest, odd, up, down, size, sum, units, unlike}
pub use borrow.Author.Rules.{rules}
pub use borrow.Author.Tests.{eq-eqb, ne_eqb, eqb-true, eqb-false, lt-ltb, le-ltb, ltb-true, ltb-false, lt-leb, le-leb, not-true, not-false}
pub use Rattle.laws.proofs.Tests.{no, held, both, le_or_lt}
