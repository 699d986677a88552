-- `sqrt::positive_root`: the digits, and then the root of those. Assumes nothing.
use Rattle.laws.proofs.Prelude.{◌≡◌, false, ℕ, suc, zero-lt-suc, Float, fin, binary32, of_bits, to_bits}
use Rattle.std.proofs.Common.{lt→ltb}
use Rattle.relay_math.specs.F32.{grains}
use Rattle.relay_math.specs.Sqrt.{sqrtf}
use Rattle.relay_math.proofs.Signs.{of_positive}
use Rattle.relay_math.proofs.sqrt.positive_root.Goals as goal

abbrev Rooted : ℕ → ℕ → Float → Type 0
Rooted b r x = to_bits binary32 x ≡ b → of_bits binary32 r ≡ sqrtf x

pub returns : goal.returns
unfolding sqrtf
returns c = record { is = of_positive (Rooted c.args.b c.root_bits.result) (λ m i f e. c.root_bits.ensures.is (grains (fin false (suc m) i)) (c.digits.ensures.is (fin false (suc m) i) f (lt→ltb 0 (suc m) (zero-lt-suc m)) e)); finite = c.root_bits.ensures.finite }
