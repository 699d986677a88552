-- `sqrt::root_bits`: m shifted so that its exponent is even has 47 or 48 digits, and its root 24. Assumes nothing.
use Rattle.laws.proofs.Prelude.{◌≡◌, ℕ, ◌+◌, ◌-◌, ◌*◌, ◌/◌, ◌%◌, ◌^◌, ◌≤◌, arith, rules}
use Rattle.relay_math.proofs.Root.{Scaled, M, E, half, under_size, as_product, closest_read}
use Rattle.relay_math.proofs.sqrt.root_bits.Goals as goal

sized : (d : ℕ) → 2 ^ 23 ≤ d → let n = M d * (d / 2 ^ 23 % 2 * 2 ^ 23 + 2 ^ 23) in (2 ^ 46 ≤ n) × (n ≤ 2 ^ 48 - 2 ^ 24)
sized d l = rw (as_product d l) (under_size (M d) ((E d + 103) % 2) (omega arith) (omega arith) (omega arith))

pub returns : goal.returns
returns c = record { is = λ x h. let s = c.before in let d = s.args.d in let r = c.nearest_root in let w : Scaled x (M d) (E d) = record { is = h; low = omega arith; high = omega arith; under = omega (arith, s.requires) } in let k : (d / 2 + 51 * 2 ^ 23) / 2 ^ 23 ≡ half (E d) = omega (arith, s.requires) in rw k (closest_read x (M d) (E d) w r.result (rw (as_product d s.requires.0) at r.ensures.0, rw (as_product d s.requires.0) at r.ensures.1)); finite = search rules }
