-- Sine and cosine under two limits: why request Five moved no bit of an angle that was served before it. Assumes nothing.
use Rattle.laws.proofs.Prelude.{◌≡◌, T, Float, le, fin, pos, false}
use lib.Ieee.Bits.{is_true}
use Rattle.relay_math.specs.{F32.fabsf, Exact.{Limit, up_to}, Steps.{sincos_to, sincos}}
use Rattle.relay_math.proofs.Order.{le_trans}

-- an angle within two limits is served alike under both
pub within_both_limits : (limit other x : Float) → T (up_to limit x) → T (up_to other x) → sincos_to limit x ≡ sincos_to other x
unfolding sincos_to
within_both_limits limit other x p q = rw (is_true (up_to limit x) p, is_true (up_to other x) q)

-- so up to 128, the limit before request Five, sine and cosine are what they were, bit for bit
pub as_before_to_128 : (x : Float) → T (up_to (fin false 1 (pos 7)) x) → sincos x ≡ sincos_to (fin false 1 (pos 7)) x
unfolding sincos le
as_before_to_128 x p = within_both_limits Limit (fin false 1 (pos 7)) x (le_trans (fabsf x) (fin false 1 (pos 7)) Limit p tt) p
