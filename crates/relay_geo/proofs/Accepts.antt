-- When a direction, an attitude or a feedforward is given, and when it is refused. Assumes nothing.
use Rattle.std.specs.Prelude.{Option, Some, None}
use Rattle.laws.proofs.Prelude.{◌≡◌, refl, sym, ◌∙◌, Bool, true, false, not, ◌&&◌, cond, not-false, Float, nan, inf, fin, lt, is_nan, of_bits, both}
use Rattle.relay_math.{specs.{declared.Vec3.Vec3, F32.{1e-3, is_finite, finite_above}}, proofs.Order.{le_is_not_above, lt_trans}}
use Rattle.relay_geo.specs.{declared.vectors.Mat3.Mat3, Vectors.{1e-9, norm, long, over, normalize, gives_axis}}
use Rattle.relay_geo.specs.{Attitude.{thrust_force, thrust_axis_ned, thrust_attitude, too_weak, rate_from, flatness_omega_ff, gives_matrix, gives_rate}, Inner.{thrust_of, attitude_on, feedforward_on}}

-- "`normalize` refuses unless the norm is finite and above 1e-9."
pub normalize_accepts : (a : Vec3) → gives_axis (normalize a) ≡ finite_above 1e-9 (norm a)
unfolding normalize
normalize_accepts a = go (long (norm a)) refl
  where
    go : (b : Bool) → long (norm a) ≡ b → gives_axis (normalize a) ≡ b
    go true e = rw e
    go false e = rw e

-- ---- "`flatness_omega_ff` refuses unless it is finite and above 1e-3."

strong : (c : Float) → too_weak c ≡ not (finite_above 1e-3 c)
unfolding is_finite is_nan of_bits
strong nan = refl
strong (inf s) = refl
strong (fin s m e) = le_is_not_above 1e-3 (fin s m e) tt tt

-- what is above 1e-3 is above 1e-9
above : (c : Float) → lt 1e-3 c ≡ true → lt 1e-9 c ≡ true
unfolding lt of_bits
above c t = lt_trans 1e-9 1e-3 c refl t

-- of a norm that is finite and above 1e-3 both tests hold
strong_long : (c : Float) → too_weak c ≡ false → long c ≡ true
strong_long c w =
    let s = both (is_finite c) (lt 1e-3 c) (not-false (finite_above 1e-3 c) (sym (strong c) ∙ w)) in
    rw (s.0, above c s.1)

-- The thrust axis is then the very b3 of the feedforward: "the same two steps, the same bits".
pub same_axis : (a : Vec3) → too_weak (norm (thrust_force a)) ≡ false → thrust_axis_ned a ≡ Some (over (thrust_force a) (norm (thrust_force a)))
unfolding thrust_axis_ned normalize
same_axis a w = rw (strong_long (norm (thrust_force a)) w)

-- So the attitude that the feedforward builds is that of the acceleration and the heading, and a caller may build it once.
pub feedforward_shares : (a j : Vec3) (yaw yawRate : Float) → flatness_omega_ff a j yaw yawRate ≡ feedforward_on (thrust_of a) j yawRate (thrust_attitude a yaw)
unfolding flatness_omega_ff feedforward_on thrust_of thrust_attitude
feedforward_shares a j yaw yawRate = go (too_weak (norm (thrust_force a))) refl
  where
    go : (w : Bool) → too_weak (norm (thrust_force a)) ≡ w → flatness_omega_ff a j yaw yawRate ≡ feedforward_on (thrust_of a) j yawRate (thrust_attitude a yaw)
    go true w = rw w
    go false w = rw (w, same_axis a w)

-- Both from one force and one norm.
pub shared_attitude : (a : Vec3) (yaw : Float) → attitude_on (thrust_of a) yaw ≡ thrust_attitude a yaw
unfolding thrust_of attitude_on thrust_attitude thrust_axis_ned normalize
shared_attitude a yaw = refl

pub shared_feedforward : (a j : Vec3) (yaw yawRate : Float) → feedforward_on (thrust_of a) j yawRate (thrust_attitude a yaw) ≡ flatness_omega_ff a j yaw yawRate
shared_feedforward a j yaw yawRate = sym (feedforward_shares a j yaw yawRate)

given : (s : Bool) (c : Float) (b3 j : Vec3) (yawRate : Float) (r : Option Mat3) → gives_rate (cond (not s) None (rate_from c b3 j yawRate r)) ≡ (s && gives_matrix r)
given true c b3 j yawRate (Some r) = refl
given true c b3 j yawRate None = refl
given false c b3 j yawRate r = refl

-- Numbers exactly if the norm is finite and above 1e-3, and the attitude exists.
pub feedforward_accepts : (a j : Vec3) (yaw yawRate : Float)
    → let c = norm (thrust_force a) in gives_rate (flatness_omega_ff a j yaw yawRate) ≡ (finite_above 1e-3 c && gives_matrix (thrust_attitude a yaw))
unfolding feedforward_on thrust_of
feedforward_accepts a j yaw yawRate =
    let c = norm (thrust_force a) in
    rw (feedforward_shares a j yaw yawRate, strong c) (given (finite_above 1e-3 c) c (over (thrust_force a) c) j yawRate (thrust_attitude a yaw))
