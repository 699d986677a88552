-- `guide_whole` builds R and R_d once, and takes the length of g - a once; ADRC's tick is taken in two halves, and follows the command as it was chosen: that
-- is the Rust's own calls, bit for bit. Assumes nothing.
use Rattle.std.specs.Prelude.{Option, Some, None}
use Rattle.laws.proofs.Prelude.{◌≡◌, refl, ◌∙◌, cond, Float}
use Rattle.relay_math.{specs.{F32.{0·0, is_finite, finite_or}, declared.{Vec3.Vec3, BodyRate.BodyRate}}, proofs.FiniteOr.{finite_or_keeps, or_zero_finite}}
use Rattle.relay_geo.specs.declared.{vectors.{Mat3.Mat3, Quat.Quat}, controller.GeoGains.GeoGains}
use Rattle.relay_geo.specs.{declared.set.RecoverableSet.RecoverableSet, Vectors.sanitise3, Attitude.{quat_to_rotmat, thrust_axis_ned, thrust_attitude}, Inner.{thrust_of, attitude_on, feedforward_on}}
use Rattle.relay_geo.{specs.{Controller.{rate_toward, desired_rate}, Set.margin, Shield.step}, proofs.Accepts.{shared_attitude, shared_feedforward}}
use Rattle.relay_geo.proofs.Sanitised.{sanitise3_finite, sanitise3_keeps, sanitised_after}
use Rattle.joint_tick.specs.declared.{profile.Profile.{Profile, TheVariants.{Whole, LostRotor}}, state.{Fixed.Fixed, TickInput.TickInput}, stages.{Reference.Reference, Prepared.Prepared}}
use Rattle.joint_tick.specs.declared.stages.{Guided.Guided, Observed3.Observed3}
use Rattle.joint_tick.specs.Tick.{cleaned, with_feedforward, rate_error, rate_sq, psi_of, margin_of, guide_whole, rate_toward_axis, psi_to_axis, tilt_rate_sq, margin_to_axis, guide_lost_rotor, shielded}
use Rattle.joint_tick.specs.{Tick.{tick_third, follow, pick}, Inner.{observe_third, observe, act_third, follow_on, pick_on}}
use Rattle.relay_adrc.{specs.{declared.{axis.{AdrcAxis.AdrcAxis, Observed.Observed}, rate.AdrcRate.AdrcRate}, Inner.axis_act}, proofs.Ticks.tick_in_halves}

-- `desired_rate` cleans its acceleration, which is clean already: its R_d is the tick's
pub one_attitude : (g : GeoGains) (q : Quat) (a : Vec3) (yaw : Float) → desired_rate g q (sanitise3 a) yaw ≡ rate_toward g (quat_to_rotmat q) (thrust_attitude (sanitise3 a) yaw)
unfolding desired_rate
one_attitude g q a yaw = rw (sanitise3_keeps (sanitise3 a) (sanitise3_finite a))

-- of a psi that is a NaN the margin is minus infinity
pub one_margin : (set : RecoverableSet) (r : Mat3) (rd : Option Mat3) (wSq : Float) → margin set (psi_of r rd) wSq ≡ margin_of set r rd wSq
unfolding margin is_finite
one_margin set r (Some rd) wSq = refl
one_margin set r None wSq = refl

pub guided_once : (gains : GeoGains) (set : RecoverableSet) (w : BodyRate) (wanted : Reference) (i : TickInput)
    → (let t = thrust_of (cleaned wanted).acc in
    let r = quat_to_rotmat i.quat in let rd = attitude_on t i.yaw in
    let ff = feedforward_on t (cleaned wanted).jerk i.yaw_rate rd in
    ◌≡◌ {A = Guided} record {
      fallback = with_feedforward (rate_toward gains r rd) ff;
      psi = psi_of r rd;
      margin = margin set (psi_of r rd) (rate_sq (rate_error w r ff rd));
      planner = record { 0 = sanitise3 i.agile.0 };
    } (guide_whole gains set w wanted i))
unfolding guide_whole
guided_once gains set w wanted i =
    let acc = (cleaned wanted).acc in
    rw (shared_attitude acc i.yaw, shared_feedforward acc (cleaned wanted).jerk i.yaw i.yaw_rate)
    (rw (one_attitude gains i.quat wanted.acc i.yaw, one_margin set (quat_to_rotmat i.quat) (thrust_attitude acc i.yaw)))

-- with a rotor lost: the same of a thrust axis that is refused
pub one_margin_to_axis : (set : RecoverableSet) (r : Mat3) (axis : Option Vec3) (wSq : Float) → margin set (psi_to_axis r axis) wSq ≡ margin_to_axis set r axis wSq
unfolding margin is_finite
one_margin_to_axis set r (Some b3) wSq = refl
one_margin_to_axis set r None wSq = refl

pub guided_lost_once : (gains : GeoGains) (set : RecoverableSet) (w : BodyRate) (wanted : Reference) (i : TickInput)
    → (let axis = thrust_axis_ned (sanitise3 wanted.acc) in
    let r = quat_to_rotmat i.quat in let v = sanitise3 i.agile.0 in
    ◌≡◌ {A = Guided} record {
      fallback = rate_toward_axis gains r axis;
      psi = psi_to_axis r axis;
      margin = margin set (psi_to_axis r axis) (tilt_rate_sq w);
      planner = record { 0 = (v.0, v.1, 0·0) };
    } (guide_lost_rotor gains set w wanted i))
unfolding guide_lost_rotor
guided_lost_once gains set w wanted i = rw (one_margin_to_axis set (quat_to_rotmat i.quat) (thrust_axis_ned (sanitise3 wanted.acc)))

-- ---- ADRC's observers go before the guidance, its control after it

third_in_halves : (p : Profile) (a : AdrcAxis) (m w dt : Float) → act_third p a (observe_third p a m dt) w ≡ tick_third p a m w dt
third_in_halves Whole a m w dt = tick_in_halves a m w dt
third_in_halves LostRotor a m w dt = refl

pub follow_in_halves : (p : Profile) (r : AdrcRate) (m w : BodyRate) (dt : Float) → follow_on p r (observe p r m dt) w ≡ follow p r m w dt
unfolding follow_on observe follow
follow_in_halves p r m w dt = rw (tick_in_halves r.roll m.0.0 w.0.0 dt, tick_in_halves r.pitch m.0.1 w.0.1 dt, third_in_halves p r.yaw m.0.2 w.0.2 dt)

pub pick_in_halves : (f : Fixed) (p : Prepared) (g : Guided) (dt : Float) → pick_on f p (observe f.profile p.moving.rate p.rate dt) g ≡ pick f p g dt
unfolding pick_on pick
pick_in_halves f p g dt = rw (follow_in_halves f.profile p.moving.rate p.rate (shielded f p g).command dt)

-- ---- ADRC makes its wanted rate finite itself, so it may follow the command as it was chosen

act_cleans : (a : AdrcAxis) (o : Observed) (x : Float) → axis_act a o x ≡ axis_act a o (finite_or x 0·0)
unfolding axis_act
act_cleans a o x = rw (finite_or_keeps (finite_or x 0·0) 0·0 (or_zero_finite x))

third_cleans : (p : Profile) (a : AdrcAxis) (o : Observed) (x : Float) → act_third p a o x ≡ act_third p a o (finite_or x 0·0)
third_cleans Whole a o x = act_cleans a o x
third_cleans LostRotor a o x = refl

follow_cleans : (p : Profile) (r : AdrcRate) (o : Observed3) (w : BodyRate) → follow_on p r o w ≡ follow_on p r o record { 0 = sanitise3 w.0 }
unfolding follow_on
follow_cleans p r o w = rw (act_cleans r.roll o.roll w.0.0, act_cleans r.pitch o.pitch w.0.1, third_cleans p r.yaw o.yaw w.0.2)

pub acts_on_the_choice : (f : Fixed) (p : Prepared) (o : Observed3) (g : Guided) → follow_on f.profile p.moving.rate o (cond (shielded f p g).fallback g.fallback g.planner)
    ≡ follow_on f.profile p.moving.rate o (shielded f p g).command
unfolding step
acts_on_the_choice f p o g =
    let engaged = (shielded f p g).fallback in
    follow_cleans f.profile p.moving.rate o (cond engaged g.fallback g.planner) ∙ rw (sanitised_after engaged g.planner g.fallback)
