-- The fraction of the last torque, and where the segment is sampled. Assumes nothing.
use Rattle.laws.proofs.Prelude.{◌≡◌, refl, true, false, Float, nan, inf, fin, eq, of_bits, no}
use Rattle.relay_math.specs.F32.{◌⊗◌, 0·0, is_finite, finite_or}
use Rattle.relay_adrc.specs.{declared.{gains.AdrcGains.AdrcGains, axis.AdrcAxis.AdrcAxis}, Axis.{mend_dt, lag, delivered_fraction, axis_set_delivered_fraction}}
use Rattle.relay_adrc.proofs.Ticks.{fraction_scales_the_command_before}
use Rattle.relay_traj.specs.{declared.segment.Segment3.Segment3, Segment.duration}
use Rattle.joint_tick.specs.declared.{profile.Profile.TheVariants.Whole, state.{State.State, TickInput.TickInput}, stages.Reference.Reference}
use Rattle.joint_tick.specs.Tick.{prepare, sample_time, follow, pick, guide_pick_follow, ticked, state_after}

-- ---- "The delivered fraction set after one tick is used in the next": a tick's fraction scales the torque that the tick before it answered.

-- after a tick that was told what part of the torque u before it was delivered, the actuator has the lag toward that part
abbrev pub Delivered : AdrcAxis → AdrcAxis → AdrcGains → Float → Float → Float → Type 0
Delivered before after g u fraction dt = after.u_act ≡ finite_or (lag before.u_act (u ⊗ delivered_fraction fraction) g.tau (mend_dt dt)) 0·0

pub record ScalesTheLast (source next : Float → Reference) (s : State) (i k : TickInput) : Type 0 where
  pub roll : Delivered (ticked source s i).rate.roll (ticked next (state_after source s i) k).rate.roll s.moving.rate.roll.g (ticked source s i).answer.torque.0.0 k.fraction.0 k.dt
  pub pitch : Delivered (ticked source s i).rate.pitch (ticked next (state_after source s i) k).rate.pitch s.moving.rate.pitch.g (ticked source s i).answer.torque.0.1
      k.fraction.1 k.dt
  -- with a rotor lost the third axis stands still
  pub yaw : s.fixed.profile ≡ Whole → Delivered (ticked source s i).rate.yaw (ticked next (state_after source s i) k).rate.yaw s.moving.rate.yaw.g
      (ticked source s i).answer.torque.0.2 k.fraction.2 k.dt

pub fraction_scales_the_last_torque : (source next : Float → Reference) (s : State) (i k : TickInput) → ScalesTheLast source next s i k
unfolding ticked prepare guide_pick_follow pick follow
fraction_scales_the_last_torque source next s i k =
    record {
      roll = fraction_scales_the_command_before (axis_set_delivered_fraction s.moving.rate.roll i.fraction.0) _ _ _ _ _ _ _;
      pitch = fraction_scales_the_command_before (axis_set_delivered_fraction s.moving.rate.pitch i.fraction.1) _ _ _ _ _ _ _;
      yaw = λ e. rw e (fraction_scales_the_command_before (axis_set_delivered_fraction s.moving.rate.yaw i.fraction.2) _ _ _ _ _ _ _);
    }

-- ---- "at its duration (the first axis's t_end) if the time is +infinity", else at the time

pub infinite_time_at_the_end : (g : Segment3) → sample_time g (inf false) ≡ duration g
unfolding eq of_bits
infinite_time_at_the_end g = refl

pub finite_time_as_it_is : (g : Segment3) (t : Float) → is_finite t ≡ true → sample_time g t ≡ t
unfolding is_finite eq of_bits
finite_time_as_it_is g nan e = no e
finite_time_as_it_is g (inf s) e = no e
finite_time_as_it_is g (fin s m x) e = refl
