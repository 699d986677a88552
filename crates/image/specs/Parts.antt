-- The parts of the images and inputs, each from word k on, and the floats of each in the order of its words. Definitions only.
use Rattle.std.specs.Prelude.{List, [], ◌∷◌, ◌++◌, ℕ, ◌+◌, Float}
use Rattle.words.specs.Words.{word, float, vec, floats_of_vec}
use Rattle.relay_geo.specs.declared.vectors.Quat.{Quat}
use Rattle.relay_geo.specs.declared.controller.GeoGains.{GeoGains}
use Rattle.relay_geo.specs.declared.set.RecoverableSet.{RecoverableSet}
use Rattle.relay_traj.specs.declared.governor.RefGovernor.{RefGovernor}
use Rattle.relay_traj.specs.declared.quintic.Quintic.{Quintic}
use Rattle.relay_traj.specs.declared.segment.Segment3.{Segment3}
use Rattle.relay_adrc.specs.declared.gains.AdrcGains.{AdrcGains}
use Rattle.relay_adrc.specs.declared.axis.AdrcAxis.{AdrcAxis}
use Rattle.relay_adrc.specs.declared.rate.AdrcRate.{AdrcRate}
use Rattle.relay_adrc.specs.declared.biquad.Biquad.{Biquad}
use Rattle.relay_adrc.specs.declared.biquad.GyroLpf.{GyroLpf}
use Rattle.joint_tick.specs.declared.profile.Profile.{Profile}
use Rattle.joint_tick.specs.declared.state.Leg.{Leg}
use Rattle.joint_tick.specs.Profile.{profile_of}
use Rattle.image.specs.Layout.{vec_words, quintic_words, t_end_word, axis_words, biquad_words}

-- ---- read

unfoldable pub quat_at : List ℕ → ℕ → Quat
quat_at b k = (float b k, float b (k + 1), float b (k + 2), float b (k + 3))

unfoldable pub gains_at : List ℕ → ℕ → GeoGains
gains_at b k = record { k_r = vec b k; k_omega = vec b (k + vec_words); j = vec b (k + vec_words + vec_words) }

unfoldable pub set_at : List ℕ → ℕ → RecoverableSet
set_at b k = record { k_r = float b k; lambda_j = float b (k + 1); psi_max = float b (k + 2) }

unfoldable pub governor_at : List ℕ → ℕ → RefGovernor
governor_at b k = record { s = float b k; err_lo = float b (k + 1); err_hi = float b (k + 2); g_min = float b (k + 3) }

unfoldable pub quintic_at : List ℕ → ℕ → Quintic
quintic_at b k =
    record {
      c5 = float b k;
      c4 = float b (k + 1);
      c3 = float b (k + 2);
      c2 = float b (k + 3);
      c1 = float b (k + 4);
      c0 = float b (k + 5);
      t_end = float b (k + t_end_word);
    }

unfoldable pub segment_at : List ℕ → ℕ → Segment3
segment_at b k = (quintic_at b k, quintic_at b (k + quintic_words), quintic_at b (k + quintic_words + quintic_words))

unfoldable pub adrc_gains_at : List ℕ → ℕ → AdrcGains
adrc_gains_at b k = record { omega_o = float b k; omega_c = float b (k + 1); b0 = float b (k + 2); tau = float b (k + 3) }

unfoldable pub axis_at : List ℕ → ℕ → AdrcAxis
axis_at b k =
    record {
      z1 = float b k;
      z2 = float b (k + 1);
      u_prev = float b (k + 2);
      u_act = float b (k + 3);
      u_delivered_frac = float b (k + 4);
      g = adrc_gains_at b (k + 5);
    }

unfoldable pub rate_at : List ℕ → ℕ → AdrcRate
rate_at b k = record { roll = axis_at b k; pitch = axis_at b (k + axis_words); yaw = axis_at b (k + axis_words + axis_words) }

unfoldable pub biquad_at : List ℕ → ℕ → Biquad
biquad_at b k =
    record {
      b0 = float b k;
      b1 = float b (k + 1);
      b2 = float b (k + 2);
      a1 = float b (k + 3);
      a2 = float b (k + 4);
      x1 = float b (k + 5);
      x2 = float b (k + 6);
      y1 = float b (k + 7);
      y2 = float b (k + 8);
    }

unfoldable pub lpf_at : List ℕ → ℕ → GyroLpf
lpf_at b k = record { roll = biquad_at b k; pitch = biquad_at b (k + biquad_words); yaw = biquad_at b (k + biquad_words + biquad_words) }

-- a leg's 19 words
unfoldable pub leg_at : List ℕ → ℕ → Leg
leg_at b k =
    record {
      p0 = vec b k;
      v0 = vec b (k + 3);
      a0 = vec b (k + 6);
      pf = vec b (k + 9);
      vf = vec b (k + 12);
      af = vec b (k + 15);
      t = float b (k + 18);
    }

unfoldable pub profile_at : List ℕ → ℕ → Profile
profile_at b k = profile_of (word b k)

-- ---- written

abbrev pub floats_of_gains : GeoGains → List Float
floats_of_gains g = floats_of_vec g.k_r ++ floats_of_vec g.k_omega ++ floats_of_vec g.j

abbrev pub floats_of_set : RecoverableSet → List Float
floats_of_set s = s.k_r ∷ s.lambda_j ∷ s.psi_max ∷ []

abbrev pub floats_of_governor : RefGovernor → List Float
floats_of_governor g = g.s ∷ g.err_lo ∷ g.err_hi ∷ g.g_min ∷ []

abbrev pub floats_of_quintic : Quintic → List Float
floats_of_quintic q = q.c5 ∷ q.c4 ∷ q.c3 ∷ q.c2 ∷ q.c1 ∷ q.c0 ∷ q.t_end ∷ []

abbrev pub floats_of_segment : Segment3 → List Float
floats_of_segment s = floats_of_quintic s.0 ++ floats_of_quintic s.1 ++ floats_of_quintic s.2

abbrev pub floats_of_adrc_gains : AdrcGains → List Float
floats_of_adrc_gains g = g.omega_o ∷ g.omega_c ∷ g.b0 ∷ g.tau ∷ []

abbrev pub floats_of_axis : AdrcAxis → List Float
floats_of_axis a = a.z1 ∷ a.z2 ∷ a.u_prev ∷ a.u_act ∷ a.u_delivered_frac ∷ floats_of_adrc_gains a.g

abbrev pub floats_of_rate : AdrcRate → List Float
floats_of_rate r = floats_of_axis r.roll ++ floats_of_axis r.pitch ++ floats_of_axis r.yaw

abbrev pub floats_of_biquad : Biquad → List Float
floats_of_biquad f = f.b0 ∷ f.b1 ∷ f.b2 ∷ f.a1 ∷ f.a2 ∷ f.x1 ∷ f.x2 ∷ f.y1 ∷ f.y2 ∷ []

abbrev pub floats_of_lpf : GyroLpf → List Float
floats_of_lpf l = floats_of_biquad l.roll ++ floats_of_biquad l.pitch ++ floats_of_biquad l.yaw
