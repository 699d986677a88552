-- Only inner functions promise or ask these, for speed: whoever reads what is claimed need not read them. Definitions only.
use Rattle.std.specs.Prelude.{◌≡◌, List, [], ◌∷◌, ℕ, Float}
use Rattle.words.specs.Words.{canons}
use Rattle.relay_adrc.specs.declared.axis.AdrcAxis.{AdrcAxis}
use Rattle.relay_adrc.specs.declared.biquad.Biquad.{Biquad}
use Rattle.joint_tick.specs.declared.state.Moving.{Moving}
use Rattle.image.specs.Layout.{image_words}
use Rattle.image.specs.Image.{state_at, words_of_state}

-- ---- an image whose words, each made canonical, are those of its own state

pub record OwnWords (b : List ℕ) : Type 0 where
  pub is : canons b 0 image_words ≡ words_of_state (state_at b)

-- ---- what a tick moves of an axis and of a biquad, as it is written

abbrev pub moved_of_axis : AdrcAxis → List Float
moved_of_axis a = a.z1 ∷ a.z2 ∷ a.u_prev ∷ a.u_act ∷ a.u_delivered_frac ∷ []

abbrev pub moved_of_biquad : Biquad → List Float
moved_of_biquad f = f.x1 ∷ f.x2 ∷ f.y1 ∷ f.y2 ∷ []

-- ---- what a tick moves of m, over what it leaves as it stood of n: the governor's band, ADRC's gains and the filter's coefficients

abbrev pub over_axis : AdrcAxis → AdrcAxis → AdrcAxis
over_axis m n = record { z1 = m.z1; z2 = m.z2; u_prev = m.u_prev; u_act = m.u_act; u_delivered_frac = m.u_delivered_frac; g = n.g }

abbrev pub over_biquad : Biquad → Biquad → Biquad
over_biquad m n = record { b0 = n.b0; b1 = n.b1; b2 = n.b2; a1 = n.a1; a2 = n.a2; x1 = m.x1; x2 = m.x2; y1 = m.y1; y2 = m.y2 }

abbrev pub over_moving : Moving → Moving → Moving
over_moving m n =
    let g = n.governor in
    record {
      engaged = m.engaged;
      governor = record { s = m.governor.s; err_lo = g.err_lo; err_hi = g.err_hi; g_min = g.g_min };
      rate =
          record { roll = over_axis m.rate.roll n.rate.roll; pitch = over_axis m.rate.pitch n.rate.pitch; yaw = over_axis m.rate.yaw n.rate.yaw };
      lpf =
          record { roll = over_biquad m.lpf.roll n.lpf.roll; pitch = over_biquad m.lpf.pitch n.lpf.pitch; yaw = over_biquad m.lpf.yaw n.lpf.yaw };
    }

-- m is that already
pub record Unmoved (m n : Moving) : Type 0 where
  pub is : m ≡ over_moving m n
