-- Set-up, as document 01 has it: each part by its constructor. And the exchange of the segment (request Seven). Definitions only.
use Rattle.relay_adrc.specs.Rate.{rate_new}
use Rattle.relay_adrc.specs.Biquad.{gyro_new}
use Rattle.relay_geo.specs.Shield.{new_shield}
use Rattle.relay_traj.specs.declared.segment.Segment3.{Segment3}
use Rattle.relay_traj.specs.Governor.{governor, reset}
use Rattle.relay_traj.specs.Segment.{segment}
use Rattle.joint_tick.specs.declared.state.Leg.{Leg}
use Rattle.joint_tick.specs.declared.state.SetUp.{SetUp}
use Rattle.joint_tick.specs.declared.state.State.{State}

unfoldable pub segment_of : Leg → Segment3
segment_of leg = segment leg.p0 leg.v0 leg.a0 leg.pf leg.vf leg.af leg.t

unfoldable pub set_up : SetUp → State
set_up i =
    let shield = new_shield i.set i.enter i.exit in
    record {
      fixed = record { gains = i.gains; set = shield.set; enter = shield.enter; exit = shield.exit; segment = segment_of i.leg; profile = i.profile };
      moving =
          record {
            engaged = shield.engaged;
            governor = governor i.err_lo i.err_hi i.g_min;
            rate = rate_new i.roll i.pitch i.yaw;
            lpf = gyro_new i.fc i.fs;
          };
    }

-- "exchanges the segment in flight .. and sets governor time to 0"; it "leaves shield, ADRC and filters as they were"
unfoldable pub exchange : State → Leg → State
exchange s leg =
    let f = s.fixed in
    let m = s.moving in
    record {
      fixed = record { gains = f.gains; set = f.set; enter = f.enter; exit = f.exit; segment = segment_of leg; profile = f.profile };
      moving = record { engaged = m.engaged; governor = reset m.governor; rate = m.rate; lpf = m.lpf };
    }
