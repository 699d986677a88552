-- What set-up and a tick are given, and what a tick answers. Definitions only.
use Rattle.std.specs.Prelude.{List, [], ◌∷◌, ◌++◌, ℕ, ◌+◌}
use Rattle.words.specs.Words.{float, vec, floats_of_vec, bits, flag, words_of, bytes_of}
use Rattle.joint_tick.specs.declared.state.SetUp.{SetUp}
use Rattle.joint_tick.specs.declared.state.TickInput.{TickInput}
use Rattle.joint_tick.specs.declared.state.Answer.{Answer}
use Rattle.image.specs.Layout.{setup_gains, setup_set, setup_enter, setup_exit, setup_band, setup_leg, setup_adrc, setup_fc, setup_fs, setup_profile, adrc_words}
use Rattle.image.specs.Layout.{GYRO, QUAT, track_err_word, YAW, yaw_rate_word, DT, AGILE, FRACTION}
use Rattle.image.specs.Parts.{gains_at, set_at, leg_at, adrc_gains_at, quat_at, profile_at}

unfoldable pub setup_at : List ℕ → SetUp
setup_at b =
    record {
      gains = gains_at b setup_gains;
      set = set_at b setup_set;
      enter = float b setup_enter;
      exit = float b setup_exit;
      err_lo = float b setup_band;
      err_hi = float b (setup_band + 1);
      g_min = float b (setup_band + 2);
      leg = leg_at b setup_leg;
      roll = adrc_gains_at b setup_adrc;
      pitch = adrc_gains_at b (setup_adrc + adrc_words);
      yaw = adrc_gains_at b (setup_adrc + adrc_words + adrc_words);
      fc = float b setup_fc;
      fs = float b setup_fs;
      profile = profile_at b setup_profile;
    }

unfoldable pub input_at : List ℕ → TickInput
input_at b =
    record {
      gyro = record { 0 = vec b GYRO };
      quat = quat_at b QUAT;
      track_err = float b track_err_word;
      yaw = float b YAW;
      yaw_rate = float b yaw_rate_word;
      dt = float b DT;
      agile = record { 0 = vec b AGILE };
      fraction = vec b FRACTION;
    }

abbrev pub words_of_answer : Answer → List ℕ
words_of_answer a =
    words_of (floats_of_vec a.torque.0) ++
    words_of (floats_of_vec a.command.0) ++
    flag a.fallback ∷ bits a.time ∷ bits a.psi ∷ bits a.margin ∷ []

unfoldable pub answer_of : Answer → List ℕ
answer_of a = bytes_of (words_of_answer a)
