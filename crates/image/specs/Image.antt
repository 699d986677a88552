-- The state image: what is read out of it, and what is written. Definitions only.
use Rattle.std.specs.Prelude.{List, [], ◌∷◌, ◌++◌, ℕ, ◌-◌, Bool, eqb, Float}
use Rattle.words.specs.Words.{word, float, floats_of_vec, bits, flag, words_of, bytes_of, canons}
use Rattle.relay_math.specs.declared.Vec3.{Vec3}
use Rattle.relay_geo.specs.declared.set.RecoverableSet.{RecoverableSet}
use Rattle.relay_traj.specs.Segment.{peak_abs_jerk3}
use Rattle.joint_tick.specs.declared.state.Fixed.{Fixed}
use Rattle.joint_tick.specs.declared.state.Moving.{Moving}
use Rattle.joint_tick.specs.declared.state.State.{State}
use Rattle.joint_tick.specs.Profile.{profile_word, profile_of}
use Rattle.image.specs.Layout.{GAINS, SET, ENTER, EXIT, ENGAGED, GOVERNOR, SEGMENT, RATE, LPF, PROFILE, image_words}
use Rattle.image.specs.Parts.{gains_at, set_at, governor_at, segment_at, rate_at, lpf_at, profile_at, floats_of_gains, floats_of_set, floats_of_governor, floats_of_segment, floats_of_rate, floats_of_lpf}

unfoldable pub fixed_at : List ℕ → Fixed
fixed_at b =
    record {
      gains = gains_at b GAINS;
      set = set_at b SET;
      enter = float b ENTER;
      exit = float b EXIT;
      segment = segment_at b SEGMENT;
      profile = profile_at b PROFILE;
    }

-- engaged is a 1 in its word: any other word is not, and a tick refuses one that is neither 0 nor 1
unfoldable pub moving_at : List ℕ → Moving
moving_at b = record { engaged = eqb (word b ENGAGED) 1; governor = governor_at b GOVERNOR; rate = rate_at b RATE; lpf = lpf_at b LPF }

abbrev pub state_at : List ℕ → State
state_at b = record { fixed = fixed_at b; moving = moving_at b }

abbrev pub words_of_shield : RecoverableSet → Float → Float → Bool → List ℕ
words_of_shield set enter exit engaged = words_of (floats_of_set set) ++ bits enter ∷ bits exit ∷ flag engaged ∷ []

abbrev pub words_of_state : State → List ℕ
words_of_state s =
    let f = s.fixed in
    let m = s.moving in
    image_words ∷
    words_of (floats_of_gains f.gains) ++
    words_of_shield f.set f.enter f.exit m.engaged ++
    words_of (floats_of_governor m.governor) ++
    words_of (floats_of_segment f.segment) ++ words_of (floats_of_rate m.rate) ++ words_of (floats_of_lpf m.lpf) ++ profile_word f.profile ∷ words_of (floats_of_vec (peak_abs_jerk3 f.segment))

unfoldable pub image_of : State → List ℕ
image_of s = bytes_of (words_of_state s)

-- the peaks worked out from the segment that an image holds
abbrev pub peaks_of : List ℕ → Vec3
peaks_of b = peak_abs_jerk3 (segment_at b SEGMENT)

-- ---- what the theorems in proofs/ speak of

-- an image read and written again: the count is put in, engaged and the profile become 1 or 0, and every float its canonical word, and the peaks are the segment's
unfoldable pub canonical_image : List ℕ → List ℕ
canonical_image b =
    bytes_of (image_words ∷ canons b GAINS (ENGAGED - GAINS) ++ flag (eqb (word b ENGAGED) 1) ∷ canons b GOVERNOR (PROFILE - GOVERNOR) ++ profile_word
    (profile_of (word b PROFILE)) ∷ words_of (floats_of_vec (peaks_of b)))
