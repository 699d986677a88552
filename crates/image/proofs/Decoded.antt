-- The state image holds the state: what is written is read again, and what is read is written again in canonical words. Assumes nothing.
use Rattle.laws.proofs.Prelude.{◌≡◌, refl, sym, ap, ◌∙◌, List, ◌∷◌, ◌++◌, ℕ, ◌+◌, ◌-◌, ◌<◌, add_assoc, eqb, lit<, length, get_or, take, drop, Float}
use Rattle.words.specs.Words.{word, float, vec, floats_of_vec, bits, flag, words_of, bytes_of, Holds, canons}
use Rattle.words.proofs.{WordsBack.{word_back, bits_back, float_back, floats_back, first_back, float_fits, flag_back, flag_lt}, Written.length_bytes_of}
use Rattle.relay_math.specs.declared.Vec3.{Vec3}
use Rattle.relay_geo.specs.declared.{controller.GeoGains.GeoGains, set.RecoverableSet.RecoverableSet}
use Rattle.relay_traj.specs.{declared.{governor.RefGovernor.RefGovernor, quintic.Quintic.Quintic}, Segment.peak_abs_jerk3}
use Rattle.relay_adrc.specs.declared.{axis.AdrcAxis.AdrcAxis, biquad.Biquad.Biquad}
use Rattle.joint_tick.specs.{declared.{profile.Profile.{Profile, TheVariants.{Whole, LostRotor}}, state.State.State}, Profile.{profile_word, profile_of}}
use Rattle.image.specs.Layout.{quintic_words, axis_words, biquad_words, COUNT, GAINS, SET, ENTER, EXIT, ENGAGED, GOVERNOR, SEGMENT, RATE, LPF, PROFILE, PEAKS, image_words, image_bytes}
use Rattle.image.specs.Parts.{gains_at, set_at, governor_at, quintic_at, segment_at, adrc_gains_at, axis_at, rate_at, biquad_at, lpf_at, profile_at, floats_of_gains, floats_of_set, floats_of_governor}
use Rattle.image.specs.{Parts.{floats_of_quintic, floats_of_axis, floats_of_biquad}, Image.{fixed_at, moving_at, state_at, words_of_state, image_of, peaks_of, canonical_image}}
use Rattle.image.specs.Fits.{F32, FitsGains, FitsSet, FitsGovernor, FitsQuintic, FitsSegment, FitsAxis, FitsRate, FitsBiquad, FitsLpf, StateFits}
use Rattle.image.proofs.Fitting.{peaks_fit}

-- ---- each part, at any place: words that hold it are read as it

module _ {b ws : List ℕ} (e : Holds b ws) (k : ℕ) where
  gains_back : (g : GeoGains) → take 9 (drop k ws) ≡ words_of (floats_of_gains g) → FitsGains g → gains_at b k ≡ g
  unfolding gains_at vec
  gains_back g held f =
      let at = floats_back e k (floats_of_gains g) held f in
      simp (add_assoc, first_back e k (floats_of_gains g) held f tt, at 1 tt, at 2 tt, at 3 tt, at 4 tt, at 5 tt, at 6 tt, at 7 tt, at 8 tt)

  set_back : (s : RecoverableSet) → take 3 (drop k ws) ≡ words_of (floats_of_set s) → FitsSet s → set_at b k ≡ s
  unfolding set_at
  set_back s held f =
      let at = floats_back e k (floats_of_set s) held f in
      simp (first_back e k (floats_of_set s) held f tt, at 1 tt, at 2 tt)

  governor_back : (g : RefGovernor) → take 4 (drop k ws) ≡ words_of (floats_of_governor g) → FitsGovernor g → governor_at b k ≡ g
  unfolding governor_at
  governor_back g held f =
      let at = floats_back e k (floats_of_governor g) held f in
      simp (first_back e k (floats_of_governor g) held f tt, at 1 tt, at 2 tt, at 3 tt)

  quintic_back : (q : Quintic) → take 7 (drop k ws) ≡ words_of (floats_of_quintic q) → FitsQuintic q → quintic_at b k ≡ q
  unfolding quintic_at
  quintic_back q held f =
      let at = floats_back e k (floats_of_quintic q) held f in
      simp (first_back e k (floats_of_quintic q) held f tt, at 1 tt, at 2 tt, at 3 tt, at 4 tt, at 5 tt, at 6 tt)

  axis_back : (a : AdrcAxis) → take 9 (drop k ws) ≡ words_of (floats_of_axis a) → FitsAxis a → axis_at b k ≡ a
  unfolding axis_at adrc_gains_at
  axis_back a held f =
      let at = floats_back e k (floats_of_axis a) held f in
      simp (add_assoc, first_back e k (floats_of_axis a) held f tt, at 1 tt, at 2 tt, at 3 tt, at 4 tt, at 5 tt, at 6 tt, at 7 tt, at 8 tt)

  biquad_back : (q : Biquad) → take 9 (drop k ws) ≡ words_of (floats_of_biquad q) → FitsBiquad q → biquad_at b k ≡ q
  unfolding biquad_at
  biquad_back q held f =
      let at = floats_back e k (floats_of_biquad q) held f in
      simp (first_back e k (floats_of_biquad q) held f tt, at 1 tt, at 2 tt, at 3 tt, at 4 tt, at 5 tt, at 6 tt, at 7 tt, at 8 tt)

-- ---- the image of a state, word by word

pub image_is : (s : State) → Holds (image_of s) (words_of_state s)
unfolding image_of
image_is s = record { is = refl }

pub image_length : (s : State) → length (image_of s) ≡ image_bytes
image_length s = ap length (image_is s).is ∙ length_bytes_of (words_of_state s)

pub count_written : (s : State) → word (image_of s) COUNT ≡ image_words
count_written s = word_back (image_is s) COUNT refl (lit< tt)

pub engaged_written : (s : State) → word (image_of s) ENGAGED ≡ flag s.moving.engaged
engaged_written s = word_back (image_is s) ENGAGED refl (flag_lt s.moving.engaged)

-- a profile's word is a word, and is read as that profile
pub profile_lt : (p : Profile) → profile_word p < 4294967296
profile_lt Whole = lit< tt
profile_lt LostRotor = lit< tt

pub profile_back : (p : Profile) → profile_of (profile_word p) ≡ p
profile_back Whole = refl
profile_back LostRotor = refl

pub profile_written : (s : State) → word (image_of s) PROFILE ≡ profile_word s.fixed.profile
profile_written s = word_back (image_is s) PROFILE refl (profile_lt s.fixed.profile)

-- the float at a place of the image is the one that the state's words have there
pub float_written : (s : State) (k : ℕ) (x : Float) → get_or (words_of_state s) k 0 ≡ bits x → F32 x → float (image_of s) k ≡ x
float_written s k x held f = float_back (image_is s) k x held f

pub enter_written : (s : State) → F32 s.fixed.enter → float (image_of s) ENTER ≡ s.fixed.enter
enter_written s f = float_written s ENTER s.fixed.enter refl f

pub exit_written : (s : State) → F32 s.fixed.exit → float (image_of s) EXIT ≡ s.fixed.exit
exit_written s f = float_written s EXIT s.fixed.exit refl f

pub time_written : (s : State) → F32 s.moving.governor.s → float (image_of s) GOVERNOR ≡ s.moving.governor.s
time_written s f = float_written s GOVERNOR s.moving.governor.s refl f

-- ---- read again

pub segment_written : (s : State) → FitsSegment s.fixed.segment → segment_at (image_of s) SEGMENT ≡ s.fixed.segment
unfolding segment_at
segment_written s f =
    let at = quintic_back (image_is s) in let g = s.fixed.segment in
    simp (at SEGMENT g.0 refl f.0, at (SEGMENT + quintic_words) g.1 refl f.1, at (SEGMENT + quintic_words + quintic_words) g.2 refl f.2)

pub rate_written : (s : State) → FitsRate s.moving.rate → rate_at (image_of s) RATE ≡ s.moving.rate
unfolding rate_at
rate_written s f =
    let at = axis_back (image_is s) in
    simp (at RATE s.moving.rate.roll refl f.0, at (RATE + axis_words) s.moving.rate.pitch refl f.1, at (RATE + axis_words + axis_words) s.moving.rate.yaw refl f.2)

pub lpf_written : (s : State) → FitsLpf s.moving.lpf → lpf_at (image_of s) LPF ≡ s.moving.lpf
unfolding lpf_at
lpf_written s f =
    let at = biquad_back (image_is s) in
    simp (at LPF s.moving.lpf.roll refl f.0, at (LPF + biquad_words) s.moving.lpf.pitch refl f.1, at (LPF + biquad_words + biquad_words) s.moving.lpf.yaw refl f.2)

-- the peaks are written as they are worked out from the segment
abbrev peaks : State → Vec3
peaks s = peak_abs_jerk3 s.fixed.segment

pub peaks_written : (s : State) → (word (image_of s) PEAKS ≡ bits (peaks s).0) × (word (image_of s) (PEAKS + 1) ≡ bits (peaks s).1) × (word (image_of s) (PEAKS + 2) ≡ bits (peaks s).2)
peaks_written s =
    let at = bits_back (image_is s) in let f = peaks_fit s.fixed.segment in
    (at PEAKS (peaks s).0 refl f.0, at (PEAKS + 1) (peaks s).1 refl f.1.0, at (PEAKS + 2) (peaks s).2 refl f.1.1.0)

-- what is written is read again
pub decode_encode : (s : State) → StateFits s → state_at (image_of s) ≡ s
unfolding fixed_at moving_at profile_at
decode_encode s f =
    simp (
      gains_back (image_is s) GAINS s.fixed.gains refl f.gains,
      set_back (image_is s) SET s.fixed.set refl f.set,
      enter_written s f.enter,
      exit_written s f.exit,
      segment_written s f.segment,
      profile_written s,
      profile_back s.fixed.profile,
      engaged_written s,
      flag_back s.moving.engaged,
      governor_back (image_is s) GOVERNOR s.moving.governor refl f.governor,
      rate_written s f.rate,
      lpf_written s f.lpf,
    )

-- ---- written again

pub same_words : (b : List ℕ) → words_of_state (state_at b) ≡ image_words ∷ canons b GAINS (ENGAGED - GAINS) ++ flag (eqb (word b ENGAGED) 1) ∷ canons b GOVERNOR
    (PROFILE - GOVERNOR) ++ profile_word (profile_of (word b PROFILE)) ∷ words_of (floats_of_vec (peaks_of b))
unfolding fixed_at moving_at gains_at vec set_at governor_at segment_at quintic_at rate_at axis_at adrc_gains_at lpf_at biquad_at profile_at float
same_words b = refl

-- what is read is written again, but for the count, the flag, the profile, the peaks and the NaNs
pub encode_decode : (b : List ℕ) → image_of (state_at b) ≡ canonical_image b
unfolding canonical_image
encode_decode b = (image_is (state_at b)).is ∙ ap bytes_of (same_words b)

-- ---- what is read fits

pub state_fits : (b : List ℕ) → StateFits (state_at b)
unfolding fixed_at moving_at gains_at vec set_at governor_at segment_at quintic_at rate_at axis_at adrc_gains_at lpf_at biquad_at
state_fits b =
    record {
      gains = search float_fits;
      set = search float_fits;
      enter = search float_fits;
      exit = search float_fits;
      segment = search float_fits;
      governor = search float_fits;
      rate = search float_fits;
      lpf = search float_fits;
    }

-- an image that was read and written is read as the same state
pub read_written : (b : List ℕ) → state_at (canonical_image b) ≡ state_at b
read_written b = ap state_at (sym (encode_decode b)) ∙ decode_encode (state_at b) (state_fits b)
