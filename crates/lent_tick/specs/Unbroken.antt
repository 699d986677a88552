-- What an unbroken image is: row 4 of document 01's refusals, with what requests Six and Seven add to it. Definitions only.
use Rattle.std.specs.Prelude.{ℕ, ◌+◌, ◌≡◌, Bool, true, ◌&&◌, ◌||◌, List, eqb, Float, length}
use Rattle.std.specs.Float.Ieee.{lt, le}
use Rattle.words.specs.Words.{word, float, bits}
use Rattle.relay_math.specs.F32.{0·0, 1e-3, is_finite, finite_above}
use Rattle.relay_traj.specs.declared.segment.Segment3.{Segment3}
use Rattle.joint_tick.specs.Profile.{is_profile}
use Rattle.image.specs.Layout.{COUNT, ENTER, EXIT, ENGAGED, GOVERNOR, SEGMENT, PROFILE, PEAKS, image_words, image_bytes}
use Rattle.image.specs.Parts.{segment_at}
use Rattle.image.specs.Image.{peaks_of}

-- a t_end that is finite and 1e-3 at least, and so that of each axis
abbrev pub lasts : Float → Bool
lasts t = is_finite t && le 1e-3 t

unfoldable pub all_last : Segment3 → Bool
all_last g = lasts g.0.t_end && lasts g.1.t_end && lasts g.2.t_end

-- the stored peaks have the bits of those worked out from the stored segment; a NaN's are 7fc00000
unfoldable pub peaks_stand : List ℕ → Bool
peaks_stand b =
    let p = peaks_of b in
    eqb (word b PEAKS) (bits p.0) && eqb (word b (PEAKS + 1)) (bits p.1) && eqb (word b (PEAKS + 2)) (bits p.2)

-- The row, clause by clause in its order; the last two are by requests Six and Seven.
unfoldable pub unbroken : List ℕ → Bool
unbroken b =
    eqb (word b COUNT) image_words  -- "word 0 is not 95", 99 since Seven
    && finite_above 0·0 (float b ENTER)  -- "enter non-finite or not above 0"
    && lt (float b ENTER) (float b EXIT)  -- "exit not above enter"
    && (eqb (word b ENGAGED) 0 || eqb (word b ENGAGED) 1)  -- "engaged not 0 or 1"
    && le 0·0 (float b GOVERNOR)  -- "time NaN or below 0"
    && all_last (segment_at b SEGMENT)  -- "or a t_end not finite or below 1e-3"
    && is_profile (word b PROFILE)  -- "a tick finds a bad word 95 under 4"
    && peaks_stand b  -- "4 also covers a stored peak whose bits differ from the worked-out one's"

-- Unbroken bytes of an image's length: what a tick, a route tick and an exchange take.
pub record Unbroken (b : List ℕ) : Type 0 where
  pub whole : length b ≡ image_bytes
  pub row_four_lem : unbroken b ≡ true
