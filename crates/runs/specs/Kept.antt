-- The words of an image that calls keep, by their numbers. Definitions only.
use Rattle.std.specs.Prelude.{◌≡◌, Bool, true, ◌&&◌, ◌||◌, List, [], ◌∷◌, ℕ, ◌+◌, ◌<◌, leb, ltb}
use Rattle.words.specs.Words.{word, canon}
use Rattle.image.specs.Layout.{COUNT, ENGAGED, GOVERNOR, SEGMENT, RATE, LPF, PROFILE, PEAKS, axis_words, biquad_words, adrc_words, image_words}
use Rattle.runs.specs.Runs.{Call, Ticks, Exchanges}

-- k is one of n numbers from `first` on
abbrev pub among : ℕ → ℕ → ℕ → Bool
among first n k = leb first k && ltb k (first + n)

-- Those that no call changes: 0 to 14, the count, the gains, the set, the thresholds; 17 to 19, the governor's band; 46 to 49, 55 to 58, 64 to 67, ADRC's
-- gains; 68 to 72, 77 to 81, 86 to 90, the gyro filters' coefficients; 95, the profile.
abbrev pub lasting : ℕ → Bool
lasting k =
    among COUNT 15 k
    || among (GOVERNOR + 1) 3 k
    || among (RATE + 5) adrc_words k
    || among (RATE + axis_words + 5) adrc_words k
    || among (RATE + axis_words + axis_words + 5) adrc_words k
    || among LPF 5 k
    || among (LPF + biquad_words) 5 k
    || among (LPF + biquad_words + biquad_words) 5 k
    || among PROFILE 1 k

-- Those that no tick changes: 20 to 40 and 96 to 98 too, the segment and its peaks.
abbrev pub kept_by_ticks : ℕ → Bool
kept_by_ticks k = lasting k || among SEGMENT 21 k || among PEAKS 3 k

-- Those that no exchange changes, which are all but the time, the segment and its peaks: 15, the flag, and 41 to 94, ADRC and the filters, too.
abbrev pub kept_by_exchanges : ℕ → Bool
kept_by_exchanges k = lasting k || among ENGAGED 1 k || among RATE 54 k

-- ADRC's third axis, 59 to 67
abbrev pub third_axis : ℕ → Bool
third_axis k = among (RATE + axis_words + axis_words) axis_words k

-- each of these words is the one before, a NaN made 7fc00000
abbrev pub SameWords : (ℕ → Bool) → List ℕ → List ℕ → Type 0
SameWords these before later = (k : ℕ) → k < image_words → these k ≡ true → word later k ≡ canon (word before k)

-- every call of a run keeps word number k
abbrev pub kept_by_call : Call → ℕ → Bool
kept_by_call (Ticks t) k = kept_by_ticks k
kept_by_call (Exchanges segment) k = kept_by_exchanges k

abbrev pub AllKeep : List Call → ℕ → Type 0
AllKeep [] k = Unit
AllKeep (c ∷ calls) k = (kept_by_call c k ≡ true) × AllKeep calls k
