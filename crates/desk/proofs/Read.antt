-- A desk that was written is read again: what the filters make of f32 values are f32 values. Assumes nothing.
use Rattle.laws.proofs.Prelude.{◌≡◌, refl, List, ℕ, ◌+◌, Float, length, take, drop}
use lib.Ieee.{Fits.{cond-fits, neg-fits, add-fits}, Bits.of_bits-fits}
use Rattle.words.{specs.Words.{words_of, AllFit, Holds}, proofs.{WordsBack.{first_back, floats_back, float_fits}, Written.length_bytes_of}}
use Rattle.relay_math.specs.declared.Vec3.{Vec3}
use Rattle.relay_adrc.specs.{declared.filter.CommandFilter.CommandFilter, Filter.{clamp_sym, filter_step, filter_reset}}
use Rattle.image.specs.Fits.{F32}
use Rattle.desk.specs.{declared.filters.Desk.Desk, Filters.{filter_words, desk_bytes, stick_filter_at, desk_at, floats_of_filter, floats_of_desk, desk_of, new_at, desk_set_up, desk_step, desk_centre}}

abbrev pub FitsFilter : CommandFilter → Type 0
FitsFilter f = AllFit (floats_of_filter f)

abbrev pub FitsDesk : Desk → Type 0
FitsDesk d = FitsFilter d.heading × FitsFilter d.turn × FitsFilter d.zoom

ruleset fitting = (cond-fits, neg-fits, add-fits, of_bits-fits)

clamped_fits : (x m : Float) → F32 x → F32 m → F32 (clamp_sym x m)
unfolding clamp_sym
clamped_fits x m f g = search fitting

new_fits : (b : List ℕ) (k : ℕ) → FitsFilter (new_at b k)
unfolding new_at
new_fits b k = search (cond-fits, of_bits-fits, float_fits)

step_fits : (f : CommandFilter) (u dt : Float) → FitsFilter f → FitsFilter (filter_step f u dt).filter
unfolding filter_step
step_fits f u dt h = search (fitting, clamped_fits)

reset_fits : (f : CommandFilter) → FitsFilter f → FitsFilter (filter_reset f)
reset_fits f h = search fitting

filter_fits : (b : List ℕ) (k : ℕ) → FitsFilter (stick_filter_at b k)
unfolding stick_filter_at
filter_fits b k = search float_fits

-- ---- of every desk that is made

pub set_up_fits : (b : List ℕ) → FitsDesk (desk_set_up b)
unfolding desk_set_up
set_up_fits b = (new_fits b _, new_fits b _, new_fits b _)

pub stepped_fits : (b : List ℕ) (sticks : Vec3) (dt : Float) → FitsDesk (desk_step (desk_at b) sticks dt)
unfolding desk_step desk_at
stepped_fits b sticks dt = (step_fits _ _ dt (filter_fits b _), step_fits _ _ dt (filter_fits b _), step_fits _ _ dt (filter_fits b _))

pub centred_fits : (b : List ℕ) → FitsDesk (desk_centre (desk_at b))
unfolding desk_at
centred_fits b = (reset_fits _ (filter_fits b _), reset_fits _ (filter_fits b _), reset_fits _ (filter_fits b _))

-- ---- written and read again

pub desk_length : (d : Desk) → length (desk_of d) ≡ desk_bytes
unfolding desk_of
desk_length d = length_bytes_of (words_of (floats_of_desk d))

desk_is : (d : Desk) → Holds (desk_of d) (words_of (floats_of_desk d))
unfolding desk_of
desk_is d = record { is = refl }

filter_back : {b ws : List ℕ} → Holds b ws → (k : ℕ) (f : CommandFilter) → take filter_words (drop k ws) ≡ words_of (floats_of_filter f) → FitsFilter f → stick_filter_at b k ≡ f
unfolding stick_filter_at
filter_back e k f held h =
    let at = floats_back e k (floats_of_filter f) held h in
    simp (first_back e k (floats_of_filter f) held h tt, at 1 tt, at 2 tt, at 3 tt, at 4 tt)

pub read_again : (d : Desk) → FitsDesk d → desk_at (desk_of d) ≡ d
unfolding desk_at
read_again d h =
    let at = filter_back (desk_is d) in
    simp (at 0 d.heading refl h.0, at filter_words d.turn refl h.1, at (filter_words + filter_words) d.zoom refl h.2)
