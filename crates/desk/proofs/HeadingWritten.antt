-- What a desk tick writes over the lent input: the values of the first two filters, always finite, and no other word. Assumes nothing.
use Rattle.laws.proofs.Prelude.{◌≡◌, refl, ap, ◌∙◌, ◌⊎◌, inl, inr, ⊎_elim, Bool, true, false, ◌||◌, cond, List, [], ◌∷◌, ℕ, ◌+◌, ◌*◌, ◌%◌, ◌<◌, mod-eq_of_lt, arith, T, lit<, Float, nan, inf, fin, lt}
use Rattle.laws.proofs.Prelude.{neg, is_nan, of_bits, binary32, length, get_or, sets}
use lib.Ieee.Bits.{of_bits-to_bits}
use Rattle.words.{specs.Words.{word, float, vec, float_of, bits, bytes_of, Put}, proofs.{WordsBack.bits_lt, Written.{sets_other, put_word}}}
use Rattle.relay_math.{specs.F32.{0·0, is_finite, finite_or}, proofs.FiniteOr.or_zero_finite}
use Rattle.relay_adrc.specs.{declared.filter.CommandFilter.CommandFilter, Filter.{clamp_sym, filter_step}}
use Rattle.image.specs.{Layout.{YAW, yaw_rate_word, DT, input_bytes}, Fits.F32}
use Rattle.desk.specs.{declared.filters.Desk.Desk, Filters.{desk_at, desk_step}, Entry.{with_heading, moved, flown_input}}
use Rattle.desk.proofs.Read.{FitsDesk, stepped_fits}

-- ---- a filter's value is finite, whatever its limits, its state, the stick and dt are

chosen_finite : (a b c : Bool) (x y z : Float) → T (is_finite x) → T (is_finite y) → T (is_finite z) → T (is_finite (cond a 0·0 (cond b x (cond c y z))))
unfolding is_finite of_bits
chosen_finite true b c x y z f g h = tt
chosen_finite false true c x y z f g h = f
chosen_finite false false true x y z f g h = g
chosen_finite false false false x y z f g h = h

clamped_finite : (x m : Float) → T (is_finite (clamp_sym x m))
unfolding clamp_sym is_finite is_nan lt neg of_bits
clamped_finite x m = go (finite_or x 0·0) m (or_zero_finite x)
  where
    go : (y m : Float) → T (is_finite y) → T (is_finite (cond (is_nan m || lt m 0·0) 0·0 (cond (lt m y) m (cond (lt y (neg m)) (neg m) y))))
    go y nan f = tt
    go y (inf true) f = tt
    go nan (inf false) f = absurd f
    go (inf s) (inf false) f = absurd f
    go (fin s m e) (inf false) f = tt
    go y (fin s m e) f = chosen_finite (lt (fin s m e) 0·0) (lt (fin s m e) y) (lt y (neg (fin s m e))) (fin s m e) (neg (fin s m e)) y tt tt f

pub value_finite : (f : CommandFilter) (u dt : Float) → T (is_finite (filter_step f u dt).filter.y)
unfolding filter_step
value_finite f u dt = clamped_finite _ f.max_mag

-- ---- word by word

module _ (input : List ℕ) (x y : Float) where
  abbrev ws : List ℕ
  ws = bits x ∷ bits y ∷ []

  put : Put input YAW ws (with_heading input x y)
  unfolding with_heading
  put = record { is = refl }

  pub heading_written : length input ≡ input_bytes → F32 x → F32 y → (float (with_heading input x y) YAW ≡ x) × (float (with_heading input x y) yaw_rate_word ≡ y)
  unfolding float
  heading_written p f g =
      let at : (i : ℕ) → i < 2 → word (with_heading input x y) (YAW + i) ≡ get_or ws i 0 % 4294967296 = put_word put (omega arith) in (
        ap float_of (at 0 (lit< tt) ∙ mod-eq_of_lt (bits_lt x f)) ∙ of_bits-to_bits binary32 x f,
        ap float_of (at 1 (lit< tt) ∙ mod-eq_of_lt (bits_lt y g)) ∙ of_bits-to_bits binary32 y g,
      )

  -- "the first two over the yaw and yaw rate words", and nothing else
  pub others_kept : (k : ℕ) → (k < YAW) ⊎ (yaw_rate_word < k) → word (with_heading input x y) k ≡ word input k
  unfolding with_heading word
  others_kept k h =
      let at : (i : ℕ) → (4 * k < i + 1) → (i < 4 * k + 4) → get_or (sets input (4 * YAW) (bytes_of ws)) i 0 ≡ get_or input i 0 =
      λ i l m. sets_other (bytes_of ws) input (4 * YAW) i (⊎_elim (λ a. inl (omega arith)) (λ b. inr (omega arith)) h) in
      rw (at (4 * k) (omega arith) (omega arith), at (4 * k + 1) (omega arith) (omega arith), at (4 * k + 2) (omega arith) (omega arith), at (4 * k + 3) (omega arith) (omega arith))

-- ---- the input that is flown

module _ (desk sticks input : List ℕ) (p : length input ≡ input_bytes) where
  abbrev d : Desk
  d = moved desk sticks input

  fits : FitsDesk d
  unfolding moved
  fits = stepped_fits desk (vec sticks 0) (float input DT)

  pub flown_heading : (float (flown_input desk sticks input) YAW ≡ d.heading.y) × (float (flown_input desk sticks input) yaw_rate_word ≡ d.turn.y)
  unfolding flown_input
  flown_heading = heading_written input d.heading.y d.turn.y p fits.0.1.1.1.0 fits.1.1.1.1.0

  -- "each value stays within its limit" only of limits that are limits; but whatever the limits are, the core never flies by a heading that is no number
  pub flown_finite : T (is_finite (float (flown_input desk sticks input) YAW)) × T (is_finite (float (flown_input desk sticks input) yaw_rate_word))
  unfolding moved desk_step
  flown_finite = rw (flown_heading.0, flown_heading.1) (value_finite (desk_at desk).heading (vec sticks 0).0 (float input DT), value_finite (desk_at desk).turn (vec sticks 0).1 (float input DT))
