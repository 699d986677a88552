-- What an unbroken image has, and which states are written as one. Assumes nothing.
use Rattle.laws.proofs.Prelude.{◌≡◌, refl, sym, ap, ◌∙◌, Bool, true, false, not, ◌||◌, ◌&&◌, cond, List, ℕ, ◌+◌, eqb, eq-eqb, eqb-true, Float, nan, inf, fin, binary32, lt, le, is_nan, of_bits, to_bits}
use Rattle.laws.proofs.Prelude.{no, held, both}
use lib.Ieee.Bits.{is_true, of_bits-to_bits}
use Rattle.words.specs.Words.{word, bits, canon, flag}
use Rattle.relay_math.{specs.F32.{0·0, 1e-3, is_finite, finite_above}, proofs.Order.le_is_not_above}
use Rattle.relay_traj.specs.Governor.{Running}
use Rattle.joint_tick.specs.{declared.{profile.Profile.{Profile, TheVariants.{Whole, LostRotor}}, state.State.State}, Profile.{profile_word, is_profile, profile_of}}
use Rattle.image.specs.{Layout.{COUNT, ENGAGED, SEGMENT, PROFILE, PEAKS, image_words}, Parts.{governor_at, segment_at, profile_at}, Image.{fixed_at, moving_at, state_at, image_of, peaks_of}}
use Rattle.image.specs.{Fits.{FitsSegment, StateFits}, Inner.OwnWords}
use Rattle.image.proofs.Decoded.{image_length, count_written, engaged_written, profile_written, enter_written, exit_written, time_written, segment_written, peaks_written, same_words, state_fits}
use Rattle.image.proofs.Fitting.{peaks_fit}
use Rattle.lent_tick.specs.Unbroken.{lasts, all_last, peaks_stand, unbroken, Unbroken}

-- ---- two clauses in the row's words

-- "time NaN or below 0"
pub time_says : (t : Float) → le 0·0 t ≡ not (is_nan t) && not (lt t 0·0)
unfolding is_nan lt le of_bits
time_says nan = refl
time_says (inf true) = refl
time_says (inf false) = refl
time_says (fin s m e) = le_is_not_above (fin s m e) 0·0 tt tt

-- "a t_end not finite or below 1e-3"
pub lasts_says : (t : Float) → lasts t ≡ is_finite t && not (lt t 1e-3)
unfolding is_finite is_nan of_bits
lasts_says nan = refl
lasts_says (inf s) = refl
lasts_says (fin s m e) = le_is_not_above (fin s m e) 1e-3 tt tt

-- ---- what it has

-- Its state's numbers. That the time is an f32 is no clause: every time that a program holds is one.
pub record UnbrokenState (s : State) : Type 0 where
  pub enter : finite_above 0·0 s.fixed.enter ≡ true
  pub exit : lt s.fixed.enter s.fixed.exit ≡ true
  pub time : Running s.moving.governor.s
  pub lasts : all_last s.fixed.segment ≡ true

-- and its other words: its count is its own, its flag and its profile are in their words, and its peaks are its segment's
pub record Has (b : List ℕ) : Type 0 where
  pub count : word b COUNT ≡ image_words
  pub engaged : word b ENGAGED ≡ flag (moving_at b).engaged
  pub profile : word b PROFILE ≡ profile_word (fixed_at b).profile
  pub peaks : let p = peaks_of b in (word b PEAKS ≡ bits p.0) × (word b (PEAKS + 1) ≡ bits p.1) × (word b (PEAKS + 2) ≡ bits p.2)
  pub state : UnbrokenState (state_at b)

-- a word that is 0 or 1
bit : (w : ℕ) → (eqb w 0 || eqb w 1) ≡ true → w ≡ flag (eqb w 1)
bit w e = go (eqb w 0) (eqb w 1) e refl refl
  where
    go : (a b : Bool) → (a || b) ≡ true → eqb w 0 ≡ a → eqb w 1 ≡ b → w ≡ flag b
    go a true e p q = eqb-true w 1 q
    go true false e p q = eqb-true w 0 p
    go false false e p q = no e

pub profile_of_word : (w : ℕ) → is_profile w ≡ true → w ≡ profile_word (profile_of w)
unfolding is_profile
profile_of_word w e = bit w e ∙ by (eqb w 1)
  where
    by : (b : Bool) → flag b ≡ profile_word (cond b LostRotor Whole)
    by true = refl
    by false = refl

-- each clause, from the last to the first
pub unbroken_has : (b : List ℕ) → Unbroken b → Has b
unfolding unbroken peaks_stand fixed_at moving_at governor_at profile_at
unbroken_has b u =
    let peaks = both _ _ u.row_four_lem in let profile = both _ _ peaks.0 in let last = both _ _ profile.0 in
    let time = both _ _ last.0 in let engaged = both _ _ time.0 in let exit = both _ _ engaged.0 in
    let enter = both _ _ exit.0 in let z = both _ _ peaks.1 in let y = both _ _ z.0 in
    record {
      count = eqb-true _ _ enter.0;
      engaged = bit _ engaged.1;
      profile = profile_of_word _ profile.1;
      peaks = (eqb-true _ _ y.0, eqb-true _ _ y.1, eqb-true _ _ z.1);
      state = record { enter = enter.1; exit = exit.1; time = record { holds = (state_fits b).governor.0; from_zero = held time.1 }; lasts = last.1 };
    }

-- ---- its words are its own state's, each made canonical

count_canonical : canon image_words ≡ image_words
unfolding to_bits of_bits
count_canonical = refl

pub flag_canonical : (b : Bool) → canon (flag b) ≡ flag b
unfolding to_bits of_bits
flag_canonical true = refl
flag_canonical false = refl

pub profile_canonical : (p : Profile) → canon (profile_word p) ≡ profile_word p
unfolding to_bits of_bits
profile_canonical Whole = refl
profile_canonical LostRotor = refl

pub own_words : (b : List ℕ) → Unbroken b → OwnWords b
own_words b u =
    let h = unbroken_has b u in let f = peaks_fit (segment_at b SEGMENT) in let at = of_bits-to_bits binary32 in
    let count : canon (word b COUNT) ≡ image_words = ap canon h.count ∙ count_canonical in
    let engaged : canon (word b ENGAGED) ≡ flag (eqb (word b ENGAGED) 1) = unfold moving_at in ap canon h.engaged ∙ flag_canonical (eqb (word b ENGAGED) 1) in
    let profile : canon (word b PROFILE) ≡ profile_word (profile_of (word b PROFILE)) = unfold fixed_at profile_at in ap canon h.profile ∙ profile_canonical (profile_of (word b PROFILE)) in
    let x = ap canon h.peaks.0 ∙ ap bits (at (peaks_of b).0 f.0) in
    let y = ap canon h.peaks.1 ∙ ap bits (at (peaks_of b).1 f.1.0) in
    let z = ap canon h.peaks.2 ∙ ap bits (at (peaks_of b).2 f.1.1.0) in
    record { is = rw (count, engaged, profile, x, y, z) (sym (same_words b)) }

-- ---- a state with such numbers is written as an unbroken image

flag_ok : (b : Bool) → (eqb (flag b) 0 || eqb (flag b) 1) ≡ true
flag_ok true = refl
flag_ok false = refl

profile_ok : (p : Profile) → is_profile (profile_word p) ≡ true
unfolding is_profile
profile_ok Whole = refl
profile_ok LostRotor = refl

peaks_stand_lem : (s : State) → FitsSegment s.fixed.segment → peaks_stand (image_of s) ≡ true
unfolding peaks_stand
peaks_stand_lem s f =
    let w = peaks_written s in
    simp (segment_written s f, w.0, w.1, w.2, itself)
  where
    itself : (x : ℕ) → eqb x x ≡ true
    itself x = eq-eqb x x refl

pub written_unbroken : (s : State) → StateFits s → UnbrokenState s → Unbroken (image_of s)
unfolding unbroken
written_unbroken s f n =
    record {
      whole = image_length s;
      row_four_lem =
          simp (
            count_written s,
            enter_written s f.enter,
            exit_written s f.exit,
            n.enter,
            n.exit,
            engaged_written s,
            flag_ok s.moving.engaged,
            time_written s f.governor.0,
            is_true (le 0·0 s.moving.governor.s) n.time.from_zero,
            segment_written s f.segment,
            n.lasts,
            profile_written s,
            profile_ok s.fixed.profile,
            peaks_stand_lem s f.segment,
          );
    }
