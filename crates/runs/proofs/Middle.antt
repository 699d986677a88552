-- What the third demand says of single ticks of a run: between the thresholds nothing changes hands. Assumes nothing.
use Rattle.laws.proofs.Prelude.{◌≡◌, refl, sym, ap, ◌∙◌, subst, ◌⊎◌, inl, inr, Bool, true, false, not, ◌||◌, List, [], ◌∷◌, ◌++◌, ℕ, Float, lt, no, both}
use Rattle.words.specs.Words.{word, flag}
use Rattle.relay_math.specs.F32.{is_finite}
use Rattle.latch.specs.Latch.{latch}
use Rattle.relay_geo.proofs.ShieldStep.{released_only_above_exit, above_exit_releases, engaged_by, released_stays_in_band, engaged_stays_in_band}
use Rattle.joint_tick.{specs.Tick.state_after, proofs.Shielding.tick_keeps_flag}
use Rattle.image.{specs.{Layout.ENGAGED, Image.state_at, Inputs.input_at}, proofs.Decoded.engaged_written}
use Rattle.lent_tick.{specs.Steps.shield_at, proofs.RowFour.unbroken_has}
use Rattle.runs.specs.{Runs.{Tick, Call, Ticks, tick_of, left_by, source_on, guided, start, image_after, Right}, DemandThree.{enter_of, exit_of, flag_of, InBand}}
use Rattle.runs.proofs.{Shown.{flag_zero, flag_one, tick_done, flag_shown}, Induction.{start_unbroken, start_engaged, thresholds_in_order, ran, latched}}

in_band_lem : (enter exit m : Float) → InBand enter exit m → (b : Bool) → latch enter exit b m ≡ b
in_band_lem enter exit m i true = engaged_stays_in_band enter exit m i.not_above
in_band_lem enter exit m i false = released_stays_in_band enter exit m i.finite i.not_below

one_more : (image : List ℕ) (calls : List Call) (t : Tick) → image_after image (calls ++ Ticks t ∷ []) ≡ (tick_of (image_after image calls) t).later.image
unfolding image_after left_by
one_more image [] t = refl
one_more image (c ∷ calls) t = one_more (left_by image c) calls t

module _ (setup : List ℕ) where
  module _ (calls : List Call) (t : Tick) (r : Right t) where
    abbrev image : List ℕ
    image = image_after (start setup) calls

    abbrev m : Float
    m = (guided image t).margin

    -- the flag's word is the latch of the margin, by whoever had control before, who stands in the image
    now : flag_of image t ≡ flag (latch (enter_of setup) (exit_of setup) (shield_at image).engaged m)
    now = flag_shown image t (ran setup calls).unbroken r ∙ ap flag (latched setup calls t)

    before : word image ENGAGED ≡ flag (shield_at image).engaged
    before = (unbroken_has image (ran setup calls).unbroken).engaged

    -- "A margin above exit is answered with the planner's command in that same tick."
    pub above_exit_flies_at_once : is_finite m ≡ true → lt (exit_of setup) m ≡ true → flag_of image t ≡ 0
    above_exit_flies_at_once f e = now ∙ ap flag (above_exit_releases (enter_of setup) (exit_of setup) (shield_at image).engaged m (thresholds_in_order setup) (rw (f, e)))

    -- A margin that is non-finite or below enter is answered with the fallback's.
    pub below_enter_falls_back_at_once : (is_finite m ≡ false) ⊎ (lt m (enter_of setup) ≡ true) → flag_of image t ≡ 1
    below_enter_falls_back_at_once e = now ∙ ap flag (engaged_by (enter_of setup) (exit_of setup)
        (shield_at image).engaged m (thresholds_in_order setup) (either (is_finite m) (lt m (enter_of setup)) e))
      where
        either : (f b : Bool) → (f ≡ false) ⊎ (b ≡ true) → (not f || b) ≡ true
        either false b e = refl
        either true b (inl e) = no (sym e)
        either true b (inr e) = e

    -- Between the thresholds nothing changes hands: the flag is the image's.
    pub in_band_as_before : InBand (enter_of setup) (exit_of setup) m → flag_of image t ≡ word image ENGAGED
    in_band_as_before i = now ∙ ap flag (in_band_lem (enter_of setup) (exit_of setup) m i (shield_at image).engaged) ∙ sym before

    -- The planner gets control back by a finite margin above exit, and by nothing else.
    pub back_only_above_exit : word image ENGAGED ≡ 1 → flag_of image t ≡ 0 → (is_finite m ≡ true) × (lt (exit_of setup) m ≡ true)
    back_only_above_exit e f =
        let b = flag_one (shield_at image).engaged (sym before ∙ e) in
        let l = flag_zero (latch (enter_of setup) (exit_of setup) (shield_at image).engaged m) (sym now ∙ f) in
        both (is_finite m) (lt (exit_of setup) m) (released_only_above_exit (enter_of setup) (exit_of setup) m (subst (λ (x : Bool). latch (enter_of setup) (exit_of setup) x m ≡ false) b l))

    -- The image keeps the flag for the next tick.
    pub flag_kept : word (tick_of image t).later.image ENGAGED ≡ flag_of image t
    flag_kept =
        rw (tick_done image t (ran setup calls).unbroken r) (engaged_written (state_after (source_on t.course image) (state_at image) (input_at t.input)))
        ∙ ap flag (tick_keeps_flag (source_on t.course image) (state_at image) (input_at t.input))
        ∙ sym (flag_shown image t (ran setup calls).unbroken r)

  -- at the first tick the fallback's command goes on
  pub first_in_band : (t : Tick) → Right t → InBand (enter_of setup) (exit_of setup) (guided (start setup) t).margin → flag_of (start setup) t ≡ 1
  unfolding image_after
  first_in_band t r i = in_band_as_before [] t r i ∙ (unbroken_has (start setup) (start_unbroken setup)).engaged ∙ ap flag (start_engaged setup)

  -- at a tick u right after a tick t, u's flag is t's
  pub next_in_band : (calls : List Call) (t u : Tick) → Right t → Right u
      → let image = image_after (start setup) calls in
      let next = (tick_of image t).later.image in
      InBand (enter_of setup) (exit_of setup) (guided next u).margin → flag_of next u ≡ flag_of image t
  next_in_band calls t u r q i =
      subst (λ (x : List ℕ). InBand (enter_of setup) (exit_of setup) (guided x u).margin → flag_of x u ≡ word x ENGAGED) (one_more (start setup) calls t)
      (in_band_as_before (calls ++ Ticks t ∷ []) u q) i
      ∙ flag_kept calls t r
