-- Two sham builds fall to demand 3 alone: a program whose outcomes and images are the promised ones, and of whose answers no more is known than what
-- demand 3 says of the flag, neither gives one constant answer nor echoes its first tick. The run is that of crate `calls`, proofs/ShamsOverRuns.antt. Assumes nothing.
use Rattle.laws.proofs.Prelude.{◌≡◌, refl, sym, ap, ◌∙◌, subst, ◌↔◌, List, [], ◌∷◌, ◌++◌, ℕ, zero, suc, nan, of_bits, length, replicate}
use native.Mathlib.Nat.{suc-ne-zero}
use Rattle.words.specs.Words.{word, float, flag}
use Rattle.latch.specs.Latch.{Flies}
use Rattle.joint_tick.{specs.declared.profile.Profile.TheVariants.Whole, proofs.TickNoAttitude.nan_heading_tick}
use Rattle.outcome.specs.Outcomes.{Filled, Called}
use Rattle.image.specs.{Layout.{setup_profile, FLAG, input_bytes}, Parts.profile_at, Image.{fixed_at, state_at}, Inputs.input_at}
use Rattle.calls.specs.{Entry.on_segment, Shams.{Program, Keeps, AnswersOnly, EchoesAfter, blank_answer, blank_image, ran, answered, level_set_up, level_input, lost_input}}
use Rattle.calls.proofs.Shams.{level_profile, level_sets_up, planner_flies}
use Rattle.runs.specs.{Runs.{Call, Ticks, flying, left_by, guided, start, image_after, margins_along}, DemandThree.{enter_of, exit_of, flag_of}, Shams.{plain, KeepsDemandThree}}
use Rattle.runs.proofs.{Shown.{tick_done, flag_shown}, Induction.{set_up_starts, start_unbroken, ran as taken}, DemandThree.demand_three, CallsKeep.profile_over_any_run}

-- ---- the promised flags: the planner flies at the first tick, and after any calls the fallback does at a heading that is no number

planner_at_first : flag_of (start level_set_up) (plain level_input) ≡ 0
unfolding start
planner_at_first = flag_shown (start level_set_up) (plain level_input) (start_unbroken level_set_up) (refl, refl, tt) ∙ ap flag planner_flies

no_heading : (input_at lost_input).yaw ≡ nan
unfolding input_at float word of_bits
no_heading = refl

-- by the old rules, which no call changes
level_word : word level_set_up setup_profile ≡ 0
unfolding word
level_word = refl

old_rules : (calls : List Call) → (fixed_at (image_after (start level_set_up) calls)).profile ≡ Whole
unfolding fixed_at profile_at
old_rules calls = rw (profile_over_any_run level_set_up calls level_profile ∙ level_word)

fallback_then : (calls : List Call) → flag_of (image_after (start level_set_up) calls) (plain lost_input) ≡ 1
fallback_then calls =
    let image = image_after (start level_set_up) calls in
    flag_shown image (plain lost_input) (taken level_set_up calls).unbroken (refl, refl, tt)
    ∙ ap flag (nan_heading_tick (on_segment image) (state_at image) (input_at lost_input) (old_rules calls) no_heading).flag

-- ---- what the promises say is more

pub keeps_demand_three : (p : Program) → Keeps p → KeepsDemandThree p
unfolding flying
keeps_demand_three p k =
    record {
      set_up = k.set_up;
      outcome = λ image input. ap (λ (c : Called). c.outcome) (k.tick image input blank_answer);
      image = λ image input. ap (λ (c : Called). c.later.image) (k.tick image input blank_answer);
      flies = λ setup calls input e.
          let image = image_after (start setup) calls in
          subst (λ (c : Called). (word c.later.answer FLAG ≡ 0) ↔ Flies (enter_of setup) (exit_of setup) (margins_along (start setup) calls ++ (guided image (plain input)).margin ∷ []))
          (sym (k.tick image input blank_answer)) (demand_three setup calls (plain input) (e, refl, tt)).flies;
    }

-- ---- the shams

module _ (p : Program) (k : KeepsDemandThree p) where
  -- its flag is 0 exactly if the promised one is ..
  as_promised : (calls : List Call) (input : List ℕ) → length input ≡ input_bytes
      → let image = image_after (start level_set_up) calls in (word (answered p image input) FLAG ≡ 0) ↔ (flag_of image (plain input) ≡ 0)
  as_promised calls input e =
      let promised = (demand_three level_set_up calls (plain input) (e, refl, tt)).flies in
      let own = k.flies level_set_up calls input e in
      (λ z. promised.1 (own.0 z), λ z. own.1 (promised.0 z))

  -- .. so the first answer has a 0 there ..
  first_zero : word (answered p (start level_set_up) level_input) FLAG ≡ 0
  unfolding image_after
  first_zero = (as_promised [] level_input refl).1 planner_at_first

  -- .. and that to a heading that is no number has none
  then_no_zero : (calls : List Call) → ¬ (word (answered p (image_after (start level_set_up) calls) lost_input) FLAG ≡ 0)
  then_no_zero calls z = suc-ne-zero 0 (sym (fallback_then calls) ∙ (as_promised calls lost_input refl).0 z)

  -- "one constant answer"
  pub not_answering_alike : (c : List ℕ) → ¬ (AnswersOnly p c)
  unfolding image_after flying
  not_answering_alike c r = then_no_zero [] (ap (λ (b : List ℕ). word b FLAG) (alike lost_input refl ∙ sym (alike level_input refl)) ∙ first_zero)
    where
      image : List ℕ
      image = start level_set_up

      alike : (input : List ℕ) → length input ≡ input_bytes → answered p image input ≡ c
      alike input e =
          r.always image input blank_answer
          (k.outcome image input ∙ ap (λ (c : Called). c.outcome) (tick_done image (plain input) (start_unbroken level_set_up) (e, refl, tt)))

  -- "works at the first tick and echoes it later", however late
  along : (n : ℕ) (image : List ℕ) → ran p image (replicate n level_input) ≡ image_after image (replicate n (Ticks (plain level_input)))
  unfolding image_after left_by flying
  along zero image = refl
  along (suc n) image =
      along n (p.tick image level_input blank_answer).later.image
      ∙ ap (λ (b : List ℕ). image_after b (replicate n (Ticks (plain level_input)))) (k.image image level_input)

  pub not_echoing : (n : ℕ) → ¬ (EchoesAfter p n)
  not_echoing n r =
      let from : (p.set_up blank_image level_set_up).later ≡ start level_set_up =
      ap (λ (l : Filled). l.later) (k.set_up blank_image level_set_up ∙ set_up_starts blank_image level_set_up refl level_sets_up) in
      let again = subst (λ (b : List ℕ). answered p (ran p b (replicate (suc n) level_input)) lost_input ≡ answered p b level_input) from
      (r.again level_set_up level_input lost_input level_sets_up refl refl) in
      then_no_zero (replicate (suc n) (Ticks (plain level_input)))
      (ap (λ (b : List ℕ). word (answered p b lost_input) FLAG) (sym (along (suc n) (start level_set_up))) ∙ ap (λ (b : List ℕ). word b FLAG) again ∙ first_zero)
