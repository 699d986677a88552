-- The flag, the latch and the command of a tick, from any source of references: Assumes nothing.
use Rattle.laws.proofs.Prelude.{◌≡◌, refl, sym, subst, ◌∙◌, ap, Bool, true, false, cond, Float, of_bits}
use Rattle.relay_math.specs.{F32.is_finite, declared.{Vec3.Vec3, BodyRate.BodyRate}}
use Rattle.relay_geo.{specs.{Vectors.{sanitise3, Finite3}, Shield.step}, proofs.{Sanitised.{sanitise3_finite, sanitise3_keeps}, ShieldStep.{step_latches, planner_passed_on, fallback_passed_on}}}
use Rattle.latch.specs.Latch.{latch}
use Rattle.joint_tick.specs.declared.{profile.Profile.{Profile, TheVariants.{Whole, LostRotor}}, state.{State.State, TickInput.TickInput}, stages.Reference.Reference}
use Rattle.joint_tick.specs.Tick.{shield_of, planner_of, fractions, prepare, guide_whole, guide_lost_rotor, guide, follow, pick, guide_pick_follow, guidance, ticked}

-- the planner's command is clean already, in either profile
pub planner_finite : (p : Profile) (agile : BodyRate) → Finite3 (planner_of p agile).0
unfolding is_finite of_bits
planner_finite Whole agile = sanitise3_finite agile.0
planner_finite LostRotor agile = let f = sanitise3_finite agile.0 in record { x = f.x; y = f.y; z = tt }

planner_clean : (p : Profile) (agile : BodyRate) → ◌≡◌ {A = BodyRate} record { 0 = sanitise3 (planner_of p agile).0 } (planner_of p agile)
planner_clean p agile = ap (λ (v : Vec3). record { 0 = v }) (sanitise3_keeps (planner_of p agile).0 (planner_finite p agile))

module _ (source : Float → Reference) (s : State) (i : TickInput) where
  -- what the profile says, for what is proved of one of the two
  abbrev pub filtered : BodyRate
  filtered = (prepare s.fixed.profile s.moving i).rate

  abbrev pub wanted_at : Reference
  wanted_at = source (prepare s.fixed.profile s.moving i).time

  pub by_profile : {p : Profile} → s.fixed.profile ≡ p → guidance source s i ≡ guide p s.fixed.gains s.fixed.set filtered wanted_at i
  unfolding guidance
  by_profile e = ap (λ (p : Profile). guide p s.fixed.gains s.fixed.set filtered wanted_at i) e

  -- The flag is the latch of the margin that the documents work out, and of nothing else of the tick.
  pub tick_latch : (ticked source s i).answer.fallback ≡ latch s.fixed.enter s.fixed.exit s.moving.engaged (guidance source s i).margin
  unfolding ticked prepare guide_pick_follow pick guidance
  tick_latch = let g = guidance source s i in step_latches (shield_of s) g.margin g.planner g.fallback

  -- It is kept for the next tick.
  pub tick_keeps_flag : (ticked source s i).engaged ≡ (ticked source s i).answer.fallback
  unfolding ticked prepare guide_pick_follow pick step
  tick_keeps_flag = refl

  -- The answer tells that very margin.
  pub tick_margin : (ticked source s i).answer.margin ≡ (guidance source s i).margin
  unfolding ticked guide_pick_follow pick guidance
  tick_margin = refl

  pub planner_is : (guidance source s i).planner ≡ planner_of s.fixed.profile i.agile
  unfolding guidance guide guide_whole guide_lost_rotor
  planner_is = go s.fixed.profile filtered wanted_at
    where
      go : (p : Profile) (w : BodyRate) (wanted : Reference) → (guide p s.fixed.gains s.fixed.set w wanted i).planner ≡ planner_of p i.agile
      go Whole w wanted = refl
      go LostRotor w wanted = refl

  pub tick_psi : (ticked source s i).answer.psi ≡ (guidance source s i).psi
  unfolding ticked guide_pick_follow pick guidance
  tick_psi = refl

  -- The planner's command goes on as it is cleaned, the fallback with its non-finite numbers made +0.0 (its sum can overflow).
  pub tick_planner : (ticked source s i).answer.fallback ≡ false → (ticked source s i).answer.command ≡ (guidance source s i).planner
  unfolding ticked prepare guidance guide_pick_follow pick
  tick_planner e =
      let g = guidance source s i in
      planner_passed_on (shield_of s) g.margin g.planner g.fallback e
      ∙ subst (λ (w : BodyRate). record { 0 = sanitise3 w.0 } ≡ w) (sym planner_is) (planner_clean s.fixed.profile i.agile)

  pub tick_fallback : (ticked source s i).answer.fallback ≡ true → (ticked source s i).answer.command ≡ record { 0 = sanitise3 (guidance source s i).fallback.0 }
  unfolding ticked prepare guide_pick_follow pick guidance
  tick_fallback e = let g = guidance source s i in fallback_passed_on (shield_of s) g.margin g.planner g.fallback e

  -- "What is passed on is that command with non-finite numbers made zero, else the fallback treated alike, and the flag names which."
  pub tick_command :
      (ticked source s i).answer.command ≡
      cond (ticked source s i).answer.fallback record { 0 = sanitise3 (guidance source s i).fallback.0 } (planner_of s.fixed.profile i.agile)
  tick_command = go (ticked source s i).answer.fallback refl
    where
      go : (b : Bool) → (ticked source s i).answer.fallback ≡ b
          → (ticked source s i).answer.command ≡ cond b record { 0 = sanitise3 (guidance source s i).fallback.0 } (planner_of s.fixed.profile i.agile)
      go true e = tick_fallback e
      go false e = tick_planner e ∙ planner_is

  -- "ADRC ticks on the filtered gyro, the pick and dt."
  pub tick_torque :
      (ticked source s i).answer.torque ≡
      (follow s.fixed.profile (fractions s.fixed.profile s.moving.rate i.fraction) filtered (ticked source s i).answer.command i.dt).torque
  unfolding ticked prepare guide_pick_follow pick
  tick_torque = refl
