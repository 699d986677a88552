-- The leg flown (request One of document 02), over any count. Definitions only.
use Rattle.std.specs.Prelude.{◌≡◌, ℕ, zero, suc, ◌-◌, ◌<◌, ◌≤◌, true, false, cond, List, Float}
use Rattle.std.specs.Float.Ieee.{lt}
use Rattle.relay_math.specs.F32.{◌⊕◌, ◌⊖◌, 0·0, finite_or}
use Rattle.relay_math.specs.declared.Vec3.{Vec3}
use Rattle.relay_traj.specs.Quintic.{mended_duration}
use Rattle.joint_tick.specs.declared.stages.Reference.{Reference}
use Rattle.joint_tick.specs.SetUp.{segment_of}
use Rattle.joint_tick.specs.Tick.{sample_at3, reference_in}
use Rattle.route.specs.declared.legs.Behind.{Behind}
use Rattle.route.specs.declared.legs.Sampled.{Sampled}
use Rattle.route.specs.Form.{leg_of}

unfoldable pub duration_of : List ℕ → ℕ → Float
duration_of b i = mended_duration (leg_of b i).t

-- which leg, counted from 0, and the time on it
pub record Flown : Type 0 where
  pub leg : ℕ
  pub at : Float

-- Looked for from leg i on, before which the legs' ends came to `end`, among the next n: the first whose own end is above the time, at the time
-- less the end before it. Past all ends it is the last leg, at its duration.
unfoldable pub flown_from : List ℕ → Float → ℕ → ℕ → Float → Flown
unfolding duration_of
flown_from b time zero i end = record { leg = i - 1; at = duration_of b (i - 1) }
flown_from b time (suc n) i end =
    let next = end ⊕ duration_of b i in
    cond (lt time next) record { leg = i; at = time ⊖ end } (flown_from b time n (suc i) next)

unfoldable pub leg_flown : List ℕ → ℕ → Float → Flown
unfolding flown_from
leg_flown b n time = flown_from b time n 0 0·0

-- the base's own sample, of a leg in place of the stored segment
unfoldable pub sample_of : List ℕ → ℕ → Float → Sampled
sample_of b i at = record { leg = i; sample = sample_at3 (segment_of (leg_of b i)) at }

-- where the craft should be: the leg flown, and its sample at the time on it
unfoldable pub sample_on : List ℕ → ℕ → Float → Sampled
unfolding leg_flown sample_of
sample_on b n time = let f = leg_flown b n time in sample_of b f.leg f.at

-- what guides a tick of each
unfoldable pub reference_of : List ℕ → ℕ → Float → Reference
unfolding sample_of
reference_of b i at = reference_in (sample_of b i at).sample

unfoldable pub reference_on : List ℕ → ℕ → Float → Reference
unfolding sample_on
reference_on b n time = reference_in (sample_on b n time).sample

-- what the walk of both says: the leg that it came to is the leg flown, if it is one of the n; if not, the time is past all ends
pub record PassedBy (b : List ℕ) (n : ℕ) (time : Float) (p : Behind) : Type 0 where
  pub on : p.legs < n → leg_flown b n time ≡ record { leg = p.legs; at = time ⊖ p.end }
  pub past : n ≤ p.legs → leg_flown b n time ≡ record { leg = n - 1; at = duration_of b (n - 1) }

-- ---- what the theorems in proofs/ speak of

-- "Leg ends are the running f32 sum of mended durations": the end of the first n legs
unfoldable pub end_of : List ℕ → ℕ → Float
unfolding duration_of
end_of b zero = 0·0
end_of b (suc n) = end_of b n ⊕ duration_of b n

-- leg k, counted from 0, is the first of n whose end is above the time
pub record FirstAbove (b : List ℕ) (n : ℕ) (time : Float) (k : ℕ) : Type 0 where
  pub within : k < n
  pub above : lt time (end_of b (suc k)) ≡ true
  pub earlier : (j : ℕ) → j < k → lt time (end_of b (suc j)) ≡ false

-- the time is past the ends of all n legs
pub record PastAll (b : List ℕ) (n : ℕ) (time : Float) : Type 0 where
  pub none : (j : ℕ) → j < n → lt time (end_of b (suc j)) ≡ false

-- a leg's p0 or v0 as `Quintic::new` mends it
abbrev pub mended3 : Vec3 → Vec3
mended3 v = (finite_or v.0 0·0, finite_or v.1 0·0, finite_or v.2 0·0)
