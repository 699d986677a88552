-- What a sample of a route tells: the words, and what guides a tick at that time. Assumes nothing.
use Rattle.laws.proofs.Prelude.{◌≡◌, refl, List, ℕ, ◌≤◌, ◌<◌, lt_of_lt_of_le, le_trans, lit≤, length, Float}
use Rattle.words.{specs.Words.{word, vec, Holds}, proofs.WordsBack.{word_back, vec_back}}
use Rattle.relay_traj.specs.{declared.segment.Segment3.Segment3, Governor.Running, Quintic.{sample_at, eval}, Segment.eval3}
use Rattle.joint_tick.specs.SetUp.{segment_of}
use Rattle.image.{specs.Fits.FitsVec, proofs.Fitting.fitting}
use Rattle.outcome.specs.{Outcomes.{Done, left}}
use Rattle.route.specs.{declared.legs.Sampled.Sampled, Form.{most_legs, leg_of, leg_count, form_refusal}, Legs.{leg_flown, sample_of, sample_on, reference_on}}
use Rattle.route.specs.Entry.{sample_byte_count, words_of_sample, sample_bytes, sample_call, on_route, reference_told}
use Rattle.route.proofs.{LegFlown.{one_of_them, sampled_there}, FormRefusals.{formed, form_decides_sample}}

-- ---- the words are read again

sample_is : (s : Sampled) → Holds (sample_bytes s) (words_of_sample s)
unfolding sample_bytes
sample_is s = record { is = refl }

pub record Told (b : List ℕ) (s : Sampled) : Type 0 where
  pub leg : word b 0 ≡ s.leg
  pub pos : vec b 1 ≡ s.sample.pos
  pub vel : vec b 4 ≡ s.sample.vel
  pub acc : vec b 7 ≡ s.sample.acc
  pub jerk : vec b 10 ≡ s.sample.jerk

fit : (g : Segment3) (t : Float) → let s = eval3 g t in FitsVec s.pos × FitsVec s.vel × FitsVec s.acc × FitsVec s.jerk
unfolding eval3 eval sample_at
fit g t = search fitting

pub sample_told : (b : List ℕ) (n : ℕ) (time : Float) → 0 < n → n ≤ most_legs → Told (sample_bytes (sample_on b n time)) (sample_on b n time)
unfolding sample_on sample_of
sample_told b n time p m =
    let s = sample_on b n time in let f = fit (segment_of (leg_of b s.leg)) _ in let at = vec_back (sample_is s) in
    record {
      leg = word_back (sample_is s) 0 refl (lt_of_lt_of_le (one_of_them b time n p) (le_trans m (lit≤ tt)));
      pos = at 1 _ refl f.0;
      vel = at 4 _ refl f.1;
      acc = at 7 _ refl f.2;
      jerk = at 10 _ refl f.3;
    }

-- ---- at a time that a governor can have, the sample is `eval` of the leg at the time on it

pub eval_of_the_leg : (b : List ℕ) (n : ℕ) (time : Float) → Running time → let f = leg_flown b n time in (sample_on b n time).sample ≡ eval3 (segment_of (leg_of b f.leg)) f.at
unfolding sample_on sample_of
eval_of_the_leg b n time r = rw (sampled_there b time r n)

-- ---- a route that has its form

module _ (route sample : List ℕ) (time : Float) (f : form_refusal route ≡ Done) (l : length sample ≡ sample_byte_count) where
  pub sampled_done : sample_call route time sample ≡ left Done (sample_bytes (sample_on route (leg_count route) time))
  unfolding sample_call
  sampled_done = rw (← form_decides_sample route refl (length sample) l, f)

  -- what the bytes tell is what guides a tick on the route
  pub told_on_route : reference_told (sample_call route time sample).later ≡ on_route route time
  unfolding on_route reference_on
  told_on_route =
      let k = formed route refl f in
      let s = sample_told route (leg_count route) time k.some k.few in
      rw (sampled_done, s.acc, s.jerk)
