-- `route::legs::reference_of`: three axes of mended words are the leg's segment. Assumes nothing.
use Rattle.laws.proofs.Prelude.{◌≡◌, List, ℕ, ◌+◌, Float}
use native.Mathlib.Nat.{add_right_comm}
use Rattle.words.specs.Words.{float, vec}
use Rattle.relay_traj.specs.declared.quintic.Quintic.{Quintic}
use Rattle.relay_traj.specs.Quintic.{mend_ends, of_mended, quintic}
use Rattle.relay_traj.specs.Segment.{segment}
use Rattle.joint_tick.specs.SetUp.{segment_of}
use Rattle.joint_tick.specs.Tick.{reference_at}
use Rattle.image.specs.Parts.{leg_at}
use Rattle.route.specs.Legs.{sample_of, reference_of}
use Rattle.route.proofs.legs.reference_of.Goals as goal

abbrev axis : List ℕ → ℕ → ℕ → Quintic
axis b k j = of_mended (mend_ends (float b j) (float b (j + 3)) (float b (j + 6)) (float b (j + 9)) (float b (j + 12)) (float b (j + 15)) (float b (k + 18)))

axis_of : (b : List ℕ) (k j : ℕ) → let a : ℕ → Float = λ n. float b (k + n + j) in axis b k (k + j) ≡ quintic (float b (k + j)) (a 3) (a 6) (a 9) (a 12) (a 15) (float b (k + 18))
unfolding quintic
axis_of b k j = rw (add_right_comm k j 3, add_right_comm k j 6, add_right_comm k j 9, add_right_comm k j 12, add_right_comm k j 15)

axes : (b : List ℕ) (k : ℕ) → segment_of (leg_at b k) ≡ (axis b k k, axis b k (k + 1), axis b k (k + 2))
unfolding segment_of segment quintic leg_at vec
axes b k = rw (axis_of b k 1, axis_of b k 2)

pub returns : goal.returns
unfolding reference_of sample_of reference_at
returns c =
    simp (
      axes,
      c.reference_at.ensures,
      c.of_mended-z.ensures,
      c.axis_at-3.ensures,
      c.of_mended-y.ensures,
      c.axis_at-2.ensures,
      c.of_mended-x.ensures,
      c.axis_at.ensures,
      c.float_at-t.ensures,
    )
