use Rattle.laws.proofs.Prelude.{refl}
use Rattle.words.proofs.Written.{then, whole}
use Rattle.image.specs.Image.{image_of}
use Rattle.image.proofs.image.put_state.Goals as goal

pub returns : goal.returns
unfolding image_of
returns c = whole (then c.put_before_peaks.ensures (rw c.peak_abs_jerk-peaks.ensures at c.put_vec.ensures) refl) c.requires
