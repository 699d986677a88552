use Rattle.laws.proofs.Prelude.{refl}
use Rattle.words.proofs.Written.{then, whole}
use Rattle.route.specs.Entry.{sample_bytes}
use Rattle.route.proofs.sample.put_sample.Goals as goal

pub returns : goal.returns
unfolding sample_bytes
returns c =
    whole (then (then (then (then c.put_word.ensures c.put_vec.ensures refl) c.put_vec-2.ensures refl) c.put_vec-3.ensures refl) c.put_vec-4.ensures refl) c.requires.0
