use Rattle.laws.proofs.Prelude.{refl}
use Rattle.words.proofs.Written.{then, whole}
use Rattle.image.specs.Inputs.{answer_of}
use Rattle.image.proofs.inputs.put_answer.Goals as goal

pub returns : goal.returns
unfolding answer_of
returns c = whole (then (then (then c.put_vec.ensures c.put_vec-2.ensures refl) c.put_flag.ensures refl) c.put_three.ensures refl) c.requires
