use Rattle.relay_geo.specs.Vectors.{matmul3}
use Rattle.relay_geo.proofs.vectors.matmul3.Goals as goal

pub returns : goal.returns
unfolding matmul3
returns c =
    simp (
      c.prod3-9.ensures,
      c.prod3-8.ensures,
      c.prod3-7.ensures,
      c.prod3-6.ensures,
      c.prod3-5.ensures,
      c.prod3-4.ensures,
      c.prod3-3.ensures,
      c.prod3-2.ensures,
      c.prod3.ensures,
      c.transpose3-c.ensures,
    )
