use Rattle.image.proofs.Moved.{moved}
use Rattle.image.proofs.image.put_moved.Goals as goal

pub returns : goal.returns
returns c =
    moved {b = c.args.image.now} c.requires.1 c.requires.2
    c.put_flag.ensures c.put_float.ensures c.put_axis_moved.ensures c.put_axis_moved-2.ensures c.put_axis_moved-3.ensures
    c.put_biquad_moved.ensures c.put_biquad_moved-2.ensures c.put_biquad_moved-3.ensures
