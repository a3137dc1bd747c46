-- Assumes nothing.
use Rattle.even.proofs.Steps.{deviation_is}
use Rattle.even.proofs.step_deviation.Goals as goal

pub returns : goal.returns
returns c =
    let deviation = rw c.from-wanted.ensures at c.div_ceil.ensures in
    deviation_is c.args.f.0 c.args.g.0 c.abs_diff.result _ c.requires (rw (c.from.ensures, c.from-wanted.ensures) at c.abs_diff.ensures) deviation
