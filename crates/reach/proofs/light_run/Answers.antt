-- The loop's invariant is the record `Lighting`. Assumes nothing.
use native.Mathlib.Omega.{arith}
use Rattle.reach.proofs.Runs.{lighting_more, lighting_all}
use Rattle.reach.proofs.light_run.Goals as goal

pub loop-d-preserved : goal.loop-d-preserved
loop-d-preserved c =
    let at = c in
    rw c.mark.ensures (lighting_more at.loop-d.invariant at.requires (omega arith))

pub returns : goal.returns
returns c = lighting_all c.loop-d.invariant _ (omega arith)
