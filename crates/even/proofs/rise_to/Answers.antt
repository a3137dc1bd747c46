-- The levels passed are darker. Assumes nothing.
use native.Mathlib.Nat.{le_antisymm, le_trans}
use native.Mathlib.Omega.{arith}
use Rattle.even.proofs.Runs.{reaching_top, reached, not_reached}
use Rattle.even.proofs.rise_to.Goals as goal

pub loop-d-init : goal.loop-d-init
loop-d-init c = c.requires

pub returns-then-l-curve : goal.returns-then-l-curve
returns-then-l-curve c = le_antisymm c.loop-d.invariant (reached _ _ _ (omega arith))

pub loop-d-preserved : goal.loop-d-preserved
loop-d-preserved c = not_reached _ _ _ (omega arith) c.loop-d.invariant (omega arith)

pub returns : goal.returns
returns c = le_antisymm (le_trans (omega arith) c.loop-d.invariant) (reaching_top _ _)
