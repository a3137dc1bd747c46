-- Assumes nothing.
use native.Mathlib.Omega.{arith}
use lib.Seq.{length-take-le}
use Rattle.laws.proofs.Fill.{filled_none, filled_more, filled_all}
use Rattle.target.specs.Target.{targets_of}
use Rattle.target.proofs.IndexRange.fill_targets.Goals as goal

pub loop-p-init : goal.loop-p-init
loop-p-init c = filled_none _ _

pub loop-p-preserved : goal.loop-p-preserved
loop-p-preserved c = filled_more _ _ _ _ _ c.loop-p.invariant (omega (arith, c.loop-p.invariant.len)) c.target_at.ensures

pub returns : goal.returns
unfolding targets_of
returns c = grind (arith, filled_all, length-take-le)
