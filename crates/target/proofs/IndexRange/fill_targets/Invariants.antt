-- The first p targets are written. Assumes nothing.
use Rattle.laws.proofs.Fill.{Filled}
use Rattle.target.specs.Target.{target_at}
use Rattle.target.proofs.IndexRange.fill_targets.Given as goal

abbrev pub invariant-loop-p : goal.invariant-loop-p
invariant-loop-p l = Filled (target_at l.self.low.0 l.self.range.0 l.top.0) l.initial.target-items l.target-items l.p
