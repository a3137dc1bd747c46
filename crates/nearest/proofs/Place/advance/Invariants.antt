-- The loop goes over the levels under the target; the luminance of the last one tells whether the next is brighter. Assumes nothing.
use Rattle.nearest.specs.Places.{NotPast}
use Rattle.nearest.proofs.Place.advance.Given as goal

abbrev pub invariant-loop-above : goal.invariant-loop-above
invariant-loop-above l = NotPast l.self.curve.now l.target.0 (record { curve = l.self.curve; below = l.below; dark = l.dark; above = l.above; walkable = l.self.walkable })
