-- X, its parts and X − Y fit their words. Assumes nothing.
use native.Mathlib.Omega.{arith}
use Rattle.std.proofs.lemmas.Int.{ints}
use Rattle.contrast.specs.Deviation.{shown_contrast, excess}
use Rattle.contrast.proofs.Bounds.{expected_top, excess_top}
use Rattle.contrast.proofs.neighbours.Neighbours.excess.Goals as goal

pub overflow_cast-result : goal.overflow_cast-result
overflow_cast-result c = grind (arith, expected_top c.args.self.bounded)

pub overflow_sub-result : goal.overflow_sub-result
unfolding shown_contrast excess
overflow_sub-result c = grind (arith, ints, excess_top c.args.self.bounded, expected_top c.args.self.bounded)

pub returns : goal.returns
unfolding shown_contrast excess
returns c = grind (arith, ints, excess_top c.args.self.bounded, expected_top c.args.self.bounded)
