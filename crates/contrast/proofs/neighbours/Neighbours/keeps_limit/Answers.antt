-- Assumes nothing.
use native.Mathlib.Omega.{arith}
use Rattle.std.proofs.lemmas.Int.{ints}
use Rattle.contrast.specs.Deviation.{keeps_limit}
use Rattle.contrast.proofs.Bounds.{excess_top}
use Rattle.contrast.proofs.neighbours.Neighbours.keeps_limit.Goals as goal

pub overflow_mul-result : goal.overflow_mul-result
overflow_mul-result c = grind (arith, ints, excess_top c.args.self.bounded)

pub returns : goal.returns
unfolding keeps_limit
returns c = grind (arith, ints, excess_top c.args.self.bounded)
