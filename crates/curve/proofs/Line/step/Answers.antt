use Rattle.std.proofs.Common.{arith}
use Rattle.std.proofs.Math.Nat.{lt_of_mul-lt-mul_right}
use Rattle.curve.proofs.Line.step.Goals as goal

-- One level on, a whole unit of parts still fits.
pub overflow_add-self : goal.overflow_add-self
overflow_add-self c = record { fits = lt_of_mul-lt-mul_right c.args.self.now.width (omega arith) }

pub invariant_of-self : goal.invariant_of-self
invariant_of-self c = record { narrow = c.args.self.now.narrow; rest_below = c.args.self.now.rest_below; part_below = c.if-part-self.true }
