use Rattle.std.proofs.Common.{refl, arith}
use Rattle.curve.proofs.Line.new.Goals as goal

pub returns : goal.returns
returns c = record { width_is = refl; slope_is = omega arith; point = record { below = omega arith; is = omega arith } }
