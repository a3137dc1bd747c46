-- The line between two readings, level by level: what it is at is the value between them.
-- Assumes nothing.
use Rattle.std.proofs.Common.{◌≡◌, ℕ, ◌+◌, ◌<◌, arith}
use Rattle.std.proofs.Math.Nat.{mul-le-mul_left, mul-le-mul_right}
use Rattle.curve.specs.Curve.{interpolate}
use Rattle.curve.proofs.Interpolation.{point_is}
use Rattle.curve.specs.Line.{LineAt, Steppable, Stepped}
use Rattle.curve.specs.declared.Line.{Line}

module _ {l1 rise width k : ℕ} {line : Line} (p : LineAt l1 rise width k line) where
  pub line_next : {next : Line} → Stepped line next → LineAt l1 rise width (k + 1) next
  line_next {next} s = grind arith

  -- up to the other reading, luminances are as wide as its own
  pub line_steps : k < width → l1 + rise < 4294967296 → Steppable line
  line_steps inside wide = record {
    fits =
        omega (
          arith,
          p.point.is,
          p.slope_is,
          mul-le-mul_left {m = k + 1} {n = line.width} rise (omega arith),
          mul-le-mul_right {m = l1 + rise} {n = 4294967295} line.width (omega arith),
        );
  }

  -- where the line is, is the value between the readings
  pub line_is : line.luminance.0 ≡ interpolate 0 l1 width (l1 + rise) k
  line_is = rw (← p.width_is) (point_is p.point)
