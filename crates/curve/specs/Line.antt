-- The line between two readings, level by level.
use Rattle.std.specs.Prelude.{ℕ, ◌+◌, ◌*◌, ◌<◌, ◌≡◌}
use Rattle.curve.specs.Walk.{PointAt}
use Rattle.curve.specs.declared.Line.{Line}

-- the line of this rise over `width` levels, k levels after the reading l1
pub record LineAt (l1 rise width k : ℕ) (line : Line) : Type 0 where
  pub width_is : line.width ≡ width
  pub slope_is : line.whole * line.width + line.rest ≡ rise
  pub point : PointAt l1 rise line.width k line.luminance.0 line.part

-- one level on, the luminance has 32 bits
pub record Steppable (line : Line) : Type 0 where
  pub fits : (line.luminance.0 + line.whole) * line.width + (line.part + line.rest) < 4294967296 * line.width

-- one level on
pub record Stepped (before after : Line) : Type 0 where
  pub width_is : after.width ≡ before.width
  pub whole_is : after.whole ≡ before.whole
  pub rest_is : after.rest ≡ before.rest
  pub is : after.luminance.0 * before.width + after.part ≡ (before.luminance.0 + before.whole) * before.width + (before.part + before.rest)
