-- What the functions that draw the curve ask and keep.
use Rattle.std.specs.Prelude.{ℕ, ◌+◌, ◌-◌, ◌*◌, ◌<◌, ◌≡◌, List, length, get_or}
use Rattle.laws.specs.Fill.{tab}
use Rattle.record.specs.declared.items.Reading.{Reading}
use Rattle.curve.specs.Curve.{interpolate, Sweep}

-- the luminances of n levels strictly between the readings l1 and l2
unfoldable pub between : (l1 l2 n : ℕ) → List ℕ
between l1 l2 n = tab (λ i. interpolate 0 l1 (n + 1) l2 (i + 1)) n

-- the line that has this rise, k levels after the reading l1: at luminance l, and a part of the next unit. How much of a unit is there at the
-- start decides the rounding: nothing rounds down.
pub record PointAt (l1 rise width k l part : ℕ) : Type 0 where
  pub below : part < width
  pub is : l * width + part ≡ l1 * width + rise * k

-- the reading at place i, with the light added
pub record LitReading (ddls luminances : List ℕ) (added i : ℕ) (reading : Reading) : Type 0 where
  pub level : reading.ddl.0 ≡ get_or ddls i 0
  pub luminance : reading.luminance.0 ≡ added + get_or luminances i 0

-- a sweep whose luminances with the light added are 32 bits wide, and a slice with a place for each level
pub record Drawable (ddls luminances : List ℕ) (top added : ℕ) (curve : List ℕ) : Type 0 where
  pub sweep : Sweep ddls luminances top
  pub wide : added + get_or luminances (length ddls - 1) 0 < 4294967296
  pub levels : top < 65536
  pub fits : top < length curve
