-- A luminance against the ends of Table B-1, for tests 8, 9 and 12.
use Rattle.std.specs.Prelude.{ℕ, Bool, ltb}
use Rattle.gsdf.specs.DisplayFunction.{jnd_luminance}

-- below T(1)
unfoldable pub below_table : ℕ → Bool
below_table l = ltb l (jnd_luminance 1)

-- above T(1023)
unfoldable pub above_table : ℕ → Bool
above_table l = ltb (jnd_luminance 1023) l
