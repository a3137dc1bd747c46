-- What a luminance is that passes the tests against the ends of Table B-1.
-- Assumes nothing.
use mathlib.Core.Path.{◌≡◌}
use mathlib.Core.Bool.{false}
use Prim.Native.Nat.{ℕ, ◌≤◌}
use native.Mathlib.Omega.{arith}
use borrow.Author.Tests.{ltb-false}
use Rattle.gsdf.specs.DisplayFunction.{jnd_luminance}
use Rattle.gsdf.proofs.TableRule.{jnd_first, jnd_last}
use Rattle.gsdf.specs.Ends.{below_table, above_table}

pub not_below : (l : ℕ) → below_table l ≡ false → 500 ≤ l
unfolding below_table
not_below l e = omega (arith, ltb-false l (jnd_luminance 1) e, jnd_first)

pub not_above : (l : ℕ) → above_table l ≡ false → l ≤ 39934040
unfolding above_table
not_above l e = omega (arith, ltb-false (jnd_luminance 1023) l e, jnd_last)
