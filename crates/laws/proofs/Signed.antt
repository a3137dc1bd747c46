-- Signed numbers by their magnitudes in ℕ, where `omega` reads.
-- Assumes nothing.
use mathlib.Core.Path.{◌≡◌}
use Prim.Native.Nat.{ℕ, ◌+◌, ◌≤◌}
use native.Mathlib.Omega.{arith}
use lib.IntN.{ℤ, pos, nat_abs, ◌-ℤ◌}
use Rattle.std.proofs.lemmas.Int.{ints}
use Rattle.laws.specs.Numbers.{distance}

-- |a − b|, for two naturals
pub abs_minus : (a b : ℕ) → nat_abs (pos a -ℤ pos b) ≡ distance a b
abs_minus a b = omega (arith, ints)

pub abs_minus_le : (x y : ℤ) → nat_abs (x -ℤ y) ≤ nat_abs x + nat_abs y
abs_minus_le x y = omega (arith, ints)
