-- `floor_of` is the floor: the largest whole number whose product with d is at most z.
-- Assumes nothing.
use Prim.Native.Nat.{ℕ, ◌*◌, ◌^◌, ◌<◌}
use native.Mathlib.Nat.{div-lt_iff_lt-mul}
use native.Mathlib.Omega.{arith}
use lib.IntN.{ℤ, pos, nat_abs, suc_ℤ, ◌*ℤ◌}
use lib.Signed.{◌≤ℤ◌, ◌<ℤ◌}
use mir.Syntax.{Width}
use mir.Val.{SFits, hbits}
use Rattle.std.proofs.lemmas.Int.{ints}
use Rattle.contrast.specs.Deviation.{floor_of}

pub floor_le : (z : ℤ) (d : ℕ) → 0 < d → (floor_of z d *ℤ pos d) ≤ℤ z
floor_le z d h = grind arith

pub floor_lt : (z : ℤ) (d : ℕ) → 0 < d → z <ℤ (suc_ℤ (floor_of z d) *ℤ pos d)
floor_lt z d h = grind (arith, ints)

-- how large it is
pub floor_fits : (w : Width) (z : ℤ) (d : ℕ) → 0 < d → nat_abs z < 2 ^ hbits w * d → SFits w (floor_of z d)
floor_fits w z d h k = record { sfits = grind (arith, div-lt_iff_lt-mul) }
