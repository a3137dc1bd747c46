-- How large X, Y, X − Y and the deviation of a pair are.
-- Assumes nothing.
use Prim.Native.Nat.{ℕ, ◌+◌, ◌-◌, ◌*◌, ◌≤◌, ◌<◌}
use native.Mathlib.Nat.{mul-le-mul}
use native.Mathlib.Omega.{arith}
use lib.IntN.{pos, nat_abs, ◌*ℤ◌}
use mir.Syntax.{w32, w64}
use mir.Val.{SFits}
use Rattle.laws.specs.Numbers.{distance}
use Rattle.laws.proofs.Signed.{abs_minus, abs_minus_le}
use Rattle.std.proofs.lemmas.Int.{unsigned_abs-mul}
use Rattle.contrast.specs.Deviation.{shown_contrast, expected_contrast, excess, deviation_of}
use Rattle.contrast.specs.Check.{Pair}
use Rattle.contrast.proofs.Floor.{floor_fits}

module _ {p s c h : ℕ} (st : Pair p s c h) where
  pub expected_top : expected_contrast p s c h ≤ 39934040 * 79868080
  unfolding expected_contrast
  expected_top = grind arith

  pub expected_pos : 0 < expected_contrast p s c h
  unfolding expected_contrast
  expected_pos = grind arith

  pair_top : nat_abs (shown_contrast p s c h) ≤ 39934040 * 79868080
  unfolding shown_contrast
  pair_top = grind (arith, unsigned_abs-mul, abs_minus)

  -- |X| = |s − p| × (h + c) ≤ (s + p) × (289,378 × (h − c)), for h + c is at most 79,868,080 and h − c at least 276
  shown_by_expected : nat_abs (shown_contrast p s c h) ≤ 289378 * expected_contrast p s c h
  unfolding shown_contrast expected_contrast
  shown_by_expected =
      let m : distance s p * (h + c) ≤ (s + p) * (289378 * (h - c)) = mul-le-mul (omega arith) (omega arith) in
      grind (arith, unsigned_abs-mul, abs_minus)

  excess_by_expected : nat_abs (excess p s c h) ≤ 289379 * expected_contrast p s c h
  unfolding excess
  excess_by_expected = omega (arith, abs_minus_le, shown_by_expected)

  pub excess_top : nat_abs (excess p s c h) ≤ 39934040 * 79868080 * 2
  unfolding excess
  excess_top = omega (arith, abs_minus_le, pair_top, expected_top)

  -- X − Y and 1,000 times that are numbers of 64 bits, and the deviation is one of 32
  pub excess_fits : SFits w64 (excess p s c h)
  excess_fits = grind (arith, excess_top)

  pub thousand_fits : SFits w64 (pos 1000 *ℤ excess p s c h)
  thousand_fits = grind (arith, unsigned_abs-mul, excess_top)

  pub per_mille_fits : SFits w32 (deviation_of p s c h)
  unfolding deviation_of
  per_mille_fits = floor_fits _ _ _ expected_pos (omega (arith, unsigned_abs-mul, excess_by_expected, expected_pos))
