-- The index range of a display.
-- Assumes nothing.
use mathlib.Core.Path.{◌≡◌, refl}
use mathlib.Core.Bool.{true, false}
use Prim.Native.Nat.{ℕ, ◌+◌, ◌≤◌, ◌<◌}
use native.Mathlib.Omega.{arith}
use Rattle.gsdf.specs.DisplayFunction.{index_of}
use Rattle.gsdf.specs.Ends.{below_table, above_table}
use Rattle.gsdf.proofs.TableRule.{jnd_first, jnd_200, jnd_300, jnd_last}
use Rattle.target.specs.Target.{range_of, too_narrow, clearly_wide}
use Rattle.gsdf.proofs.Laws.{luminance_mono, luminance_whole, index_low, index_high, index_mono, index_max, luminance_index}

module _ (black white : ℕ) where
  pub range_black : (range_of black white).low.0 ≡ index_of black
  unfolding range_of
  range_black = refl

  pub range_white : (range_of black white).high.0 ≡ index_of white
  unfolding range_of
  range_white = refl

  -- Jlo and Jhi are indices
  pub range_low : 100 ≤ (range_of black white).low.0
  unfolding range_of
  range_low = index_low black

  pub range_high : (range_of black white).high.0 ≤ 102300
  unfolding range_of
  range_high = index_high white

  -- N is what lies between them
  pub range_between : 500 ≤ black → black ≤ white → (range_of black white).low.0 + (range_of black white).range.0 ≡ (range_of black white).high.0
  unfolding range_of
  range_between low order = omega (arith, index_mono black white)

-- ---- a display that is clearly wide

-- tests 8, 9 and 10 let it pass
pub record Clear (black white : ℕ) : Type 0 where
  pub from_first : below_table black ≡ false
  pub to_last : above_table white ≡ false
  pub wide : too_narrow (range_of black white).range.0 ≡ false

index_below : (l : ℕ) → 500 ≤ l → l < 82179 → index_of l < 20000
index_below l low h = grind (arith, luminance_whole 20000 refl, jnd_200, luminance_mono 20000 (index_of l), index_high l, luminance_index l)

index_from : (l : ℕ) → 233990 ≤ l → 30000 ≤ index_of l
index_from l h = omega (arith, index_max l 30000, luminance_whole 30000 refl, jnd_300)

pub is_clear : (black white : ℕ) → clearly_wide black white ≡ true → Clear black white
unfolding range_of clearly_wide below_table above_table
is_clear black white e = grind (arith, index_below black, index_from white, jnd_first, jnd_200, jnd_300, jnd_last)
