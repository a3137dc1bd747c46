-- Steps whose deviation is at most k.
-- Assumes nothing.
use Prim.Native.Nat.{ℕ, suc, ◌+◌, ◌-◌, ◌*◌, ◌/◌, ◌≤◌, ◌<◌}
use mathlib.Core.Path.{◌≡◌}
use native.Mathlib.Nat.{mul-le-mul_left}
use native.Mathlib.Omega.{arith}
use lib.ListN.{length}
use Rattle.std.specs.Int.{div_ceil}
use Rattle.laws.specs.Numbers.{distance}
use Rattle.laws.proofs.Cases.{same_outcome}
use Rattle.reach.specs.Rows.{step_fits}
use Rattle.reach.proofs.Steps.{fits_is, is_fit}
use Rattle.even.specs.Even.{Given, F, step_deviation, target_step, Usable}
use Rattle.even.specs.Table.{step_within}
use Rattle.even.specs.Steps.{least_step, most_step, span_of}

-- and so it is as the library computes it
ceil_is : (a g : ℕ) → 0 < g → div_ceil a g ≡ (a + (g - 1)) / g
ceil_is a g h = grind arith

pub deviation_is : (f g a r : ℕ) → 0 < g → a ≡ distance f g → r ≡ div_ceil (1000 * a) g → r ≡ step_deviation f g
unfolding step_deviation
deviation_is f g a r h d e = rw (e, d) (ceil_is _ g h)

pub deviation_span : (f g k : ℕ) → 0 < g → step_deviation f g ≤ k → (least_step k g ≤ f) × (f ≤ most_step k g)
unfolding step_deviation
deviation_span f g k h l = grind arith

pub span_deviation : (f g k : ℕ) → 0 < g → least_step k g ≤ f → f ≤ most_step k g → step_deviation f g ≤ k
unfolding step_deviation
span_deviation f g k h l m = grind arith

-- a step deviation is at most 1000 times the larger of the two steps
pub deviation_top : (f g n : ℕ) → 0 < g → f ≤ n → g ≤ n → step_deviation f g ≤ 1000 * n
unfolding step_deviation
deviation_top f g n h a b = grind (arith, mul-le-mul_left (1000 * n) h)

module _ (x : Given) (u : Usable x) (k p : ℕ) (l : suc p < length x.targets) where
  pub step_rises : 0 < target_step x p
  step_rises = omega (arith, u.targets_rise p l)

  -- the test on a step, by its least and its largest luminance
  pub step_fits_lem : (d e : ℕ) → e < length x.curve
      → step_within x k p d e ≡ step_fits x.curve (span_of x k p) d e
  unfolding step_within
  step_fits_lem d e h =
      let up = u.curve_keeps.keeps d e in
      let least = deviation_span (F x e - F x d) (target_step x p) k step_rises in
      let most = span_deviation (F x e - F x d) (target_step x p) k step_rises in
      same_outcome _ _ (λ s. is_fit (grind arith)) (λ s. grind (arith, fits_is s))
