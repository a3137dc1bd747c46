-- Products that `omega` does not take apart, functions that grow at every step, and the largest of some numbers.
-- Assumes nothing.
use mathlib.Core.Path.{◌≡◌, refl}
use Prim.Native.Nat.{ℕ, zero, suc, ◌+◌, ◌-◌, ◌*◌, ◌/◌, max, ◌≤◌, ◌<◌, zero-le}
use native.Mathlib.Numerals.{add-one}
use native.Mathlib.Omega.{arith}
use Rattle.laws.specs.Numbers.{max_of}

-- a quotient never falls with what is divided
pub quotient_mono : (a b k : ℕ) → 0 < k → a ≤ b → a / k ≤ b / k
quotient_mono a b k pos h = grind arith

-- f grows by at least s at each step from lo to hi
pub record Grows (f : ℕ → ℕ) (s lo hi : ℕ) : Type 0 where
  pub step : (k : ℕ) → lo ≤ k → k < hi → f k + s ≤ f (k + 1)

module _ {f : ℕ → ℕ} {s lo hi : ℕ} (g : Grows f s lo hi) where
  -- over n steps it grows by at least s × n
  pub grows_by : (n k : ℕ) → lo ≤ k → k + n ≤ hi → f k + s * n ≤ f (k + n)
  grows_by zero k l h = grind arith
  grows_by (suc n) k l h = grind (arith, grows_by n k, g.step (k + n))

  -- so it never falls
  pub never_falls : (i k : ℕ) → lo ≤ i → i ≤ k → k ≤ hi → f i ≤ f k
  never_falls i k l ik h = grind (arith, grows_by (k - i) i)

-- ---- the largest of f 0, f 1, .., f (n − 1)

module _ (f : ℕ → ℕ) where
  pub max_next : (n : ℕ) → max_of f (n + 1) ≡ max (max_of f n) (f n)
  unfolding max_of
  max_next n = rw add-one

  -- each is at most the largest
  pub max_at : (n i : ℕ) → i < n → f i ≤ max_of f n
  unfolding max_of
  max_at zero i h = absurd (omega arith)
  max_at (suc n) i h = grind (arith, max_at n i)

  -- and the largest is at most what all are at most
  pub max_le : (n b : ℕ) → ((i : ℕ) → i < n → f i ≤ b) → max_of f n ≤ b
  unfolding max_of
  max_le zero b h = zero-le
  max_le (suc n) b h = grind (arith, h n, max_le n b (λ i l. h i (omega arith)))

-- equal numbers have an equal largest one
pub max_same : (f g : ℕ → ℕ) (n : ℕ) → ((i : ℕ) → i < n → f i ≡ g i) → max_of f n ≡ max_of g n
unfolding max_of
max_same f g zero e = refl
max_same f g (suc n) e = rw (max_same f g n (λ i l. e i (omega arith)), e n (omega arith))
