-- The laws of the targets.
-- Assumes nothing.
use mathlib.Core.Path.{◌≡◌, ap}
use Prim.Native.Nat.{ℕ, ◌+◌, ◌*◌, ◌≤◌, ◌<◌}
use native.Mathlib.Nat.{add-mul-div_right}
use native.Mathlib.Omega.{arith}
use lib.ListN.{length, get_or}
use Rattle.laws.proofs.Numbers.{quotient_mono}
use Rattle.laws.proofs.Fill.{length_tab, get_or_tab}
use Rattle.gsdf.specs.DisplayFunction.{luminance_of}
use Rattle.gsdf.proofs.Laws.{luminance_low, luminance_high, luminance_mono, luminance_strict}
use Rattle.target.specs.Target.{index_at, target_at, targets_of}

module _ (low range top : ℕ) where
  pub index_from : (p : ℕ) → low ≤ index_at low range top p
  unfolding index_at
  index_from p = omega arith

  -- t(0) to t(top) as a list
  pub targets_length : length (targets_of low range top) ≡ top + 1
  unfolding targets_of
  targets_length = length_tab (target_at low range top) (top + 1)

  pub targets_at : (p x : ℕ) → p ≤ top → get_or (targets_of low range top) p x ≡ target_at low range top p
  unfolding targets_of
  targets_at p x h = get_or_tab (target_at low range top) (top + 1) p x (omega arith)

  module _ (first : 100 ≤ low) (last : low + range ≤ 102300) (some : 1 ≤ top) where
    pub index_first : index_at low range top 0 ≡ low
    unfolding index_at
    index_first = grind arith

    pub index_last : index_at low range top top ≡ low + range
    unfolding index_at
    index_last = grind arith

    pub index_mono : (p q : ℕ) → p ≤ q → index_at low range top p ≤ index_at low range top q
    unfolding index_at
    index_mono p q h = grind arith

    pub index_to : (p : ℕ) → p ≤ top → index_at low range top p ≤ 102300
    unfolding index_at
    index_to p h = grind arith

    -- the first target is G(Jlo), the last G(Jlo + N)
    pub target_first : target_at low range top 0 ≡ luminance_of low
    unfolding target_at
    target_first = ap luminance_of index_first

    pub target_last : target_at low range top top ≡ luminance_of (low + range)
    unfolding target_at
    target_last = ap luminance_of index_last

    -- targets never fall
    pub target_mono : (p q : ℕ) → p ≤ q → q ≤ top → target_at low range top p ≤ target_at low range top q
    unfolding target_at
    target_mono p q h l = grind (arith, luminance_mono, index_from, index_mono, index_to)

    -- each is from T(1) to T(1023)
    pub target_low : (p : ℕ) → p ≤ top → 500 ≤ target_at low range top p
    unfolding target_at
    target_low p h = grind (arith, luminance_low, index_from, index_to)

    pub target_high : (p : ℕ) → p ≤ top → target_at low range top p ≤ 39934040
    unfolding target_at
    target_high p h = grind (arith, luminance_high, index_from, index_to)

    -- where top times n indices fit into the range, the index rises by n at least from one P-value to the next
    pub index_apart : (n : ℕ) → n * top ≤ range → (p : ℕ) → index_at low range top p + n ≤ index_at low range top (p + 1)
    unfolding index_at
    index_apart n fit p =
        omega (arith, add-mul-div_right (range * p) n {z = top} (omega arith), quotient_mono (range * p + n * top) (range * (p + 1)) top (omega arith) (omega arith))

    -- ---- a range that test 10 lets through, and at most 1,024 P-values

    module _ (wide : 10000 ≤ range) (most : top ≤ 1023) where
      -- so targets rise strictly
      pub target_rises : (p q : ℕ) → p < q → q ≤ top → target_at low range top p < target_at low range top q
      unfolding target_at
      target_rises p q h l =
          grind (
            arith,
            luminance_strict (index_at low range top p) (index_at low range top q),
            index_from p,
            index_apart 3 (omega arith) p,
            index_mono (p + 1) q,
            index_to q,
          )
