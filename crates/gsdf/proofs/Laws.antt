-- The laws of the display function and of its inverse.
-- Assumes nothing.
use mathlib.Core.Path.{◌≡◌}
use Prim.Native.Nat.{ℕ, ◌+◌, ◌-◌, ◌*◌, ◌/◌, ◌%◌, ◌≤◌, ◌<◌}
use native.Mathlib.Omega.{arith}
use lib.Dec.{leb}
use mir.Facts.{yes_leb}
use Rattle.laws.proofs.Numbers.{grows_by, never_falls}
use Rattle.laws.proofs.Search.{largest_low, largest_top, largest_passes, largest_max}
use Rattle.gsdf.specs.DisplayFunction.{jnd_luminance, luminance_after, luminance_of, index_of, IsIndex, InTable}
use Rattle.gsdf.proofs.TableRule.{jnd_rises, jnd_first, jnd_last}
use Rattle.gsdf.proofs.Unrounded.{luminance_rounds, unrounded_grows}

-- ---- what the functions ask: no index and no luminance of the table is left out

pub every_index : (k : ℕ) → 100 ≤ k → k ≤ 102300 → IsIndex k
every_index k a b = record { low = a; high = b }

pub every_luminance : (l : ℕ) → jnd_luminance 1 ≤ l → l ≤ jnd_luminance 1023 → InTable l
every_luminance l a b = record { low = omega (arith, jnd_first); high = omega (arith, jnd_last) }

-- ---- the luminance of an index

-- as document 01 writes it
pub luminance_split : (j r : ℕ) → r < 100
    → luminance_of (100 * j + r) ≡ jnd_luminance j + (jnd_luminance (j + 1) - jnd_luminance j) * r / 100
unfolding luminance_of luminance_after
luminance_split j r h = grind arith

-- where the hundredths are 0, it is the table's
pub luminance_whole : (k : ℕ) → k % 100 ≡ 0 → luminance_of k ≡ jnd_luminance (k / 100)
unfolding luminance_of luminance_after
luminance_whole k e = grind arith

pub luminance_first : luminance_of 100 ≡ jnd_luminance 1
luminance_first = luminance_whole 100 (omega arith)

pub luminance_last : luminance_of 102300 ≡ jnd_luminance 1023
luminance_last = luminance_whole 102300 (omega arith)

-- over n indices it grows by more than 47 × n hundredths of a unit less one unit, for the rounding
pub luminance_far : (k n : ℕ) → 100 ≤ k → k + n ≤ 102300 → 100 * luminance_of k + 47 * n < 100 * luminance_of (k + n) + 100
luminance_far k n l h = omega (arith, luminance_rounds, grows_by unrounded_grows n k)

-- it never falls
pub luminance_mono : (i k : ℕ) → 100 ≤ i → i ≤ k → k ≤ 102300 → luminance_of i ≤ luminance_of k
luminance_mono i k l ik h = omega (arith, luminance_rounds, never_falls unrounded_grows i k)

-- three or more indices on, it rises
pub luminance_strict : (i k : ℕ) → 100 ≤ i → i + 3 ≤ k → k ≤ 102300 → luminance_of i < luminance_of k
luminance_strict i k l ik h = omega (arith, luminance_far i 3, luminance_mono (i + 3) k)

-- it is from T(1) to T(1023)
pub luminance_low : (k : ℕ) → 100 ≤ k → k ≤ 102300 → 500 ≤ luminance_of k
luminance_low k l h = omega (arith, luminance_first, jnd_first, luminance_mono 100 k)

pub luminance_high : (k : ℕ) → 100 ≤ k → k ≤ 102300 → luminance_of k ≤ 39934040
luminance_high k l h = omega (arith, luminance_last, jnd_last, luminance_mono k 102300)

-- ---- the index of a luminance

pub index_low : (l : ℕ) → 100 ≤ index_of l
unfolding index_of
index_low l = largest_low _ 100 102300

pub index_high : (l : ℕ) → index_of l ≤ 102300
unfolding index_of
index_high l = largest_top (λ k. leb (luminance_of k) l) 100 102300 (omega arith)

-- G(J(l)) ≤ l
pub luminance_index : (l : ℕ) → 500 ≤ l → luminance_of (index_of l) ≤ l
unfolding index_of
luminance_index l h = grind (arith, luminance_first, jnd_first, largest_passes (λ k. leb (luminance_of k) l) 100 102300)

-- no larger index has a luminance at most l
pub index_max : (l k : ℕ) → k ≤ 102300 → luminance_of k ≤ l → k ≤ index_of l
unfolding index_of
index_max l k h t = largest_max _ 100 102300 k (omega arith) h (yes_leb t)

-- past J(l) the luminance is above l
pub luminance_past : (l k : ℕ) → index_of l < k → k ≤ 102300 → l < luminance_of k
luminance_past l k a b = grind (arith, index_max l k)

-- it never falls
pub index_mono : (l m : ℕ) → 500 ≤ l → l ≤ m → index_of l ≤ index_of m
index_mono l m h lm = grind (arith, index_max m (index_of l), index_high, luminance_index)

-- J(G(k)) is at least k
pub index_luminance : (k : ℕ) → k ≤ 102300 → k ≤ index_of (luminance_of k)
index_luminance k h = omega (arith, index_max (luminance_of k) k)

-- it is the one index k with G(k) ≤ l < G(k + 1)
pub index_is : (l k : ℕ) → 100 ≤ k → k < 102300 → luminance_of k ≤ l → l < luminance_of (k + 1) → index_of l ≡ k
index_is l k a b h u = grind (arith, index_max l k, luminance_mono (k + 1) (index_of l), index_high l, luminance_index l, luminance_low k)

-- from T(1023) on it is the last
pub index_last : (l : ℕ) → 39934040 ≤ l → index_of l ≡ 102300
index_last l h = omega (arith, index_high l, index_max l 102300, luminance_last, jnd_last)

-- low and high are the luminances of JND j and of the next, and low ≤ l < high
pub record Between (l j low high : ℕ) : Type 0 where
  pub first : 1 ≤ j
  pub inside : j < 1023
  pub low_is : low ≡ jnd_luminance j
  pub high_is : high ≡ jnd_luminance (j + 1)
  pub at_most : low ≤ l
  pub above : l < high

-- then J(l) = 100 × j + floor((100 × (l − low) + 99) / (high − low))
module _ {l j low high : ℕ} (b : Between l j low high) where
  pub index_between : 100 * j + (100 * (l - low) + 99) / (high - low) ≡ index_of l
  unfolding luminance_of luminance_after
  index_between = grind (arith, jnd_rises j, index_is l (100 * j + (100 * (l - low) + 99) / (high - low)))

-- the indices of luminances that differ by at most u, u at least 1, differ by a k with 47 × (k − 1) < 100 × u
pub index_spread : (l m u k : ℕ) → 500 ≤ m → 1 ≤ u → m ≤ l + u → index_of m ≡ index_of l + k → 47 * (k - 1) < 100 * u
index_spread l m u k hm hu le e =
    grind (arith, index_low l, index_high m, luminance_past l (index_of l + 1), luminance_index m, luminance_far (index_of l + 1) (k - 1))
