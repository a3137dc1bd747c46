-- The laws of the contrast check: what tests 12 and 13 let through, the expected luminances, and the deviations.
-- Assumes nothing.
use mathlib.Core.Path.{◌≡◌, refl}
use mathlib.Core.Bool.{false, ◌||◌}
use Prim.Native.Nat.{ℕ, ◌+◌, ◌*◌, ◌≤◌, ◌<◌}
use native.Mathlib.Omega.{arith}
use lib.IntN.{pos}
use lib.ListN.{length, get_or}
use mir.Syntax.{w32}
use mir.Val.{SFits}
use Rattle.std.proofs.lemmas.Int.{ints}
use Rattle.laws.proofs.Search.{none_of}
use Rattle.laws.proofs.Fill.{length_tab, get_or_tab}
use Rattle.gsdf.specs.DisplayFunction.{InTable}
use Rattle.gsdf.specs.Ends.{below_table, above_table}
use Rattle.gsdf.proofs.Ends.{not_below, not_above}
use Rattle.gsdf.proofs.Laws.{luminance_far, luminance_mono, index_low, index_high}
use Rattle.target.specs.Target.{range_of, too_narrow, index_at, target_at, Aims}
use Rattle.target.specs.declared.IndexRange.{IndexRange}
use Rattle.target.proofs.Laws.{index_from, index_to, index_apart, target_high}
use Rattle.contrast.specs.Deviation.{deviation_of}
use Rattle.contrast.specs.Check.{some_outside, check_range, check_too_narrow, expected_luminance, expected, at_pair, deviations_of, Covers, Pair}
use Rattle.contrast.proofs.Bounds.{per_mille_fits}

-- ---- tests 12 and 13

-- where test 12 finds none outside, each luminance is in the table
pub all_inside : (v : ℕ → ℕ) → some_outside v ≡ false → (i : ℕ) → i < 18 → InTable (v i)
unfolding some_outside
all_inside v e i h = grind (arith, none_of (λ i. below_table (v i) || above_table (v i)) 18 i e h, not_below, not_above)

-- test 13 asks whether the last index is less than 10,000 above the first; the code asks it of N, which is 0 where the last index is the lower
pub narrow_is : (v : ℕ → ℕ) → too_narrow (range_of (v 0) (v 17)).range.0 ≡ check_too_narrow v
unfolding range_of check_too_narrow check_range
narrow_is v = grind (arith, ints, index_low)

-- what passes both covers the range of its ends
pub covers : (v : ℕ → ℕ) → some_outside v ≡ false → check_too_narrow v ≡ false → Covers v (range_of (v 0) (v 17))
unfolding range_of check_too_narrow check_range
covers v e n = record { inside = all_inside v e; is = refl; wide = grind (arith, ints) }

-- ---- the targets in a range of indices: where n indices fit into each step, a target is more than (47 × n − 100) / 100 above the one before

luminance_next : (first range steps n : ℕ) → 100 ≤ first → first + range ≤ 102300 → 1 ≤ steps → n * steps ≤ range → (i : ℕ) → i < steps
    → 100 * target_at first range steps i + 47 * n < 100 * target_at first range steps (i + 1) + 100
unfolding target_at
luminance_next first range steps n low high some fit i h =
    grind (arith, index_apart, index_to, index_from, luminance_far (index_at first range steps i) n, luminance_mono (index_at first range steps i + n))

-- ---- a check that passes both tests

module _ {v : ℕ → ℕ} {indices : IndexRange} (s : Covers v indices) where
  pub aims : {top : ℕ} → 1 ≤ top → top ≤ 1023 → Aims indices.low.0 indices.range.0 top
  unfolding range_of
  aims some most = rw s.is (grind (arith, index_low, index_high))

  aims_17 : Aims indices.low.0 indices.range.0 17
  aims_17 = aims (omega arith) (omega arith)

  pub expected_is : (i : ℕ) → expected_luminance indices.low.0 indices.range.0 i ≡ expected v i
  unfolding expected range_of
  expected_is i = rw s.is

  -- the expected luminances rise by 276 or more from a patch to the next
  pub expected_rises : (i : ℕ) → i < 17 → expected v i + 276 ≤ expected v (i + 1)
  expected_rises i h = grind (arith, expected_is, luminance_next indices.low.0 indices.range.0 17 588, aims_17, s.wide)

  -- two patches are a pair with the luminances expected there
  pub pair_of : (i : ℕ) → i < 17
      → Pair (v i) (v (i + 1)) (expected_luminance indices.low.0 indices.range.0 i) (expected_luminance indices.low.0 indices.range.0 (i + 1))
  pair_of i h = grind (arith, s.inside, target_high, luminance_next indices.low.0 indices.range.0 17 588, aims_17, s.wide)

  -- so each pair has a deviation, and it is a number of 32 bits
  pub pair_at_lem : (i : ℕ) → i < 17 → Pair (v i) (v (i + 1)) (expected v i) (expected v (i + 1))
  pair_at_lem i h = rw (← expected_is i, ← expected_is (i + 1)) (pair_of i h)

  pub deviation_fits : (i : ℕ) → i < 17 → SFits w32 (at_pair deviation_of v i)
  unfolding at_pair
  deviation_fits i h = per_mille_fits (pair_at_lem i h)

-- ---- the 17 deviations as a list

pub deviations_length : (v : ℕ → ℕ) → length (deviations_of v) ≡ 17
unfolding deviations_of
deviations_length v = length_tab (at_pair deviation_of v) 17

pub deviations_at : (v : ℕ → ℕ) (i : ℕ) → i < 17 → get_or (deviations_of v) i (pos 0) ≡ at_pair deviation_of v i
unfolding deviations_of
deviations_at v i h = get_or_tab (at_pair deviation_of v) 17 i (pos 0) h
