-- Test 12 reading by reading, and the deviations filled patch by patch.
-- Assumes nothing.
use mathlib.Core.Path.{◌≡◌, sym}
use mathlib.Core.Bool.{Bool, true, false, ◌||◌}
use mathlib.Core.List.{List}
use Prim.Native.Nat.{ℕ, ◌+◌, ◌≤◌, ◌<◌, zero-le}
use native.Mathlib.Omega.{arith}
use lib.IntN.{ℤ}
use lib.ListN.{length, get_or, take, length-take}
use lib.Seq.{get_or-take}
use Rattle.laws.specs.Search.{all}
use Rattle.laws.proofs.Search.{any_intro, any_none}
use Rattle.laws.proofs.Cases.{is_yes, yes_is}
use Rattle.std.specs.Prelude.{MatchBool}
use Rattle.std.specs.List.{HoldsAt, AllWithin}
use Rattle.laws.proofs.Fill.{Filled}
use Rattle.gsdf.specs.Ends.{below_table, above_table}
use Rattle.contrast.specs.Deviation.{deviation_of, keeps_limit}
use Rattle.target.specs.Target.{target_at}
use Rattle.target.specs.declared.IndexRange.{IndexRange}
use Rattle.contrast.specs.Check.{shown, some_outside, at_pair, limit_parts}
use Rattle.contrast.specs.declared.Limit.{Limit}

-- ---- test 12

-- the luminance of a reading is outside the table
abbrev pub off : (added reading : ℕ) → Bool
off added reading = below_table (added + reading) || above_table (added + reading)

-- one of the first 18 is, or none
pub tested_is : (added : ℕ) (readings : List ℕ) → 18 ≤ length readings → (outside : Bool)
    → MatchBool outside ((k : ℕ) × (k < length (take 18 readings)) × HoldsAt (λ x. off added x ≡ true) (take 18 readings) k)
    (AllWithin (λ x. off added x ≡ false) (take 18 readings) 0 (length (take 18 readings)))
    → outside ≡ some_outside (shown added readings)
unfolding some_outside shown
tested_is added readings long true h =
    let l : h.0 < 18 = omega (arith, h.1, length-take 18 readings) in
    sym (is_yes _ (any_intro _ 18 h.0 l (yes_is (rw (get_or-take 18 readings h.0 0 l) at (h.2 0)))))
tested_is added readings long false h =
    let none : (i : ℕ) → i < 18 → off added (get_or readings i 0) ≡ false =
    λ i l. rw (get_or-take 18 readings i 0 l) at (h i 0 zero-le (omega (arith, length-take 18 readings))) in
    sym (any_none _ 18 (λ i l t. rw (none i l) at t))

-- ---- the deviations

-- the first i deviations are filled, each of those pairs is judged, and p and c are the luminances at patch i, where the range has so many steps
pub record Filling (limit : Limit) (v : ℕ → ℕ) (indices : IndexRange) (steps : ℕ) (before places : List ℤ) (kept : Bool) (p c i : ℕ) : Type 0 where
  pub shown_is : p ≡ v i
  pub target_is : c ≡ target_at indices.low.0 indices.range.0 steps i
  pub filled : Filled (at_pair deviation_of v) before places i
  pub kept_is : kept ≡ all (at_pair (keeps_limit (limit_parts limit)) v) i
