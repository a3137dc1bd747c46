-- Tests 12 and 13 as conditions on luminances and on a range.
-- Assumes nothing.
use mathlib.Core.Path.{◌≡◌}
use mathlib.Core.Bool.{true, false, ◌||◌}
use mathlib.Core.Logic.{◌⊎◌, inl, inr, ⊎_elim}
use Prim.Native.Nat.{ℕ, ◌≤◌, ◌<◌}
use lib.IntN.{ℤ, pos}
use lib.Signed.{lt_z, ◌≤ℤ◌, ◌<ℤ◌}
use mir.Facts.{clash}
use borrow.Author.Tests.{lt-ltb}
use native.Mathlib.Omega.{arith}
use Rattle.std.proofs.lemmas.Int.{ints}
use Rattle.laws.proofs.Cases.{is_yes, yes_is, yes_or}
use Rattle.laws.proofs.Search.{any_intro, any_none}
use Rattle.gsdf.specs.DisplayFunction.{jnd_luminance}
use Rattle.gsdf.specs.Ends.{below_table, above_table}
use Rattle.contrast.specs.Check.{some_outside, check_range, check_too_narrow}

-- ---- luminances against the ends of the table

pub past_end : (l : ℕ) → below_table l || above_table l ≡ true → (l < jnd_luminance 1) ⊎ (jnd_luminance 1023 < l)
unfolding below_table above_table
past_end l e = grind arith

pub not_past : (l : ℕ) → below_table l || above_table l ≡ false → (jnd_luminance 1 ≤ l) × (l ≤ jnd_luminance 1023)
unfolding below_table above_table
not_past l e = grind arith

pub not_less : (z : ℤ) (k : ℕ) → lt_z z (pos k) ≡ false → pos k ≤ℤ z
not_less z k e = grind (arith, ints)

less_not : (z : ℤ) (k : ℕ) → pos k ≤ℤ z → lt_z z (pos k) ≡ false
less_not z k h = grind (arith, ints)

-- ---- and back

module _ (v : ℕ → ℕ) where
  pub outside_found : (i : ℕ) → i < 18 → (v i < jnd_luminance 1) ⊎ (jnd_luminance 1023 < v i) → some_outside v ≡ true
  unfolding some_outside below_table above_table
  outside_found i h t =
      is_yes _ (any_intro (λ i. below_table (v i) || above_table (v i)) 18 i h
      (yes_or (below_table (v i)) (above_table (v i)) (⊎_elim (λ b. inl (yes_is (lt-ltb _ _ b))) (λ a. inr (yes_is (lt-ltb _ _ a))) t)))

  pub none_outside : ((i : ℕ) → i < 18 → jnd_luminance 1 ≤ v i) → ((i : ℕ) → i < 18 → v i ≤ jnd_luminance 1023) → some_outside v ≡ false
  unfolding some_outside
  none_outside low high =
      any_none (λ i. below_table (v i) || above_table (v i)) 18
      (λ i h t. ⊎_elim (λ b. clash b (low i h)) (λ a. clash a (high i h)) (past_end (v i) (is_yes _ t)))

  pub is_narrow : check_range v <ℤ pos 10000 → check_too_narrow v ≡ true
  unfolding check_too_narrow
  is_narrow h = is_yes _ h.lt

  pub wide_range : pos 10000 ≤ℤ check_range v → check_too_narrow v ≡ false
  unfolding check_too_narrow
  wide_range h = less_not (check_range v) 10000 h
