-- What follows from the promise of the contrast check.
use Rattle.std.specs.Prelude.{ℕ, ◌≤◌, ◌<◌, ◌≡◌, List, ◌⊎◌, ℤ, pos, ◌*ℤ◌, length, get_or, ◌≤ℤ◌, ◌<ℤ◌}
use Rattle.std.proofs.Math.IntN.{suc_ℤ}
use Rattle.record.specs.declared.Job.{Job}
use Rattle.contrast.specs.Deviation.{excess}
use Rattle.contrast.specs.Check.{check_range, at_pair}
use Rattle.contrast.specs.declared.Verdict.{Verdict}
use Rattle.contrast.specs.declared.Verdict.TheVariants.{Pass}
use Rattle.engine.specs.Check.{CheckValues, check_values, check_answer, check_lent, v, scaled_excess, Y, Inside}

-- a check that was judged
pub record JudgedCheck (bytes : List ℕ) (before after : List ℤ) (verdict : Verdict) : Type 0 where
  -- the job is sound, its 18 luminances lie in the table
  pub job : Job
  pub inside : Inside bytes before job
  -- and Nc is 10,000 or more
  pub wide : pos 10000 ≤ℤ check_range (v bytes job)
  -- Y is positive at each pair
  pub positive : (i : ℕ) → i < 17 → 0 < Y bytes job i
  -- place i is the largest whole number whose product with Y is at most 1000 × (X − Y)
  pub at_most : (i : ℕ) → i < 17 → (get_or after i (pos 0) *ℤ pos (Y bytes job i)) ≤ℤ (pos 1000 *ℤ at_pair excess (v bytes job) i)
  pub largest : (i : ℕ) → i < 17 → (pos 1000 *ℤ at_pair excess (v bytes job) i) <ℤ (suc_ℤ (get_or after i (pos 0)) *ℤ pos (Y bytes job i))
  -- the later places are as before, and as many
  pub size : length after ≡ length before
  pub later : (i : ℕ) → 17 ≤ i → get_or after i (pos 0) ≡ get_or before i (pos 0)
  -- the verdict passes when the limit is kept at every place, and only then
  pub kept : verdict ≡ Pass → (i : ℕ) → i < 17 → scaled_excess bytes job i ≤ Y bytes job i
  pub passed : ((i : ℕ) → i < 17 → scaled_excess bytes job i ≤ Y bytes job i) → verdict ≡ Pass

-- the places and the values are those of the equations
pub record CheckSettled (bytes : List ℕ) (before after : List ℤ) (x : CheckValues) : Type 0 where
  pub places : after ≡ check_lent bytes before
  pub values_are : x ≡ check_values (check_answer bytes (length before))

-- n is 1 to 10, 12 or 13
pub record CheckNumber (n : ℕ) : Type 0 where
  pub is : ((1 ≤ n) × (n ≤ 10)) ⊎ ((n ≡ 12) ⊎ (n ≡ 13))
