-- The contrast check of 18 luminances v(0) to v(17), with the light of the room in them.
use Rattle.std.specs.Prelude.{ℕ, ◌+◌, ◌-◌, ◌≤◌, ◌<◌, ◌≡◌, Bool, cond, ◌||◌, List, ◌++◌, ℤ, pos, ◌-ℤ◌, length, get_or, drop}
use Rattle.std.specs.Int.Signed.{lt_z}
use Rattle.laws.specs.Search.{any, all}
use Rattle.laws.specs.Fill.{tab}
use Rattle.std.specs.declared.result.Result.{Result}
use Rattle.std.specs.declared.result.Result.TheVariants.{Ok, Err}
use Rattle.gsdf.specs.DisplayFunction.{index_of, InTable}
use Rattle.gsdf.specs.Ends.{below_table, above_table}
use Rattle.record.specs.declared.Class.{Class}
use Rattle.record.specs.declared.Class.TheVariants.{Primary, Secondary}
use Rattle.record.specs.declared.Refusal.{Refusal}
use Rattle.record.specs.declared.Refusal.TheVariants.{CheckOutsideTable, CheckRangeTooNarrow}
use Rattle.target.specs.Target.{range_of, target_at}
use Rattle.target.specs.declared.IndexRange.{IndexRange}
use Rattle.contrast.specs.Deviation.{deviation_of, keeps_limit}
use Rattle.contrast.specs.declared.Limit.{Limit}
use Rattle.contrast.specs.declared.Limit.TheVariants.{TenPercent, TwentyPercent}
use Rattle.contrast.specs.declared.Verdict.{Verdict}
use Rattle.contrast.specs.declared.Verdict.TheVariants.{Pass, Fail}

-- the number of a verdict; document 01 has words alone
abbrev pub verdict_number : Verdict → ℕ
verdict_number Pass = 1
verdict_number Fail = 2

-- v(i) of document 01: A and reading i, which is that of the patch shown at P-value 15 × i
unfoldable pub shown : (added : ℕ) (readings : List ℕ) (i : ℕ) → ℕ
shown added readings i = added + get_or readings i 0

-- test 12: one of the luminances is below T(1) or above T(1023)
unfoldable pub some_outside : (v : ℕ → ℕ) → Bool
some_outside v = any (λ i. below_table (v i) || above_table (v i)) 18

-- Nc of document 01, negative where the last luminance has the lower index
unfoldable pub check_range : (v : ℕ → ℕ) → ℤ
check_range v = pos (index_of (v 17)) -ℤ pos (index_of (v 0))

-- test 13: Nc is below 10,000
unfoldable pub check_too_narrow : (v : ℕ → ℕ) → Bool
check_too_narrow v = lt_z (check_range v) (pos 10000)

-- the luminance expected at patch i, in a range of indices that begins at first: the target of the i-th of 17 steps
abbrev pub expected_luminance : (first range i : ℕ) → ℕ
expected_luminance first range i = target_at first range 17 i

-- e(i) of document 01, for an Nc of 10,000 or more
unfoldable pub expected : (v : ℕ → ℕ) (i : ℕ) → ℕ
expected v i = expected_luminance (index_of (v 0)) (index_of (v 17) - index_of (v 0)) i

-- f of p, s, c and h at pair i, the patches i and i + 1: v(i), v(i + 1), e(i) and e(i + 1)
unfoldable pub at_pair {ℓ} : {A : Type ℓ} (f : (p s c h : ℕ) → A) (v : ℕ → ℕ) (i : ℕ) → A
at_pair f v i = f (v i) (v (i + 1)) (expected v i) (expected v (i + 1))

-- the 17 deviations
unfoldable pub deviations_of : (v : ℕ → ℕ) → List ℤ
deviations_of v = tab (at_pair deviation_of v) 17

-- the limits of TG-18
abbrev pub limit_of : Class → Limit
limit_of Primary = TenPercent
limit_of Secondary = TwentyPercent

-- one part in so many of the contrast expected
abbrev pub limit_parts : Limit → ℕ
limit_parts TenPercent = 10
limit_parts TwentyPercent = 5

-- the verdict: each of the 17 pairs keeps the limit
unfoldable pub verdict_of : Limit → (v : ℕ → ℕ) → Verdict
verdict_of limit v = cond (all (at_pair (keeps_limit (limit_parts limit)) v) 17) Pass Fail

-- tests 12 and 13 in their order, then the verdict
unfoldable pub contrast_of : Limit → (v : ℕ → ℕ) → Result Verdict Refusal
contrast_of limit v = cond (some_outside v) (Err CheckOutsideTable) (cond (check_too_narrow v) (Err CheckRangeTooNarrow) (Ok (verdict_of limit v)))

-- the lent places afterwards: the deviations and the later places as they were, or all as they were
unfoldable pub deviations_over : (v : ℕ → ℕ) (before : List ℤ) → List ℤ
deviations_over v before = cond (some_outside v || check_too_narrow v) before (deviations_of v ++ drop 17 before)

-- ---- what the functions ask and promise

-- 18 readings and 17 places
pub record Checkable (readings : List ℕ) (places : List ℤ) : Type 0 where
  pub patches : 18 ≤ length readings
  pub fits : 17 ≤ length places

-- what a check leaves: its answer, and the lent places
pub record Checked (limit : Limit) (v : ℕ → ℕ) (answer : Result Verdict Refusal) (before after : List ℤ) : Type 0 where
  pub answers : answer ≡ contrast_of limit v
  pub places : after ≡ deviations_over v before

-- luminances in the table, and the range from the index of the first to that of the last, which is 10,000 or more
pub record Covers (v : ℕ → ℕ) (indices : IndexRange) : Type 0 where
  pub inside : (i : ℕ) → i < 18 → InTable (v i)
  pub is : indices ≡ range_of (v 0) (v 17)
  pub wide : 10000 ≤ indices.range.0

-- the deviations in front and the later places as they were, and whether each pair keeps the limit
pub record InPlace (limit : Limit) (v : ℕ → ℕ) (kept : Bool) (before after : List ℤ) : Type 0 where
  pub places : after ≡ deviations_of v ++ drop 17 before
  pub verdict : kept ≡ all (at_pair (keeps_limit (limit_parts limit)) v) 17

-- the luminances of a pair: those shown are in the table, and those expected are 276 or more apart, as 588 indices are (10,000 / 17), so that the
-- deviation has 32 bits
pub record Pair (p s c h : ℕ) : Type 0 where
  pub p_in : InTable p
  pub s_in : InTable s
  pub h_top : h ≤ 39934040
  pub rise : c + 276 ≤ h
