-- The even table's outcome in bare numbers.
use Rattle.std.specs.Prelude.{ℕ, ◌≡◌, List, Option, Some, None}
use Rattle.even.specs.Even.{Given}
use Rattle.even.specs.Filled.{outcome_of, EvenFilled}
use Rattle.even_values.specs.declared.EvenNumbers.{EvenNumbers}

-- 1 and the worst step, or 0 and 0
abbrev pub numbers_of : Option ℕ → EvenNumbers
numbers_of (Some worst) = record { made = 1; worst = worst }
numbers_of None = record { made = 0; worst = 0 }

-- what a call promises of its result and of the entries and words after it
pub record ValuesFilled (x : Given) (before after words words_after : List ℕ) (r : EvenNumbers) : Type 0 where
  pub numbers : r ≡ numbers_of (outcome_of x)
  pub filled : EvenFilled x before after words words_after (outcome_of x)
