-- The table filled entry by entry, with the largest error so far.
-- Assumes nothing.
use Rattle.std.proofs.Common.{◌≡◌, List, ◌++◌, ℕ, ◌+◌, ◌≤◌, ◌<◌, length, get_or, drop, set}
use Rattle.laws.specs.Fill.{tab}
use Rattle.laws.specs.Numbers.{max_of}
use Rattle.laws.proofs.Fill.{fill}
use Rattle.nearest.specs.Nearest.{error_at, nearest_level}
use Rattle.nearest.specs.Places.{NotPast}
use Rattle.nearest.specs.declared.Place.{Place}

-- the entry at p, and its error
abbrev entry_at : (curve targets : List ℕ) (p : ℕ) → ℕ
entry_at curve targets p = nearest_level curve (get_or targets p 0)

abbrev entry_error : (curve targets : List ℕ) (p : ℕ) → ℕ
entry_error curve targets p = error_at curve (get_or targets p 0) (entry_at curve targets p)

-- the first p entries are filled, and the place is not past any later target
pub record Filling (curve targets before table : List ℕ) (largest : ℕ) (place : Place) (p : ℕ) : Type 0 where
  pub inside : p ≤ length targets
  pub of_curve : place.curve.now ≡ curve
  pub table_is : table ≡ tab (entry_at curve targets) p ++ drop p before
  pub largest_is : largest ≡ max_of (entry_error curve targets) p
  pub ahead : (q : ℕ) → p ≤ q → q < length targets → NotPast curve (get_or targets q 0) place

-- one entry more
pub entry_more : (curve targets before : List ℕ) {table : List ℕ} {p d : ℕ} → table ≡ tab (entry_at curve targets) p ++ drop p before → d ≡ entry_at curve targets p → p < length before
    → set table p d ≡ tab (entry_at curve targets) (p + 1) ++ drop (p + 1) before
entry_more curve targets before is e h = rw (is, e) (fill _ _ _ h)
