-- What the parts of the even table's code ask and leave.
use Rattle.std.specs.Prelude.{ℕ, ◌-◌, ◌*◌, ◌^◌, ◌≤◌, ◌<◌, ◌≡◌, Bool, true, false, cond, List, Option, Some, None, length}
use Rattle.laws.specs.Fill.{tab}
use Rattle.reach.specs.Rows.{lit}
use Rattle.even.specs.Even.{Given, worst_step}
use Rattle.even.specs.Paths.{lowest_path}
use Rattle.even.specs.Table.{allowed_at, has_no_table, good_at, feasible, tables_within, lowest_levels, least_worst}
use Rattle.even.specs.Runs.{run_of, AreRuns}
use Rattle.even.specs.Filled.{KeptFrom}

-- what finding the runs asks: a place for each end
pub record RunsAsk (x : Given) (starts ends : List ℕ) : Type 0 where
  pub starts_fit : length x.targets ≤ length starts
  pub ends_fit : length x.targets ≤ length ends

-- the worst step of the lowest levels bounds that of the even table
unfoldable pub first_bound : Given → Option ℕ
first_bound x = cond (has_no_table x) None (Some (worst_step x (lowest_levels x)))

-- the bound, and the runs where some table is allowed
pub record RunsFound (x : Given) (starts ends : List ℕ) (bound : Option ℕ) : Type 0 where
  pub bound_is : bound ≡ first_bound x
  pub runs_are : has_no_table x ≡ false → AreRuns x starts ends

-- level d of the row of p is lit
abbrev pub lit_at : Given → (words : List ℕ) (p d : ℕ) → Bool
lit_at x words p d = lit words (run_of x p) d

-- from the row of p on, the levels lit are those from which an allowed table goes on with no step deviation above k
pub record RowsGood (x : Given) (words : List ℕ) (k p : ℕ) : Type 0 where
  pub lit_good : (q d : ℕ) → p ≤ q → q < length x.targets → d < length x.curve → lit_at x words q d ≡ good_at x k q d

-- the levels lit in the last row are those allowed there
pub record LastLit (x : Given) (words : List ℕ) : Type 0 where
  pub there : 32 * length x.targets ≤ length words
  pub lit_last : (d : ℕ) → d < length x.curve → lit_at x words (length x.targets - 1) d ≡ allowed_at x (length x.targets - 1) d

-- the rows before the last are filled for k, as far as some level was good; and whether one was in all of them
pub record RowsFilled (x : Given) (k : ℕ) (before after : List ℕ) (some : Bool) : Type 0 where
  pub kept : KeptFrom (length x.targets - 1) before after
  pub decides : some ≡ feasible x k
  pub rows : some ≡ true → RowsGood x after k 0

-- the least worst step, with the rows filled for it
pub record Searched (x : Given) (before after : List ℕ) (k : ℕ) : Type 0 where
  pub kept : KeptFrom (length x.targets - 1) before after
  pub least : k ≡ least_worst x
  pub rows : RowsGood x after k 0

-- what writing the table asks: rows filled for k, which some allowed table keeps
pub record WriteAsks (x : Given) (k : ℕ) (words before : List ℕ) : Type 0 where
  pub some : feasible x k ≡ true
  pub rows : RowsGood x words k 0
  pub small : k ≤ 1000 * 2 ^ 26
  pub fits : length x.targets ≤ length before

-- the lowest of the allowed tables whose worst step is at most k
abbrev pub lowest_within : Given → (k : ℕ) → List ℕ
lowest_within x k = tab (lowest_path (tables_within x k)) (length x.targets)
