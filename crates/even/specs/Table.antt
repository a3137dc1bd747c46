-- The even table, computed.
use Rattle.std.specs.Prelude.{ℕ, suc, ◌-◌, ◌*◌, Bool, ◌&&◌, not, List, leb, length}
use Rattle.laws.specs.Search.{any, lowest}
use Rattle.laws.specs.Numbers.{distance}
use Rattle.laws.specs.Fill.{tab}
use Rattle.even.specs.Even.{Given, F, t, deviation_at, worst_step}
use Rattle.even.specs.Paths.{Layers, good, lowest_path}

-- d is allowed at p
unfoldable pub allowed_at : Given → (p d : ℕ) → Bool
allowed_at x p d = leb (distance (F x d) (t x p) * 1000) (x.tolerance * t x p)

-- no level is allowed at p
abbrev pub no_level : Given → (p : ℕ) → Bool
no_level x p = not (any (allowed_at x p) (length x.curve))

-- some P-value has no allowed level
unfoldable pub has_no_table : Given → Bool
has_no_table x = any (no_level x) (length x.targets)

-- from level d at p to level e at the next P-value: no fall, and no step deviation above k
unfoldable pub step_within : Given → (k p d e : ℕ) → Bool
step_within x k p d e = leb d e && leb (deviation_at x p d e) k

-- the allowed tables whose worst step is at most k are the paths through these layers
abbrev pub tables_within : Given → (k : ℕ) → Layers
tables_within x k = record {
  stands = allowed_at x;
  follows = step_within x k;
  levels = length x.curve;
  last = length x.targets - 1;
}

-- from level d at p an allowed table goes on to the last P-value with no step deviation above k
abbrev pub good_at : Given → (k p d : ℕ) → Bool
good_at x k p d = good (tables_within x k) p d

-- some allowed table has a worst step of at most k
unfoldable pub feasible : Given → (k : ℕ) → Bool
feasible x k = any (good_at x k 0) (length x.curve)

-- the lowest allowed level of each P-value. Where each has one they are an allowed table, since the lower end of the band around a target rises with it;
-- so no more than its worst step has to be searched
unfoldable pub lowest_levels : Given → List ℕ
lowest_levels x = tab (λ p. lowest (allowed_at x p) (length x.curve)) (length x.targets)

-- the least worst step of all allowed tables
unfoldable pub least_worst : Given → ℕ
least_worst x = lowest (feasible x) (suc (worst_step x (lowest_levels x)))

-- the lowest of the tables that have it
unfoldable pub even_table : Given → List ℕ
even_table x = tab (lowest_path (tables_within x (least_worst x))) (length x.targets)
