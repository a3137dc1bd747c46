-- The nearest table of any curve and any targets, both lists of luminances: the curve's by drive level, the targets' by P-value.
use Rattle.std.specs.Prelude.{ℕ, ◌≤◌, ◌≡◌, List, ◌++◌, Bool, not, length, get_or, drop, ltb}
use Rattle.laws.specs.Search.{any, lowest}
use Rattle.laws.specs.Numbers.{distance, max_of}
use Rattle.laws.specs.Fill.{tab}
use Rattle.laws.specs.Rises.{NeverFalls}

-- |F(d) − t|
abbrev pub error_at : (curve : List ℕ) (t d : ℕ) → ℕ
error_at curve t d = distance (get_or curve d 0) t

-- level e is nearer to t than level d
abbrev pub nearer : (curve : List ℕ) (t d e : ℕ) → Bool
nearer curve t d e = ltb (error_at curve t e) (error_at curve t d)

-- the lowest level than which no other is nearer to t
unfoldable pub nearest_level : (curve : List ℕ) (t : ℕ) → ℕ
nearest_level curve t = lowest (λ d. not (any (nearer curve t d) (length curve))) (length curve)

-- the entry of each P-value
unfoldable pub nearest_table : (curve targets : List ℕ) → List ℕ
nearest_table curve targets = tab (λ p. nearest_level curve (get_or targets p 0)) (length targets)

-- the largest |F(d) − t(P)| of a table, d its entry at P
unfoldable pub largest_error : (curve targets table : List ℕ) → ℕ
largest_error curve targets table = max_of (λ p. error_at curve (get_or targets p 0) (get_or table p 0)) (length targets)

-- what is asked of a curve: some level, each a 16-bit number, and luminances that never fall
pub record Walkable (curve : List ℕ) : Type 0 where
  pub some : 1 ≤ length curve
  pub levels : length curve ≤ 65536
  pub never_falls : NeverFalls curve

-- what the table asks: such a curve, targets that never fall, a slice that is long enough
pub record Fillable (curve targets table : List ℕ) : Type 0 where
  pub walkable : Walkable curve
  pub targets_keep : NeverFalls targets
  pub fits : length targets ≤ length table

-- the front of the slice is the table, later entries are as before, and the error is that of the table
pub record Filled (curve targets before after : List ℕ) (error : ℕ) : Type 0 where
  pub table : after ≡ nearest_table curve targets ++ drop (length targets) before
  pub largest : error ≡ largest_error curve targets (nearest_table curve targets)
