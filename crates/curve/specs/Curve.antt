-- The characteristic curve of a display: a luminance for each drive level, from the DDLs and the luminances of a sweep.
use Rattle.std.specs.Prelude.{ℕ, ◌+◌, ◌-◌, ◌*◌, ◌/◌, ◌≤◌, ◌<◌, ◌≡◌, List, length, get_or, leb}
use Rattle.laws.specs.Search.{lowest}
use Rattle.laws.specs.Fill.{tab}
use Rattle.laws.specs.Rises.{NeverFalls}

-- the luminance at level d between the readings (d1, l1) and (d2, l2): l1 + floor((l2 − l1) × (d − d1) / (d2 − d1))
unfoldable pub interpolate : (d1 l1 d2 l2 d : ℕ) → ℕ
interpolate d1 l1 d2 l2 d = l1 + (l2 - l1) * (d - d1) / (d2 - d1)

-- the first pair of neighbours that ends at level d or above it, by the place of its first reading
unfoldable pub pair_at : (ddls : List ℕ) (d : ℕ) → ℕ
pair_at ddls d = lowest (λ i. leb d (get_or ddls (i + 1) 0)) (length ddls - 1)

-- the luminance at level d by the pair of neighbours at place i
unfoldable pub by_pair : (ddls luminances : List ℕ) (i d : ℕ) → ℕ
by_pair ddls luminances i d = interpolate (get_or ddls i 0) (get_or luminances i 0) (get_or ddls (i + 1) 0) (get_or luminances (i + 1) 0) d

-- F of document 01, for A, a sweep and a level from 0 to M
unfoldable pub curve_at : (added : ℕ) (ddls luminances : List ℕ) (d : ℕ) → ℕ
curve_at added ddls luminances d = added + by_pair ddls luminances (pair_at ddls d) d

-- F(0) to F(top); top is M of document 01
unfoldable pub curve_of : (added : ℕ) (ddls luminances : List ℕ) (top : ℕ) → List ℕ
curve_of added ddls luminances top = tab (curve_at added ddls luminances) (top + 1)

-- a sweep over the levels from 0 to top = M, of two readings or more
pub record Sweep (ddls luminances : List ℕ) (top : ℕ) : Type 0 where
  pub some : 2 ≤ length ddls
  pub pairs : length luminances ≡ length ddls
  pub first : get_or ddls 0 0 ≡ 0
  pub last : get_or ddls (length ddls - 1) 0 ≡ top
  pub rise : (i : ℕ) → i + 1 < length ddls → get_or ddls i 0 < get_or ddls (i + 1) 0
  pub keep : NeverFalls luminances
