-- The even table of any curve and any targets, both lists of luminances: the curve's by drive level, the targets' by P-value.
use Rattle.std.specs.Prelude.{ℕ, suc, ◌+◌, ◌-◌, ◌*◌, ◌/◌, ◌≤◌, ◌<◌, ◌≡◌, ◌≢◌, List, length, get_or}
use Rattle.laws.specs.Numbers.{distance, max_of}
use Rattle.laws.specs.Rises.{NeverFalls}

-- what a table is made for
pub record Given : Type 0 where
  -- F(0) to F(M)
  pub curve : List ℕ
  -- t(0) to the last target
  pub targets : List ℕ
  -- w, the allowed error, in thousandths of a target
  pub tolerance : ℕ

abbrev pub F : Given → (d : ℕ) → ℕ
F x d = get_or x.curve d 0

abbrev pub t : Given → (p : ℕ) → ℕ
t x p = get_or x.targets p 0

-- d is allowed at p
abbrev pub AllowedAt : Given → (p d : ℕ) → Type 0
AllowedAt x p d = distance (F x d) (t x p) * 1000 ≤ x.tolerance * t x p

-- levels of the display, one for each P-value, falling or not, that miss no target by more than the allowed error
pub record Within (x : Given) (levels : List ℕ) : Type 0 where
  pub one_each : length levels ≡ length x.targets
  pub level : (p : ℕ) → p < length x.targets → get_or levels p 0 < length x.curve
  pub near : (p : ℕ) → p < length x.targets → AllowedAt x p (get_or levels p 0)

-- an allowed table: such a list that never falls
pub record AllowedTable (x : Given) (table : List ℕ) : Type 0 where
  pub within : Within x table
  pub never_falls : NeverFalls table

-- the step deviation, 1000 × |f − g| / g rounded up
unfoldable pub step_deviation : (f g : ℕ) → ℕ
step_deviation f g = (1000 * distance f g + (g - 1)) / g

-- g at p: what the target rises by from p to the next P-value
abbrev pub target_step : Given → (p : ℕ) → ℕ
target_step x p = t x (suc p) - t x p

-- the step deviation from level d at p to level e at the next P-value, which is not below d
abbrev pub deviation_at : Given → (p d e : ℕ) → ℕ
deviation_at x p d e = step_deviation (F x e - F x d) (target_step x p)

-- the largest step deviation of a table
abbrev pub worst_step : Given → (table : List ℕ) → ℕ
worst_step x table = max_of (λ p. deviation_at x p (get_or table p 0) (get_or table (suc p) 0)) (length x.targets - 1)

-- p is the first place where two lists differ
pub record FirstDifference (a b : List ℕ) (p : ℕ) : Type 0 where
  pub same : (q : ℕ) → q < p → get_or a q 0 ≡ get_or b q 0
  pub differ : get_or a p 0 ≢ get_or b p 0

-- the even table: allowed, of the least worst step, and among those of equal worst step the lower one where they first differ
pub record IsEven (x : Given) (table : List ℕ) : Type 0 where
  pub allowed : AllowedTable x table
  pub least : (other : List ℕ) → AllowedTable x other → worst_step x table ≤ worst_step x other
  pub lower : (other : List ℕ) → AllowedTable x other → worst_step x other ≡ worst_step x table
      → (p : ℕ) → p < length x.targets → FirstDifference table other p → get_or table p 0 < get_or other p 0

-- what is asked of curve, targets and allowed error
pub record Usable (x : Given) : Type 0 where
  pub some_level : 1 ≤ length x.curve
  pub some_target : 1 ≤ length x.targets
  pub curve_keeps : NeverFalls x.curve
  pub targets_rise : (p : ℕ) → suc p < length x.targets → t x p < t x (suc p)
  pub tolerance_high : x.tolerance ≤ 1000
