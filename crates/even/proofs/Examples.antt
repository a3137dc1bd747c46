-- Examples, computed.
-- Assumes nothing.
use mathlib.Core.Path.{◌≡◌, refl}
use mathlib.Core.List.{[], ◌∷◌}
use Rattle.laws.specs.Search.{any, lowest}
use Rattle.laws.specs.Numbers.{max_of}
use Rattle.laws.specs.Fill.{tab}
use Rattle.even.specs.Even.{Given, step_deviation, worst_step}
use Rattle.even.specs.Paths.{continues, good, next, lowest_path}
use Rattle.even.specs.Table.{allowed_at, has_no_table, step_within, feasible, lowest_levels, least_worst, even_table}
use Rattle.even.specs.Filled.{given, outcome_of}
use Rattle.std.specs.Prelude.{None}

-- ---- the step deviation: document 01's marked examples

pub rounded_up : step_deviation 22 21 ≡ 48
unfolding step_deviation
rounded_up = refl

pub no_step : step_deviation 0 17 ≡ 1000
unfolding step_deviation
no_step = refl

-- ---- small tables

-- levels 1, 3 and 4 are nearest to the targets, with steps of 12 and 5; levels 0, 2 and 4 are allowed too, with two steps of 10
abbrev slanted : Given
slanted = given (97 ∷ 100 ∷ 107 ∷ 112 ∷ 117 ∷ []) (100 ∷ 110 ∷ 120 ∷ []) 30

pub even_steps : even_table slanted ≡ 0 ∷ 2 ∷ 4 ∷ []
unfolding even_table least_worst lowest_levels feasible step_within allowed_at good continues next lowest_path step_deviation any lowest max_of tab
even_steps = refl

-- of two levels with equal luminance the lower one is taken
pub lower_first : even_table (given (10 ∷ 20 ∷ 20 ∷ 30 ∷ []) (10 ∷ 20 ∷ 30 ∷ []) 0) ≡ 0 ∷ 1 ∷ 3 ∷ []
unfolding even_table least_worst lowest_levels feasible step_within allowed_at good continues next lowest_path step_deviation any lowest max_of tab
lower_first = refl

-- no level lies within the error of 20
pub none_near : outcome_of (given (10 ∷ 30 ∷ []) (10 ∷ 20 ∷ 30 ∷ []) 100) ≡ None
unfolding outcome_of has_no_table least_worst lowest_levels feasible step_within allowed_at good continues next lowest_path step_deviation any lowest max_of tab
none_near = refl

-- a step of 7 where 1 is wanted
pub wide_step : worst_step (given (97 ∷ 104 ∷ []) (100 ∷ 101 ∷ []) 30) (0 ∷ 1 ∷ []) ≡ 6000
unfolding max_of step_deviation
wide_step = refl
