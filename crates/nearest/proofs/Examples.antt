-- The marked examples of document 01 for the nearest level.
-- Assumes nothing.
use Rattle.std.proofs.Common.{ℕ, ◌≡◌, refl, List, [], ◌∷◌}
use Rattle.laws.specs.Search.{any, lowest}
use Rattle.nearest.specs.Nearest.{nearest_level}

-- F of the examples
abbrev curve : List ℕ
curve = 10 ∷ 20 ∷ 20 ∷ 30 ∷ []

-- a tie between levels 0, 1 and 2
pub tie_low : nearest_level curve 15 ≡ 0
unfolding nearest_level lowest any
tie_low = refl

pub past_tie : nearest_level curve 16 ≡ 1
unfolding nearest_level lowest any
past_tie = refl

-- a tie between levels 1, 2 and 3
pub tie_plateau : nearest_level curve 25 ≡ 1
unfolding nearest_level lowest any
tie_plateau = refl
