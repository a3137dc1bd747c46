-- The marked examples of document 01 for the characteristic curve.
-- Assumes nothing.
use Rattle.std.proofs.Common.{ℕ, ◌≡◌, refl, List, [], ◌∷◌}
use Rattle.laws.specs.Search.{lowest}
use Rattle.curve.specs.Curve.{interpolate, pair_at, by_pair, curve_at}

abbrev ddls : List ℕ
ddls = 0 ∷ 3 ∷ []

abbrev luminances : List ℕ
luminances = 1000 ∷ 1010 ∷ []

pub first_third : curve_at 0 ddls luminances 1 ≡ 1003
unfolding curve_at by_pair pair_at interpolate lowest
first_third = refl

pub second_third : curve_at 0 ddls luminances 2 ≡ 1006
unfolding curve_at by_pair pair_at interpolate lowest
second_third = refl
