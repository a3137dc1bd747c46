-- Distances, and the largest of some numbers.
use Rattle.std.specs.Prelude.{ℕ, zero, suc, ◌+◌, ◌-◌, max}

-- |a − b|
abbrev pub distance : ℕ → ℕ → ℕ
distance a b = (a - b) + (b - a)

-- the largest of f 0, f 1, .., f (n − 1); 0 where n is 0
unfoldable pub max_of : (ℕ → ℕ) → ℕ → ℕ
max_of f zero = 0
max_of f (suc n) = max (max_of f n) (f n)
