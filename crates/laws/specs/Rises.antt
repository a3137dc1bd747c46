-- Lists that rise.
use Rattle.std.specs.Prelude.{ℕ, ◌+◌, ◌≤◌, ◌<◌, Bool, true, ◌&&◌, List, [], ◌∷◌, leb, length, get_or}

-- x and then each entry of the list is at least s below the one after it
unfoldable pub rises_from : ℕ → ℕ → List ℕ → Bool
rises_from s x [] = true
rises_from s x (y ∷ ys) = leb (x + s) y && rises_from s y ys

-- each entry is at least s above the one before it: 0 for a list that never falls, 1 for one that rises strictly
unfoldable pub rises_by : ℕ → List ℕ → Bool
rises_by s [] = true
rises_by s (x ∷ xs) = rises_from s x xs

-- no element is below an earlier one
pub record NeverFalls (xs : List ℕ) : Type 0 where
  pub keeps : (i k : ℕ) → i ≤ k → k < length xs → get_or xs i 0 ≤ get_or xs k 0
