-- A rule of a whole list by one test: each entry is at least s above the one before it.
-- Assumes nothing.
use mathlib.Core.List.{List, [], ◌∷◌}
use Prim.Native.Nat.{ℕ, zero, suc, ◌+◌, ◌-◌, ◌≤◌, ◌<◌}
use native.Mathlib.Omega.{arith}
use native.Mathlib.Nat.{le_of_suc-le-suc}
use lib.Dec.{T}
use lib.ListN.{length, get_or}
use Rattle.laws.specs.Rises.{rises_from, rises_by, NeverFalls}
use Rattle.laws.specs.Fill.{tab}
use Rattle.laws.proofs.Fill.{length_tab, get_or_tab}
use Rattle.laws.proofs.Numbers.{Grows, never_falls}

from_at : (s x : ℕ) (ys : List ℕ) → T (rises_from s x ys) → (i : ℕ) → i < length ys → get_or (x ∷ ys) i 0 + s ≤ get_or ys i 0
unfolding rises_from
from_at s x [] t i h = absurd (omega arith)
from_at s x (y ∷ ys) t zero h = grind arith
from_at s x (y ∷ ys) t (suc i) h = grind (arith, from_at s y ys)

-- where the test passes, the rule holds at each place
pub rises_at : (s : ℕ) (xs : List ℕ) → T (rises_by s xs) → (i : ℕ) → suc i < length xs → get_or xs i 0 + s ≤ get_or xs (suc i) 0
unfolding rises_by
rises_at s [] t i h = absurd (omega arith)
rises_at s (x ∷ xs) t i h = from_at s x xs t i (le_of_suc-le-suc h)

-- where no element is below the one before it, none is below an earlier one
pub keeps_by_steps : (xs : List ℕ) → ((i : ℕ) → i + 1 < length xs → get_or xs i 0 ≤ get_or xs (i + 1) 0) → NeverFalls xs
keeps_by_steps xs h =
    let grows : Grows (λ i. get_or xs i 0) 0 0 (length xs - 1) = grind (arith, h) in
    grind (arith, never_falls grows)

-- a list of a function's values never falls where the function does not
pub tab_keeps : (f : ℕ → ℕ) (n : ℕ) → ((i k : ℕ) → i ≤ k → k < n → f i ≤ f k) → NeverFalls (tab f n)
tab_keeps f n h = grind (arith, h, length_tab, get_or_tab f n)
