-- Bounded search with a test on numbers.
-- A `let` leaves the rest of a search uncomputed until it is needed, so that an example stops at the number found.
use Rattle.std.specs.Prelude.{ℕ, zero, suc, ◌+◌, ◌-◌, Bool, true, false, cond, ◌||◌, ◌&&◌}

-- some number below n passes the test
unfoldable pub any : (ℕ → Bool) → ℕ → Bool
any p zero = false
any p (suc n) = let rest = any (λ i. p (suc i)) n in p zero || rest

-- the lowest number below n that passes the test; n where none does
unfoldable pub lowest : (ℕ → Bool) → ℕ → ℕ
lowest p zero = zero
lowest p (suc n) = let rest = suc (lowest (λ i. p (suc i)) n) in cond (p zero) zero rest

-- the largest of lo, lo + 1, .., lo + n that passes the test; lo where none does
unfoldable pub largest_of : (ℕ → Bool) → ℕ → ℕ → ℕ
largest_of p lo zero = lo
largest_of p lo (suc n) = let rest = largest_of p lo n in cond (p (lo + suc n)) (lo + suc n) rest

-- the largest number from lo to hi that passes the test; lo where none does
abbrev pub largest : (ℕ → Bool) → ℕ → ℕ → ℕ
largest p lo hi = largest_of p lo (hi - lo)

-- each number below n passes the test
unfoldable pub all : (ℕ → Bool) → ℕ → Bool
all p zero = true
all p (suc n) = all p n && p n
