-- The lowest place of a function's least value: it belongs to no layer.
-- Assumes nothing.
use Rattle.std.proofs.Common.{⊎_elim, ℕ, zero, suc, ◌+◌, ◌≤◌, ◌<◌, add-one, arith}
use Rattle.laws.proofs.Cases.{le_or_lt}

-- the lowest number below n at which f is least
pub record LowestLeast (f : ℕ → ℕ) (n d : ℕ) : Type 0 where
  pub inside : d < n
  pub least : (e : ℕ) → e < n → f d ≤ f e
  pub first : (e : ℕ) → e < d → f d < f e

module _ {f : ℕ → ℕ} {n d : ℕ} (h : LowestLeast f n d) where
  least_kept : f d ≤ f n → LowestLeast f (n + 1) d
  least_kept l = grind arith

  least_moved : f n < f d → LowestLeast f (n + 1) n
  least_moved l = grind arith

pub record SomeLeast (f : ℕ → ℕ) (n : ℕ) : Type 0 where
  pub at : ℕ
  pub is : LowestLeast f n at

-- where there is a number below n, there is one
pub some_least : (f : ℕ → ℕ) (n : ℕ) → SomeLeast f (suc n)
some_least f zero = record { at = 0; is = grind arith }
some_least f (suc n) =
    let s = some_least f n in
    rw (← add-one (suc n))
    (⊎_elim
    (λ l. record { at = s.at; is = least_kept s.is l })
    (λ l. record { at = suc n; is = least_moved s.is l })
    (le_or_lt (f s.at) (f (suc n))))
