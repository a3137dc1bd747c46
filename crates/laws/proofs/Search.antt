-- What bounded search finds.
-- Assumes nothing.
use Prim.Native.Nat.{ℕ, zero, suc, ◌+◌, ◌-◌, ◌≤◌, ◌<◌, zero-le, suc-le-suc}
use mathlib.Core.Path.{◌≡◌, refl}
use mathlib.Core.Bool.{Bool, true, false, ◌||◌, ◌&&◌}
use native.Mathlib.Numerals.{add-one}
use native.Mathlib.Omega.{arith}
use lib.Dec.{T}
use Rattle.laws.specs.Search.{any, all, lowest, largest_of, largest}
use Rattle.laws.proofs.Cases.{by, yes_is}

-- ---- upward

pub any_intro : (p : ℕ → Bool) (n i : ℕ) → i < n → T (p i) → T (any p n)
unfolding any
any_intro p zero i h t = absurd (omega arith)
any_intro p (suc n) zero h t = grind arith
any_intro p (suc n) (suc i) h t = grind (arith, any_intro (λ i. p (suc i)) n i)

-- where no number passes, none is found
pub any_none : (p : ℕ → Bool) (n : ℕ) → ((i : ℕ) → i < n → T (p i) → ⊥) → any p n ≡ false
unfolding any
any_none p zero h = refl
any_none p (suc n) h = grind (arith, h zero, any_none (λ i. p (suc i)) n (λ i l. h (suc i) (suc-le-suc l)))

-- and where none is found, no number passes
pub none_of : (p : ℕ → Bool) (n i : ℕ) → any p n ≡ false → i < n → p i ≡ false
none_of p n i e h = grind (arith, any_intro p n i)

pub some_of {ℓ} : {X : Type ℓ} (p : ℕ → Bool) (n : ℕ) → any p n ≡ true → ((i : ℕ) → i < n → p i ≡ true → X) → X
unfolding any
some_of p zero e k = absurd (yes_is e)
some_of p (suc n) e k =
    by (p zero) (k zero (omega arith)) (λ f. some_of (λ i. p (suc i)) n (simp f at e) (λ i h. k (suc i) (suc-le-suc h)))

-- tests that agree find the same
pub any_same : (p q : ℕ → Bool) (n : ℕ) → ((i : ℕ) → i < n → p i ≡ q i) → any p n ≡ any q n
unfolding any
any_same p q zero e = refl
any_same p q (suc n) e = rw (e zero (omega arith), any_same (λ i. p (suc i)) (λ i. q (suc i)) n (λ i h. e (suc i) (suc-le-suc h)))

-- one number more
any_suc : (p : ℕ → Bool) (n : ℕ) → any p (suc n) ≡ any p n || p n
unfolding any
any_suc p zero = grind arith
any_suc p (suc n) = grind (arith, any_suc (λ i. p (suc i)) n)

pub any_next : (p : ℕ → Bool) (n : ℕ) → any p (n + 1) ≡ any p n || p n
any_next p n = rw (add-one n) (any_suc p n)

-- where some number passes, the lowest does
pub lowest_passes : (p : ℕ → Bool) (n : ℕ) → T (any p n) → T (p (lowest p n))
unfolding any lowest
lowest_passes p zero t = absurd t
lowest_passes p (suc n) t = grind (arith, lowest_passes (λ i. p (suc i)) n)

pub lowest_top : (p : ℕ → Bool) (n : ℕ) → lowest p n ≤ n
unfolding lowest
lowest_top p zero = zero-le
lowest_top p (suc n) = grind (arith, lowest_top (λ i. p (suc i)) n)

-- no lower one passes
pub lowest_le : (p : ℕ → Bool) (n i : ℕ) → T (p i) → lowest p n ≤ i
unfolding lowest
lowest_le p zero i t = zero-le
lowest_le p (suc n) zero t = grind arith
lowest_le p (suc n) (suc i) t = grind (arith, lowest_le (λ i. p (suc i)) n i)

-- where some number passes, the lowest is below n
pub lowest_under : (p : ℕ → Bool) (n : ℕ) → T (any p n) → lowest p n < n
unfolding any lowest
lowest_under p zero t = absurd t
lowest_under p (suc n) t = grind (arith, lowest_under (λ i. p (suc i)) n)

-- and where the lowest is below n, it passes
pub lowest_found : (p : ℕ → Bool) (n : ℕ) → lowest p n < n → T (p (lowest p n))
unfolding lowest
lowest_found p zero h = absurd (omega arith)
lowest_found p (suc n) h = grind (arith, lowest_found (λ i. p (suc i)) n)

-- what a search from below ends with
pub lowest_is : (p : ℕ → Bool) (n q : ℕ) → q < n → T (p q) → ((j : ℕ) → j < q → T (p j) → ⊥) → lowest p n ≡ q
lowest_is p n q h t none = grind (arith, none (lowest p n), any_intro p n q, lowest_passes p n, lowest_le p n q)

-- ---- every number

module _ (p : ℕ → Bool) where
  pub all_next : (n : ℕ) → all p (n + 1) ≡ all p n && p n
  unfolding all
  all_next n = rw add-one

  pub all_of : (n i : ℕ) → all p n ≡ true → i < n → p i ≡ true
  unfolding all
  all_of zero i e h = absurd (omega arith)
  all_of (suc n) i e h = grind (arith, all_of n i)

  pub all_intro : (n : ℕ) → ((i : ℕ) → i < n → p i ≡ true) → all p n ≡ true
  unfolding all
  all_intro zero h = refl
  all_intro (suc n) h = grind (arith, h n, all_intro n (λ i l. h i (omega arith)))

  -- where not every number passes, some does not
  pub not_all {ℓ} : {X : Type ℓ} (n : ℕ) → all p n ≡ false → ((i : ℕ) → i < n → p i ≡ false → X) → X
  unfolding all
  not_all zero e k = absurd (cc)
  not_all (suc n) e k = by (p n) (λ t. not_all n (grind arith) (λ i l. k i (omega arith))) (k n (omega arith))

-- ---- downward

module _ (p : ℕ → Bool) (lo : ℕ) where
  of_low : (n : ℕ) → lo ≤ largest_of p lo n
  unfolding largest_of
  of_low zero = omega arith
  of_low (suc n) = grind (arith, of_low n)

  of_top : (n : ℕ) → largest_of p lo n ≤ lo + n
  unfolding largest_of
  of_top zero = omega arith
  of_top (suc n) = grind (arith, of_top n)

  of_max : (n i : ℕ) → i ≤ lo + n → T (p i) → i ≤ largest_of p lo n
  unfolding largest_of
  of_max zero i l h = omega arith
  of_max (suc n) i l h = grind (arith, of_max n i)

  of_passes : (n : ℕ) → T (p lo) → T (p (largest_of p lo n))
  unfolding largest_of
  of_passes zero h = h
  of_passes (suc n) h = grind (arith, of_passes n)

  module _ (hi : ℕ) where
    pub largest_low : lo ≤ largest p lo hi
    largest_low = of_low (hi - lo)

    pub largest_top : lo ≤ hi → largest p lo hi ≤ hi
    largest_top h = omega (arith, of_top (hi - lo))

    -- where the first number passes, the largest does
    pub largest_passes : T (p lo) → T (p (largest p lo hi))
    largest_passes h = of_passes (hi - lo) h

    -- no larger one passes
    pub largest_max : (i : ℕ) → lo ≤ hi → i ≤ hi → T (p i) → i ≤ largest p lo hi
    largest_max i h l t = of_max (hi - lo) i (omega arith) t
