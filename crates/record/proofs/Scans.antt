-- What `all` finds over a range, and the lamps' test and their sum.
-- Assumes nothing.
use Prim.Native.Nat.{ℕ, zero, suc, ◌+◌, ◌-◌, ◌*◌, ◌≤◌, ◌<◌, zero-le}
use mathlib.Core.Path.{◌≡◌, refl, subst}
use mathlib.Core.Bool.{Bool, true, false}
use mathlib.Core.List.{List, [], ◌∷◌}
use lib.ListN.{length, get_or}
use lib.Dec.{T}
use denote.Param.Members.{Mut}
use native.Mathlib.Omega.{arith}
use Rattle.std.specs.Prelude.{sum, Option, MatchOption, MatchBool}
use Rattle.std.specs.declared.ops.Range.{Range}
use Rattle.std.specs.Fn.{Called}
use Rattle.std.specs.Iterator.{YieldsThen}
use Rattle.std.specs.List.{FoldsTo, range_with_len, AllWithin, HoldsAt}
use Rattle.std.proofs.iter.Yields.{nat_range_steps}
use Rattle.std.proofs.lemmas.Iterator.{YieldsList-from_range, cases_from_all}
use Rattle.std.proofs.lemmas.List.FromFn.{length-range_with_len, get_or-range_with_len}
use Rattle.std.proofs.lemmas.List.Sums.{sum_by-le}
use Rattle.record.specs.Tests.{all_up_to}

pub up_to_at : (m : ℕ) (xs : List ℕ) (i : ℕ) → T (all_up_to m xs) → get_or xs i 0 ≤ m
unfolding all_up_to
up_to_at m [] i t = zero-le
up_to_at m (x ∷ xs) zero t = grind arith
up_to_at m (x ∷ xs) (suc i) t = grind (arith, up_to_at m xs i)

up_to_all : (m : ℕ) (xs : List ℕ) → T (all_up_to m xs) → (i d : ℕ) → i < length xs → get_or xs i d ≤ m
unfolding all_up_to
up_to_all m [] t i d h = absurd (omega arith)
up_to_all m (x ∷ xs) t zero d h = grind arith
up_to_all m (x ∷ xs) t (suc i) d h = grind (arith, up_to_all m xs)

-- the sum of numbers that are at most m
pub sum_up_to : (m : ℕ) (xs : List ℕ) → T (all_up_to m xs) → sum xs ≤ length xs * m
sum_up_to m xs t = sum_by-le (λ x. x) m xs (up_to_all m xs t)

-- `all` over a range, said of the numbers in it and not of a list
pub cases_from_Range : {F : Type 0} {g : Mut F (ℕ × Unit {0}) Bool} (s u : Range ℕ) (f : F) (r : Bool) (Yes No : ℕ → Type 0)
    → (xs : List ℕ) × (o : Option ℕ) × (j : F) × YieldsThen nat_range_steps s xs o u × FoldsTo (λ p x q. Called g p (x, tt) true q) f xs j × MatchOption o (r ≡ true) (λ x. (r ≡ false) × ((h : F) × Called g j (x, tt) false h))
    → ((x : ℕ) (q : F) → Called g f (x, tt) true q → (q ≡ f) × Yes x) → ((x : ℕ) (q : F) → Called g f (x, tt) false q → No x)
    → MatchBool r ((k : ℕ) → s.start ≤ k → k < s.end → Yes k) ((k : ℕ) × (s.start ≤ k) × (k < s.end) × No k)
cases_from_Range s u f r Yes No d yes' no' = by r (cases_from_all u f r Yes No d (YieldsList-from_range s.start s.end _ refl refl) yes' no')
  where
    all : List ℕ
    all = range_with_len s.start (s.end - s.start)

    long : length all ≡ s.end - s.start
    long = length-range_with_len s.start (s.end - s.start)

    at : (k : ℕ) → k < length all → get_or all k 0 ≡ s.start + k
    at k l = get_or-range_with_len s.start (s.end - s.start) k 0 (omega (arith, long))

    by : (b : Bool) → MatchBool b (AllWithin Yes all 0 (length all)) ((k : ℕ) × (k < length all) × HoldsAt No all k)
        → MatchBool b ((k : ℕ) → s.start ≤ k → k < s.end → Yes k) ((k : ℕ) × (s.start ≤ k) × (k < s.end) × No k)
    by true h = λ k a b. subst Yes {x = get_or all (k - s.start) 0} {y = k} (omega (arith, long, at (k - s.start))) (h (k - s.start) 0 (omega arith) (omega (arith, long)))
    by false (k, l, n) = (s.start + k, omega arith, omega (arith, long), subst No (at k l) (n 0))
