-- Paths through layers: `good` says where one goes on, and the lowest path is one, no other being lower where they first differ.
-- Assumes nothing.
use Prim.Native.Nat.{ℕ, zero, suc, ◌+◌, ◌-◌, ◌≤◌, ◌<◌, zero-le}
use mathlib.Core.Path.{◌≡◌}
use mathlib.Core.Bool.{◌&&◌}
use native.Mathlib.Nat.{sub_self}
use native.Mathlib.Omega.{arith}
use lib.Dec.{T}
use mir.Facts.{and_yes, yes_and}
use Rattle.laws.specs.Search.{any}
use Rattle.laws.proofs.Search.{any_intro, lowest_passes, lowest_le, lowest_is, lowest_under}
use Rattle.even.specs.Paths.{Layers, continues, good, next, lowest_path}

-- e is a path from layer p to the last
pub record Path (ls : Layers) (p : ℕ) (e : ℕ → ℕ) : Type 0 where
  pub level : (q : ℕ) → p ≤ q → q ≤ ls.last → e q < ls.levels
  pub stands : (q : ℕ) → p ≤ q → q ≤ ls.last → T (ls.stands q (e q))
  pub follows : (q : ℕ) → p ≤ q → q < ls.last → T (ls.follows q (e q) (e (suc q)))

module _ (ls : Layers) where
  -- the later part of a path
  pub path_from : (e : ℕ → ℕ) (p q : ℕ) → p ≤ q → Path ls p e → Path ls q e
  path_from e p q h u = grind (arith, u.level, u.stands, u.follows)

  -- ---- `good`, layer by layer

  pub good_stands : (p d : ℕ) → T (good ls p d) → T (ls.stands p d)
  unfolding good continues
  good_stands p d h = grind arith

  pub good_step : (p d : ℕ) → p < ls.last
      → good ls p d ≡ (ls.stands p d && any (λ e. ls.follows p d e && good ls (suc p) e) ls.levels)
  unfolding good continues
  good_step p d h = grind arith

  pub good_last : (d : ℕ) → good ls ls.last d ≡ ls.stands ls.last d
  unfolding good continues
  good_last d = rw sub_self

  -- a good level has a good level after it
  pub record Next (p d : ℕ) : Type 0 where
    pub level : next ls p d < ls.levels
    pub follows : T (ls.follows p d (next ls p d))
    pub good_on : T (good ls (suc p) (next ls p d))

  pub next_good : (p d : ℕ) → p < ls.last → T (good ls p d) → Next p d
  unfolding next
  next_good p d h g =
      let some = (and_yes _ _ (rw (good_step p d h) at g)).1 in
      let (follows, good_on) = and_yes _ _ (lowest_passes _ ls.levels some) in
      record { level = lowest_under _ ls.levels some; follows = follows; good_on = good_on }

  -- what a search for the next level ends with
  pub next_is : (p d e : ℕ) → e < ls.levels → T (ls.follows p d e) → T (good ls (suc p) e)
      → ((j : ℕ) → j < e → T (ls.follows p d j) → T (good ls (suc p) j) → ⊥) → next ls p d ≡ e
  unfolding next
  next_is p d e h f g none = lowest_is _ ls.levels e h (grind arith) (grind arith)

  -- ---- where a path goes on, the level is good

  path_goes_on : (e : ℕ → ℕ) (n p : ℕ) → n + p ≡ ls.last → Path ls p e → T (continues ls n p (e p))
  unfolding continues
  path_goes_on e zero p h u = u.stands p (omega arith) (omega arith)
  path_goes_on e (suc n) p h u =
      let on = path_goes_on e n (suc p) (omega arith) (path_from e p (suc p) (omega arith) u) in
      yes_and _ _ (u.stands p (omega arith) (omega arith))
      (any_intro _ _ (e (suc p)) (u.level (suc p) (omega arith) (omega arith)) (grind (arith, u.follows p)))

  pub path_good : (e : ℕ → ℕ) (p : ℕ) → p ≤ ls.last → Path ls p e → T (good ls p (e p))
  unfolding good
  path_good e p h u = path_goes_on e (ls.last - p) p (omega arith) u

  -- ---- the lowest path

  record Lowest (p : ℕ) : Type 0 where
    pub level : lowest_path ls p < ls.levels
    pub good_here : T (good ls p (lowest_path ls p))

  lowest_good : T (any (good ls 0) ls.levels) → (p : ℕ) → p ≤ ls.last → Lowest p
  unfolding lowest_path
  lowest_good g zero h = record { level = lowest_under _ ls.levels g; good_here = lowest_passes (good ls 0) ls.levels g }
  lowest_good g (suc p) h = grind (arith, next_good p, lowest_good g p)

  pub lowest_path_lem : T (any (good ls 0) ls.levels) → Path ls 0 (lowest_path ls)
  unfolding lowest_path
  lowest_path_lem g = grind (arith, lowest_good g, good_stands, next_good)

  -- no path is lower where they first differ
  pub lowest_first : (e : ℕ → ℕ) → Path ls 0 e → (p : ℕ) → p ≤ ls.last → ((q : ℕ) → q < p → lowest_path ls q ≡ e q) → lowest_path ls p ≤ e p
  unfolding lowest_path next
  lowest_first e u zero h same = lowest_le _ ls.levels (e 0) (path_good e 0 h u)
  lowest_first e u (suc p) h same = lowest_le _ ls.levels (e (suc p)) (grind (arith, same p, u.follows p, path_good e (suc p) h (path_from e 0 (suc p) zero-le u)))
