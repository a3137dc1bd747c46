-- The table that is computed is the even table, no other list is, and there is none exactly when no list keeps within the error.
-- Assumes nothing.
use Prim.Native.Nat.{ℕ, zero, suc, ◌-◌, ◌≤◌, ◌<◌, zero-le}
use mathlib.Core.Path.{◌≡◌}
use mathlib.Core.Logic.{◌↔◌}
use mathlib.Core.Bool.{not}
use mathlib.Core.List.{List}
use native.Mathlib.Nat.{le_refl}
use native.Mathlib.Omega.{arith}
use lib.Dec.{T}
use lib.ListN.{length, get_or}
use lib.Seq.{ext_get_or}
use Rattle.laws.specs.Search.{any, lowest}
use Rattle.laws.specs.Fill.{tab}
use Rattle.laws.proofs.Search.{any_intro, lowest_passes, lowest_le, lowest_is, lowest_under}
use Rattle.laws.proofs.Numbers.{max_at, max_le}
use Rattle.laws.proofs.Fill.{length_tab, get_or_tab}
use Rattle.laws.proofs.Rises.{keeps_by_steps}
use Rattle.even.specs.Even.{Given, Within, AllowedTable, deviation_at, worst_step, IsEven, Usable}
use Rattle.even.specs.Paths.{lowest_path}
use Rattle.even.specs.Table.{allowed_at, no_level, has_no_table, step_within, tables_within, feasible, lowest_levels, least_worst, even_table}
use Rattle.even.proofs.Paths.{Path, path_good, lowest_path_lem, lowest_first}
use Rattle.even.proofs.Runs.{allowed_is, is_allowed, lowest_from, run_rises}

module _ (x : Given) where
  -- ---- tables and paths

  -- what is within k is within more
  path_more : (j k : ℕ) (e : ℕ → ℕ) → j ≤ k → Path (tables_within x j) 0 e → Path (tables_within x k) 0 e
  unfolding step_within
  path_more j k e h u = grind arith

  pub feasible_more : (j k : ℕ) → j ≤ k → T (feasible x j) → T (feasible x k)
  unfolding feasible
  feasible_more j k h s =
      let low = lowest_path_lem (tables_within x j) s in
      any_intro _ (length x.curve) _ (low.level 0 zero-le zero-le)
      (path_good (tables_within x k) _ 0 zero-le (path_more j k _ h low))

  module _ (u : Usable x) where
    -- an allowed table whose worst step is at most k is a path
    pub table_path : (table : List ℕ) (k : ℕ) → AllowedTable x table → worst_step x table ≤ k → Path (tables_within x k) 0 (λ p. get_or table p 0)
    unfolding step_within
    table_path table k a h =
        let most = max_at (λ p. deviation_at x p (get_or table p 0) (get_or table (suc p) 0)) (length x.targets - 1) in
        grind (arith, is_allowed x)

    module _ (table : List ℕ) (k : ℕ) (path : Path (tables_within x k) 0 (λ p. get_or table p 0)) where
      -- and back
      pub path_allowed : length table ≡ length x.targets → AllowedTable x table
      unfolding step_within
      path_allowed n = record { within = grind (arith, allowed_is x); never_falls = keeps_by_steps table (grind arith) }

      pub path_worst : worst_step x table ≤ k
      unfolding step_within
      path_worst = max_le _ (length x.targets - 1) k (grind arith)

    -- a path's levels as a table
    at_tab : (e : ℕ → ℕ) (p : ℕ) → p ≤ length x.targets - 1 → get_or (tab e (length x.targets)) p 0 ≡ e p
    at_tab e p l = get_or_tab e (length x.targets) p 0 (omega arith)

    path_tab : (k : ℕ) (e : ℕ → ℕ) → Path (tables_within x k) 0 e → Path (tables_within x k) 0 (λ p. get_or (tab e (length x.targets)) p 0)
    path_tab k e v = grind (arith, at_tab e)

    -- ---- no table

    low_level : ℕ → ℕ
    low_level p = lowest (allowed_at x p) (length x.curve)

    -- where each P-value has an allowed level, the lowest of each make an allowed table
    pub low_allowed : ((p : ℕ) → p < length x.targets → T (any (allowed_at x p) (length x.curve))) → AllowedTable x (lowest_levels x)
    unfolding lowest_levels low_level
    low_allowed every = record {
      within = grind (arith, length_tab low_level (length x.targets), at_tab low_level, lowest_under, allowed_is x, lowest_passes);
      never_falls = keeps_by_steps (lowest_levels x) (grind (arith, length_tab low_level (length x.targets), at_tab low_level, lowest_from x u, run_rises u));
    }

    pub every_level : T (not (has_no_table x)) → (p : ℕ) → p < length x.targets → T (any (allowed_at x p) (length x.curve))
    unfolding has_no_table
    every_level s p l = grind (arith, any_intro (no_level x) (length x.targets) p l)

    -- the test passes exactly when no list, falling or not, keeps within the error
    none_within : T (has_no_table x) → (levels : List ℕ) → Within x levels → ⊥
    unfolding has_no_table
    none_within s levels v =
        let p = lowest (no_level x) (length x.targets) in
        let l = lowest_under (no_level x) (length x.targets) s in
        let none = lowest_passes (no_level x) (length x.targets) s in
        grind (arith, any_intro (allowed_at x p) (length x.curve) (get_or levels p 0), is_allowed x p, v.level p, v.near p)

    pub no_list : T (has_no_table x) ↔ ((levels : List ℕ) → Within x levels → ⊥)
    no_list = (none_within, λ h. grind (arith, h (lowest_levels x), low_allowed, every_level))

    -- ---- the least worst step

    table_feasible : (table : List ℕ) (k : ℕ) → AllowedTable x table → worst_step x table ≤ k → T (feasible x k)
    unfolding feasible
    table_feasible table k a h =
        any_intro _ (length x.curve) _ (a.within.level 0 u.some_target)
        (path_good (tables_within x k) _ 0 zero-le (table_path table k a h))

    pub least_below : (table : List ℕ) → AllowedTable x table → least_worst x ≤ worst_step x table
    unfolding least_worst
    least_below table a = lowest_le (feasible x) _ (worst_step x table) (table_feasible table _ a (le_refl _))

    module _ (some : T (not (has_no_table x))) where
      pub bound_feasible : T (feasible x (worst_step x (lowest_levels x)))
      bound_feasible = table_feasible (lowest_levels x) _ (low_allowed (every_level some)) (le_refl _)

      pub least_feasible : T (feasible x (least_worst x))
      unfolding least_worst
      least_feasible =
          lowest_passes (feasible x) (suc (worst_step x (lowest_levels x)))
          (any_intro (feasible x) (suc (worst_step x (lowest_levels x))) (worst_step x (lowest_levels x)) (omega arith) bound_feasible)

      -- ---- the table computed is the even table

      pub even_path : Path (tables_within x (least_worst x)) 0 (lowest_path (tables_within x (least_worst x)))
      unfolding feasible
      even_path = lowest_path_lem (tables_within x (least_worst x)) least_feasible

      even_at : (p : ℕ) → p ≤ length x.targets - 1 → get_or (even_table x) p 0 ≡ lowest_path (tables_within x (least_worst x)) p
      unfolding even_table
      even_at p l = at_tab _ p l

      table_path_even : Path (tables_within x (least_worst x)) 0 (λ p. get_or (even_table x) p 0)
      unfolding even_table
      table_path_even = path_tab (least_worst x) _ even_path

      even_allowed : AllowedTable x (even_table x)
      unfolding even_table
      even_allowed = path_allowed (even_table x) (least_worst x) table_path_even (length_tab _ _)

      -- its worst step is the least of all
      pub even_worst : worst_step x (even_table x) ≡ least_worst x
      even_worst = grind (arith, path_worst (even_table x) (least_worst x) table_path_even, least_below (even_table x) even_allowed)

      even_lowest : (other : List ℕ) → AllowedTable x other → worst_step x other ≡ worst_step x (even_table x)
          → (p : ℕ) → p ≤ length x.targets - 1 → ((q : ℕ) → q < p → get_or (even_table x) q 0 ≡ get_or other q 0) → get_or (even_table x) p 0 ≤ get_or other p 0
      even_lowest other a e p l same =
          rw (even_at p l)
          (lowest_first (tables_within x (least_worst x)) _ (table_path other (least_worst x) a (omega (arith, even_worst))) p l (λ q h. grind (arith, even_at q, same q h)))

      pub even_is : IsEven x (even_table x)
      even_is = grind (arith, even_allowed, least_below, even_worst, even_lowest)

      -- what a search for the least worst step ends with
      pub least_is : (k : ℕ) → k ≤ worst_step x (lowest_levels x) → T (feasible x k) → ((j : ℕ) → j < k → T (feasible x j) → ⊥) → least_worst x ≡ k
      unfolding least_worst
      least_is k h s none = lowest_is (feasible x) _ k (omega arith) s none

  -- ---- no other list is the even table

  module _ (a b : List ℕ) (v : IsEven x a) (w : IsEven x b) where
    same_here : (p : ℕ) → p < length x.targets → ((q : ℕ) → q < p → get_or a q 0 ≡ get_or b q 0) → get_or a p 0 ≡ get_or b p 0
    same_here p l same = grind arith

    same_below : (p : ℕ) → p ≤ length x.targets → (q : ℕ) → q < p → get_or a q 0 ≡ get_or b q 0
    same_below zero l q h = absurd (omega arith)
    same_below (suc p) l q h = grind (arith, same_below p (omega arith), same_here p l)

    pub even_unique : a ≡ b
    even_unique = ext_get_or 0 a b (grind arith) (grind (arith, same_below (length x.targets)))
