-- The least worst step, found by halving.
-- Assumes nothing.
use Prim.Native.Nat.{ℕ, ◌+◌, ◌-◌, ◌*◌, ◌^◌, ◌≤◌, ◌<◌}
use mathlib.Core.Path.{◌≡◌}
use mathlib.Core.Bool.{Bool, true, false, not}
use mathlib.Core.List.{List}
use native.Mathlib.Omega.{arith}
use lib.Dec.{T}
use lib.ListN.{length}
use Rattle.laws.proofs.Cases.{no_is}
use Rattle.laws.proofs.Numbers.{max_le}
use Rattle.even.specs.Even.{Given, AllowedTable, target_step, worst_step}
use Rattle.even.specs.Table.{feasible, has_no_table, lowest_levels, least_worst}
use Rattle.even.specs.Filled.{Workable, KeptFrom}
use Rattle.even.specs.Filling.{RowsGood, RowsFilled, Searched}
use Rattle.even.proofs.Even.{feasible_more, low_allowed, every_level, least_below, bound_feasible, least_is}
use Rattle.even.proofs.Rows.{kept_all, kept_then}
use Rattle.even.proofs.Steps.{deviation_top}

-- a worst step of an allowed table is small
pub worst_top : {x : Given} → Workable x → (table : List ℕ) → AllowedTable x table → worst_step x table ≤ 1000 * 2 ^ 26
worst_top {x} ok table a =
    max_le _ (length x.targets - 1) _
    (λ p l. deviation_top _ (target_step x p) (2 ^ 26) (grind arith) (grind arith) (grind arith))

pub least_small : {x : Given} → Workable x → has_no_table x ≡ false → least_worst x ≤ 1000 * 2 ^ 26
least_small {x} ok some =
    let low = low_allowed x ok.usable (every_level x ok.usable (no_is some)) in
    omega (arith, least_below x ok.usable _ low, worst_top ok _ low)

-- what is left lies between low and high
pub record Halving (x : Given) (before words : List ℕ) (low high : ℕ) (ready : Bool) : Type 0 where
  pub left : low ≤ high
  pub bounded : high ≤ worst_step x (lowest_levels x)
  pub enough : T (feasible x high)
  pub none_below : (j : ℕ) → j < low → T (feasible x j) → ⊥
  pub kept : KeptFrom (length x.targets - 1) before words
  pub rows : ready ≡ true → RowsGood x words high 0

module _ {x : Given} {bound : ℕ} (ok : Workable x) (some : has_no_table x ≡ false) (bound_is : bound ≡ worst_step x (lowest_levels x)) where
  some_table : T (not (has_no_table x))
  some_table = no_is some

  pub halving_first : (before : List ℕ) → Halving x before before 0 bound false
  halving_first before = grind (arith, bound_feasible x ok.usable some_table, kept_all)

  module _ {before words : List ℕ} {low high : ℕ} {ready : Bool} (h : Halving x before words low high ready) where
    found : high ≤ low → least_worst x ≡ low
    found l = grind (arith, least_is x ok.usable some_table low)

    -- what is tried is small
    pub tried_small : (k : ℕ) → k ≤ high → k ≤ 1000 * 2 ^ 26
    tried_small k l = omega (arith, h.bounded, worst_top ok _ (low_allowed x ok.usable (every_level x ok.usable some_table)))

    module _ {after : List ℕ} {k : ℕ} {good : Bool} (passed : RowsFilled x k words after good) where
      pub halving_no : k < high → good ≡ false → Halving x before after (k + 1) high good
      halving_no b e = grind (arith, feasible_more x, kept_then)

      -- the rows filled once more, for what is left
      pub filled_again : k ≡ low → high ≤ low → Searched x before after low
      filled_again e l = grind (arith, found l, kept_then)

    pub filled_already : high ≤ low → ready ≡ true → Searched x before words low
    filled_already l e = grind (arith, found l)
