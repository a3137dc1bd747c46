-- The rows filled one by one, from the last down.
-- Assumes nothing.
use Prim.Native.Nat.{ℕ, suc, ◌+◌, ◌-◌, ◌*◌, ◌^◌, ◌≤◌, ◌<◌}
use mathlib.Core.Path.{◌≡◌}
use mathlib.Core.Bool.{Bool, true, false}
use mathlib.Core.List.{List}
use native.Mathlib.Nat.{mul-le-mul_right}
use native.Mathlib.Numerals.{add-one}
use native.Mathlib.Omega.{arith}
use lib.ListN.{length}
use Rattle.laws.specs.Search.{any}
use Rattle.laws.proofs.Cases.{no_is}
use Rattle.laws.proofs.Search.{any_same}
use Rattle.reach.specs.Rows.{RowAsks, RowFilled}
use Rattle.reach.specs.declared.Run.{Run}
use Rattle.reach.specs.declared.Span.{Span}
use Rattle.even.specs.Even.{Given, target_step}
use Rattle.even.specs.Table.{allowed_at, good_at, feasible, has_no_table, tables_within}
use Rattle.even.specs.Runs.{run_of}
use Rattle.even.specs.Steps.{span_of}
use Rattle.even.specs.Filled.{Workable, KeptFrom}
use Rattle.even.specs.Filling.{RowsGood, LastLit, RowsFilled}
use Rattle.even.proofs.Paths.{good_last}
use Rattle.even.proofs.Runs.{reaching_top}
use Rattle.even.proofs.Even.{every_level}
use Rattle.even.proofs.Rows.{kept_all, kept_then, kept_row, last_good, rows_more, rows_some, row_empty}

-- the rows from p on are filled for k, and that of p has a lit level
pub record RowsSoFar (x : Given) (k : ℕ) (before words : List ℕ) (p : ℕ) : Type 0 where
  pub value : p < length x.targets
  pub good : RowsGood x words k p
  pub kept : KeptFrom (length x.targets - 1) before words
  pub some : any (good_at x k p) (length x.curve) ≡ true

module _ {x : Given} {k : ℕ} {before : List ℕ} (ok : Workable x) (last : LastLit x before) where
  pub rows_first : has_no_table x ≡ false → RowsSoFar x k before before (length x.targets - 1)
  rows_first some = grind (arith, last_good ok k last, kept_all, good_last (tables_within x k), every_level x ok.usable (no_is some) (length x.targets - 1), any_same (good_at x k (length x.targets - 1)) (allowed_at x (length x.targets - 1)) (length x.curve))

  pub rows_all : {words : List ℕ} {p : ℕ} → RowsSoFar x k before words p → p ≤ 0 → RowsFilled x k before words true
  unfolding feasible
  rows_all {words} s h = grind arith

  -- the row of p, from the next one
  module _ {words : List ℕ} {next : ℕ} (small : k ≤ 1000 * 2 ^ 26) (left : 0 < next) (next_found : RowsSoFar x k before words next) where
    abbrev p : ℕ
    p = next - 1

    s : RowsSoFar x k before words (p + 1)
    s = grind arith

    module _ {span : Span} (span_is : span ≡ span_of x k p) where
      asks_of : RowAsks x.curve words (run_of x p) (run_of x (p + 1)) (span_of x k p)
      asks_of = grind (arith, reaching_top x.curve, mul-le-mul_right (target_step x p) small)

      -- by the runs that were read
      pub row_asks : {run above : Run} → run ≡ run_of x p → above ≡ run_of x (p + 1) → RowAsks x.curve words run above span
      row_asks here there = rw (here, there, span_is) asks_of

      module _ {run above : Run} (here : run ≡ run_of x p) (there : above ≡ run_of x (p + 1)) {after : List ℕ} {some : Bool}
          (filled : RowFilled x.curve words after run above span some) where
        as_defined : RowFilled x.curve words after (run_of x p) (run_of x (suc p)) (span_of x k p) some
        as_defined = rw (here, there, span_is, add-one p) at filled

        rows_before : RowsGood x words k (suc p)
        rows_before = rw (← add-one p) s.good

        pub rows_kept : KeptFrom (length x.targets - 1) before after
        rows_kept = grind (arith, kept_then, kept_row)

        pub rows_none : some ≡ false → RowsFilled x k before after false
        rows_none e = grind (arith, rows_kept, row_empty ok k p, rows_some ok k p (omega arith) rows_before as_defined)

        pub rows_next : some ≡ true → RowsSoFar x k before after p
        rows_next e = grind (arith, rows_kept, rows_more ok k p (omega arith) rows_before as_defined, rows_some ok k p (omega arith) rows_before as_defined)
