-- The rows of lit levels: a row filled from the next one holds the levels from which an allowed table goes on.
-- Assumes nothing.
use Prim.Native.Nat.{ℕ, suc, ◌+◌, ◌-◌, ◌*◌, ◌≤◌, ◌<◌, zero-le}
use mathlib.Core.Path.{◌≡◌, refl, ap, ap₂, ◌∙◌}
use mathlib.Core.Logic.{inr}
use mathlib.Core.Bool.{Bool, false, ◌&&◌, and_assoc, and_comm}
use mathlib.Core.List.{List}
use native.Mathlib.Omega.{arith}
use lib.Dec.{T, leb, ltb}
use lib.ListN.{length}
use Rattle.laws.specs.Search.{any}
use Rattle.laws.proofs.Search.{any_intro, any_same}
use Rattle.reach.specs.declared.Run.{Run}
use Rattle.reach.specs.Rows.{reaches, RowKept, RowThere, RunLit, RowFilled}
use Rattle.reach.proofs.Rows.{lit_same}
use Rattle.even.specs.Even.{Given}
use Rattle.even.specs.Table.{tables_within, good_at, feasible}
use Rattle.even.specs.Runs.{brightest, run_from, run_to, run_of}
use Rattle.even.specs.Steps.{span_of}
use Rattle.even.specs.Filled.{Workable, KeptFrom}
use Rattle.even.specs.Filling.{lit_at, RowsGood, LastLit}
use Rattle.even.proofs.Paths.{good_step, good_last, lowest_path_lem, path_from, path_good}
use Rattle.even.proofs.Runs.{reaching_top, allowed_run}
use Rattle.even.proofs.Steps.{step_fits_lem}

-- ---- words that are kept

pub kept_all : (p : ℕ) (words : List ℕ) → KeptFrom p words words
kept_all p words = record { len = refl; words = λ i h. refl }

pub kept_then : {p : ℕ} {a b c : List ℕ} → KeptFrom p a b → KeptFrom p b c → KeptFrom p a c
kept_then g h = record { len = h.len ∙ g.len; words = λ i l. h.words i l ∙ g.words i l }

pub kept_row : {p q : ℕ} {a b : List ℕ} → p < q → RowKept a b p → KeptFrom q a b
kept_row l k = record { len = k.len; words = λ i h. k.words i (inr (omega arith)) }

module _ {x : Given} (ok : Workable x) where
  -- the lit levels of a row that is kept
  pub lit_kept : {p : ℕ} {a b : List ℕ} → KeptFrom p a b → (q d : ℕ) → p ≤ q → d < length x.curve → lit_at x b q d ≡ lit_at x a q d
  lit_kept {p} {a} {b} k q d l h = lit_same b a (run_of x q) d (omega (arith, ok.levels)) (λ i m n. k.words i (omega arith))

  pub last_kept : {a b : List ℕ} → KeptFrom (length x.targets - 1) a b → LastLit x a → LastLit x b
  last_kept k h = grind (arith, lit_kept k (length x.targets - 1), h.lit_last)

  -- ---- the last row

  module _ {words : List ℕ} (fit : 32 * length x.targets ≤ length words) {run : Run} (run_is : run ≡ run_of x (length x.targets - 1)) where
    pub last_there : RowThere words run
    last_there = grind (arith, reaching_top x.curve (brightest x (length x.targets - 1) + 1))

    pub last_lit : {after : List ℕ} → RunLit words after run → LastLit x after
    last_lit {after} h =
        let lit : RunLit words after (run_of x (length x.targets - 1)) = rw run_is at h in
        grind (arith, lit, allowed_run x ok.usable (length x.targets - 1))

  pub last_good : {words : List ℕ} (k : ℕ) → LastLit x words → RowsGood x words k (length x.targets - 1)
  last_good {words} k h = grind (arith, good_last (tables_within x k))

  -- ---- a row from the next one

  module _ (k p : ℕ) (l : suc p < length x.targets) where
    good_by_step : (d : ℕ) → d < length x.curve
        → good_at x k p d ≡ (leb (run_from x p) d && (ltb d (run_to x p) && reaches x.curve (good_at x k (suc p)) (span_of x k p) d))
    unfolding reaches
    good_by_step d h =
        good_step (tables_within x k) p d (omega arith)
        ∙ ap₂ ◌&&◌ (allowed_run x ok.usable p d h)
        (any_same _ _ (length x.curve)
        (λ e i. ap (λ (b : Bool). b && good_at x k (suc p) e) (step_fits_lem x ok.usable k p l d e i) ∙ and_comm _ (good_at x k (suc p) e)))
        ∙ and_assoc (leb (run_from x p) d) (ltb d (run_to x p)) _

    module _ {words : List ℕ} (good : RowsGood x words k (suc p)) where
      same_reach : (d : ℕ) → reaches x.curve (lit_at x words (suc p)) (span_of x k p) d
          ≡ reaches x.curve (good_at x k (suc p)) (span_of x k p) d
      unfolding reaches
      same_reach d = any_same _ _ (length x.curve) (λ e i. rw (good.lit_good (suc p) e (omega arith) l i))

      module _ {after : List ℕ} {some : Bool}
          (filled : RowFilled x.curve words after (run_of x p) (run_of x (suc p)) (span_of x k p) some) where
        row_good : (d : ℕ) → d < length x.curve → lit_at x after p d ≡ good_at x k p d
        row_good d h = rw (filled.here d h, good_by_step d h, same_reach d)

        pub rows_more : RowsGood x after k p
        rows_more = record { lit_good = λ q d a b h. grind (arith, row_good d, kept_row, lit_kept, good.lit_good q d) }

        pub rows_some : some ≡ any (good_at x k p) (length x.curve)
        rows_some = filled.found ∙ any_same _ _ (length x.curve) row_good

  -- ---- a row without a level

  pub good_along : (k p : ℕ) → p < length x.targets → T (feasible x k) → T (any (good_at x k p) (length x.curve))
  unfolding feasible
  good_along k p l f =
      let path = lowest_path_lem (tables_within x k) f in
      any_intro _ (length x.curve) _ (path.level p (omega arith) (omega arith))
      (path_good (tables_within x k) _ p (omega arith) (path_from (tables_within x k) _ 0 p zero-le path))

  pub row_empty : (k p : ℕ) → p < length x.targets → any (good_at x k p) (length x.curve) ≡ false → false ≡ feasible x k
  row_empty k p l e = grind (arith, good_along k p l)
