-- The walk through the filled rows: its levels are those of the lowest path.
-- Assumes nothing.
use Prim.Native.Nat.{ℕ, suc, ◌+◌, ◌-◌, max, ◌≤◌, ◌<◌, zero-le}
use mathlib.Core.Path.{◌≡◌, sym, subst}
use mathlib.Core.Bool.{false}
use mathlib.Core.List.{List, ◌++◌}
use native.Mathlib.Nat.{le_refl, le_trans}
use native.Mathlib.Numerals.{add-one}
use native.Mathlib.Omega.{arith}
use lib.Dec.{T}
use lib.ListN.{length, get_or, set, drop}
use Rattle.laws.specs.Search.{lowest}
use Rattle.laws.proofs.Cases.{is_yes, yes_is, no_is}
use Rattle.laws.proofs.Search.{lowest_passes, lowest_under, lowest_is}
use Rattle.laws.proofs.Fill.{Filled, filled_none, filled_more}
use Rattle.std.specs.Prelude.{Option, Some}
use Rattle.std.specs.Option.{IsSome}
use Rattle.reach.specs.declared.Run.{Run}
use Rattle.reach.specs.declared.Span.{Span}
use Rattle.reach.specs.Rows.{RowThere, First, FindsFirst}
use Rattle.reach.proofs.Steps.{Fits, fits_is, is_fit}
use Rattle.reach.proofs.Rows.{on_from, IsLit, lit_is, is_lit}
use Rattle.even.specs.Even.{Given, F, target_step}
use Rattle.even.specs.Paths.{next, lowest_path}
use Rattle.even.specs.Table.{has_no_table, step_within, tables_within, good_at, feasible, even_table}
use Rattle.even.specs.Runs.{brightest, run_from, run_of}
use Rattle.even.specs.Filled.{Workable}
use Rattle.even.specs.Steps.{least_step, span_of}
use Rattle.even.specs.Filling.{LastLit, Searched, WriteAsks, lowest_within}
use Rattle.even.proofs.Paths.{Path, path_from, path_good, lowest_path_lem, next_good, next_is}
use Rattle.even.proofs.Runs.{reaching_top}
use Rattle.even.proofs.Even.{least_feasible}
use Rattle.even.proofs.Halving.{least_small}
use Rattle.even.proofs.Steps.{step_fits_lem}

-- ---- the first lit level that is bright enough

module _ (curve words : List ℕ) (run : Run) (start least : ℕ) where
  -- where a lit level from the start on is bright enough, the search finds one
  some_found : (found : Option ℕ) → FindsFirst curve words (on_from run start) least found → (e : ℕ) → IsLit words run e → start ≤ e → least ≤ get_or curve e 0
      → IsSome found
  some_found y1 h e lit a b = grind arith

  -- and that is what its number says
  first_of : (found : Option ℕ) → FindsFirst curve words (on_from run start) least found → {r : ℕ} → found ≡ Some r → First curve words (on_from run start) least r
  first_of y1 h e = grind arith

  first_below : (found : Option ℕ) → FindsFirst curve words (on_from run start) least found → {r : ℕ} → found ≡ Some r → r < run.to
  first_below y1 h e = grind arith

module _ {curve words : List ℕ} {run : Run} {start least r : ℕ} (first : First curve words (on_from run start) least r) where
  module _ (e : ℕ) (h : IsLit words run e) (a : start ≤ e) (b : least ≤ get_or curve e 0) where
    -- where one is, so is the first, and it is not above
    not_after : r ≤ e
    not_after = grind (arith, first.skipped e)

    below_end : r < run.to
    below_end = omega (arith, not_after)

    bright : least ≤ get_or curve r 0
    bright = first.enough below_end

    first_is_lit : run.from ≤ start → IsLit words run r
    first_is_lit l = grind (arith, below_end)

module _ {x : Given} {k : ℕ} {words before : List ℕ} (ok : Workable x) (asks : WriteAsks x k words before) where
  -- some allowed table has a worst step of at most k
  some_within : T (feasible x k)
  some_within = yes_is asks.some

  -- the lit levels of p are the good ones
  good_lit : (p d : ℕ) → p < length x.targets → d < length x.curve → T (good_at x k p d) → IsLit words (run_of x p) d
  good_lit p d l h g = lit_is words (run_of x p) d (grind (arith, asks.rows.lit_good p d))

  lit_good : (p d : ℕ) → p < length x.targets → d < length x.curve → IsLit words (run_of x p) d → T (good_at x k p d)
  lit_good p d l h e = grind (arith, asks.rows.lit_good p d, is_lit words (run_of x p) d e)

  -- ---- the first level

  lowest_good : IsLit words (run_of x 0) (lowest (good_at x k 0) (length x.curve))
  unfolding feasible
  lowest_good =
      good_lit 0 _ ok.usable.some_target (lowest_under (good_at x k 0) _ some_within) (lowest_passes (good_at x k 0) _ some_within)

  pub level_some : (found : Option ℕ) → FindsFirst x.curve words (run_of x 0) 0 found → IsSome found
  level_some found h = some_found x.curve words (run_of x 0) (run_from x 0) 0 found h _ lowest_good lowest_good.low zero-le

  pub level_first : {r : ℕ} → First x.curve words (run_of x 0) 0 r → r ≡ lowest_path (tables_within x k) 0
  unfolding lowest_path feasible
  level_first {r} first =
      let e = lowest (good_at x k 0) (length x.curve) in
      let under = lowest_under (good_at x k 0) _ some_within in
      let on = lowest_good in
      let small = not_after first e on on.low zero-le in
      let here = first_is_lit first e on on.low zero-le (le_refl _) in
      sym (lowest_is (good_at x k 0) (length x.curve) r (omega arith)
      (lit_good 0 r ok.usable.some_target (omega arith) here)
      (λ j l g. grind (arith, good_lit 0 j, first.skipped j)))

  -- ---- the level after d

  module _ (p d : ℕ) (l : suc p < length x.targets) (g : T (good_at x k p d)) where
    -- a step of the table, by the least and the largest luminance that it may reach
    abbrev Step : (e : ℕ) → Type 0
    Step e = Fits x.curve (span_of x k p) d e

    step_is : (e : ℕ) → e < length x.curve → T (step_within x k p d e) → Step e
    step_is e h s = fits_is (subst T (step_fits_lem x ok.usable k p l d e h) s)

    is_step : (e : ℕ) → e < length x.curve → Step e → T (step_within x k p d e)
    is_step e h s = subst T (sym (step_fits_lem x ok.usable k p l d e h)) (is_fit s)

    -- the good level that follows d
    follower : ℕ
    follower = next (tables_within x k) p d

    follower_good : IsLit words (run_of x (suc p)) follower
    unfolding follower
    follower_good =
        let after = next_good (tables_within x k) p d (omega arith) g in
        good_lit (suc p) follower l after.level after.good_on

    follower_step : Step follower
    unfolding follower
    follower_step =
        let after = next_good (tables_within x k) p d (omega arith) g in
        step_is follower after.level after.follows

    -- it is bright enough for a search that asks no more than the step to it
    pub next_some : (low : ℕ) → low ≤ F x d + least_step k (target_step x p) → (found : Option ℕ)
        → FindsFirst x.curve words (on_from (run_of x (suc p)) (max d (run_from x (suc p)))) low found → IsSome found
    next_some low small found h =
        some_found x.curve words (run_of x (suc p)) _ low found h follower follower_good
        (omega (arith, follower_step.low, follower_good.low)) (le_trans small follower_step.enough)

    pub level_next : {r : ℕ} → First x.curve words (on_from (run_of x (suc p)) (max d (run_from x (suc p)))) (F x d + least_step k (target_step x p)) r
        → r ≡ next (tables_within x k) p d
    unfolding follower
    level_next {r} first =
        let tables = tables_within x k in
        let e = next tables p d in
        let after = next_good tables p d (omega arith) g in
        let on = follower_good in
        let step = follower_step in
        let start : max d (run_from x (suc p)) ≤ e = omega arith in
        let small = not_after first e on start step.enough in
        let inside : r < length x.curve = omega arith in
        let there = first_is_lit first e on start step.enough (omega arith) in
        let above = bright first e on start step.enough in
        let keeps = ok.usable.curve_keeps.keeps r e small after.level in
        sym (next_is tables p d r inside
        (is_step r inside (record { low = omega (arith, first.after); enough = above; near = omega arith }))
        (lit_good (suc p) r l inside there)
        (λ j i f h. grind (arith, step_is j, good_lit (suc p) j l, first.skipped j)))

-- the entries up to p are written, and that of p is d
pub record Writing (x : Given) (k : ℕ) (before after : List ℕ) (p d : ℕ) : Type 0 where
  pub value : p < length x.targets
  pub level_is : d ≡ lowest_path (tables_within x k) p
  pub entries : Filled (lowest_path (tables_within x k)) before after (p + 1)

run_ends : (x : Given) (p : ℕ) {run : Run} → run ≡ run_of x p → run.to ≤ length x.curve
run_ends x p is = rw is (reaching_top x.curve (brightest x p + 1))

-- what the search for a level of a row asks
pub row_there : {x : Given} {words : List ℕ} → Workable x → LastLit x words → (p : ℕ) → p < length x.targets → {run : Run} → run ≡ run_of x p
    → (from : ℕ) → RowThere words (record { p = run.p; from = from; to = run.to }) × (run.to ≤ length x.curve)
row_there {x} ok last p l is from = grind (arith, run_ends x p is)

module _ {x : Given} {k : ℕ} {words before : List ℕ} (ok : Workable x) (asks : WriteAsks x k words before) where
  path : Path (tables_within x k) 0 (lowest_path (tables_within x k))
  unfolding feasible
  path = lowest_path_lem (tables_within x k) (some_within ok asks)

  path_small : (p : ℕ) → p < length x.targets → lowest_path (tables_within x k) p < length x.curve
  path_small p l = path.level p (omega arith) (omega arith)

  -- ---- the first P-value

  module _ {run : Run} (run_is : run ≡ run_of x 0) (found : Option ℕ) (h : FindsFirst x.curve words run 0 found) where
    start_found : FindsFirst x.curve words (run_of x 0) 0 found
    start_found = rw run_is at h

    pub start_some : IsSome found
    start_some = level_some ok asks found start_found

    module _ {d : ℕ} (is : found ≡ Some d) where
      start_is : d ≡ lowest_path (tables_within x k) 0
      start_is = level_first ok asks (first_of x.curve words (run_of x 0) (run_from x 0) 0 found start_found is)

      pub start_fits : d < 65536
      start_fits = omega (arith, start_is, path_small 0 ok.usable.some_target, ok.levels)

      pub writing_first : Writing x k before (set before 0 d) 0 d
      writing_first = record {
        value = ok.usable.some_target;
        level_is = start_is;
        entries = filled_more _ before before 0 d (filled_none _ before) (omega arith) start_is;
      }

  module _ {after : List ℕ} {p d : ℕ} (w : Writing x k before after p d) where
    pub level_small : d < length x.curve
    level_small = rw w.level_is (path_small p w.value)

    -- ---- the next P-value

    module _ (m : p < length x.targets - 1) {run : Run} (run_is : run ≡ run_of x (p + 1)) {span : Span} (span_is : span ≡ span_of x k p) where
      good_here : T (good_at x k p d)
      good_here =
          rw w.level_is
          (path_good (tables_within x k) _ p (omega (arith, w.value)) (path_from (tables_within x k) _ 0 p zero-le path))

      -- a search that asks no more than the step finds a level
      module _ (low : ℕ) (small : low ≤ F x d + span.least) (found : Option ℕ)
          (h : FindsFirst x.curve words (on_from run (max d run.from)) low found) where
        pub after_some : IsSome found
        after_some = next_some ok asks p d (omega arith) good_here low (rw span_is at small) found (rw (add-one p) at (rw run_is at h))

        pub after_fits : {e : ℕ} → found ≡ Some e → e < 65536
        after_fits {e} is = omega (arith, first_below x.curve words run _ low found h is, run_ends x (p + 1) run_is, ok.levels)

      module _ (found : Option ℕ)
          (h : FindsFirst x.curve words (on_from run (max d run.from)) (F x d + span.least) found) where
        as_defined : FindsFirst x.curve words (on_from (run_of x (suc p)) (max d (run_from x (suc p)))) (F x d + least_step k (target_step x p)) found
        as_defined = rw (run_is, span_is, add-one p) at h

        module _ {e : ℕ} (is : found ≡ Some e) where
          after_is : e ≡ lowest_path (tables_within x k) (p + 1)
          unfolding lowest_path
          after_is = grind (arith, level_next ok asks p d (omega arith) good_here (first_of x.curve words (run_of x (suc p)) _ _ found as_defined is))

          pub writing_more : Writing x k before (set after (p + 1) e) (p + 1) e
          writing_more = record {
            value = omega arith;
            level_is = after_is;
            entries = filled_more _ before after (p + 1) e w.entries (omega arith) after_is;
          }

    pub writing_all : length x.targets - 1 ≤ p → after ≡ lowest_within x k ++ drop (length x.targets) before
    writing_all m = grind (arith, w.entries.is)

-- ---- the least worst step

module _ {x : Given} {k : ℕ} {words after : List ℕ} (ok : Workable x) (some : has_no_table x ≡ false) (s : Searched x words after k) where
  -- it is one that some allowed table keeps, and small
  pub write_asks : {before : List ℕ} → length x.targets ≤ length before → WriteAsks x k after before
  write_asks fits = record {
    some = rw s.least (is_yes _ (least_feasible x ok.usable (no_is some)));
    rows = s.rows;
    small = rw s.least (least_small ok some);
    fits = fits;
  }

  -- and the lowest table that keeps it is the even one
  pub even_within : lowest_within x k ≡ even_table x
  unfolding even_table
  even_within = rw s.least
