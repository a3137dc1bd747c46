-- One walk over the P-values: each has an allowed level so far, and the worst step of the lowest levels is known so far.
-- Assumes nothing.
use Prim.Native.Nat.{ℕ, suc, ◌+◌, ◌-◌, max, ◌≤◌, ◌<◌}
use mathlib.Core.Path.{◌≡◌, refl}
use mathlib.Core.Bool.{false}
use native.Mathlib.Numerals.{add-one}
use native.Mathlib.Omega.{arith}
use lib.Dec.{T}
use mathlib.Core.List.{List}
use lib.ListN.{length, get_or, set}
use mir.Facts.{T_not}
use Rattle.std.specs.Prelude.{Some, None}
use Rattle.laws.specs.Search.{any}
use Rattle.laws.specs.Numbers.{max_of}
use Rattle.laws.proofs.Numbers.{max_next, max_same}
use Rattle.laws.proofs.Search.{any_intro, any_none}
use Rattle.laws.proofs.Fill.{get_or_tab, Filled, filled_none, filled_more, filled_at}
use Rattle.reach.specs.declared.Run.{Run}
use Rattle.even.specs.Even.{Given, F, step_deviation, deviation_at, worst_step, target_step}
use Rattle.even.specs.Table.{allowed_at, no_level, has_no_table, lowest_levels}
use Rattle.even.specs.Runs.{brightest, run_from, run_to, NotAbove, RunFound}
use Rattle.even.specs.Filled.{Workable}
use Rattle.even.specs.Filling.{RunsAsk, first_bound, RunsFound}
use Rattle.even.proofs.Runs.{reaching_top, run_rises, run_some, some_allowed, lowest_from}

module _ {x : Given} (ok : Workable x) where
  -- a run that has a level starts at a level of the curve
  pub level : (p : ℕ) {run : Run} → RunFound x p (Some run) → run.from < length x.curve
  level p h = grind (arith, reaching_top x.curve (brightest x p + 1))

  -- and its end fits its place
  pub to_fits : (p : ℕ) {run : Run} → RunFound x p (Some run) → run.to < 65536
  to_fits p h = grind (arith, reaching_top x.curve (brightest x p + 1))

  -- ---- no allowed level

  pub found_none : (p : ℕ) (starts ends : List ℕ) → p < length x.targets → RunFound x p None → RunsFound x starts ends None
  unfolding first_bound has_no_table
  found_none p starts ends l h = grind (arith, any_intro (no_level x) (length x.targets) p, run_some x ok.usable p)

-- the runs up to that of p are found: each has a level, and the worst step of the lowest ones is known
pub record Finding (x : Given) (starts₀ ends₀ starts ends : List ℕ) (p : ℕ) (run : Run) (worst : ℕ) : Type 0 where
  pub value : p < length x.targets
  pub is : RunFound x p (Some run)
  pub some : (q : ℕ) → q ≤ p → run_from x q < run_to x q
  pub worst_is : worst ≡ max_of (λ q. deviation_at x q (run_from x q) (run_from x (suc q))) p
  pub starts_are : Filled (run_from x) starts₀ starts (p + 1)
  pub ends_are : Filled (run_to x) ends₀ ends (p + 1)

module _ {x : Given} (ok : Workable x) {starts₀ ends₀ : List ℕ} (asks : RunsAsk x starts₀ ends₀) where
  pub finding_first : {run : Run} → RunFound x 0 (Some run) → Finding x starts₀ ends₀ (set starts₀ 0 run.from) (set ends₀ 0 run.to) 0 run 0
  unfolding max_of
  finding_first h = record {
    value = ok.usable.some_target;
    is = h;
    some = grind arith;
    worst_is = refl;
    starts_are = filled_more _ starts₀ starts₀ 0 _ (filled_none _ starts₀) (omega (arith, asks.starts_fit, ok.usable.some_target)) (rw h.1);
    ends_are = filled_more _ ends₀ ends₀ 0 _ (filled_none _ ends₀) (omega (arith, asks.ends_fit, ok.usable.some_target)) (rw h.1);
  }

  module _ {starts ends : List ℕ} {p : ℕ} {run : Run} {worst : ℕ} (f : Finding x starts₀ ends₀ starts ends p run worst) where
    module _ (l : p < length x.targets - 1) where
      pub run_on : NotAbove x (p + 1) run
      run_on = rw (f.is.1, add-one p) (run_rises ok.usable p (omega arith))

      module _ {next : Run} (h : RunFound x (p + 1) (Some next)) where
        pub climbs : F x run.from ≤ F x next.from
        climbs = grind (arith, ok.usable.curve_keeps.keeps run.from next.from, run_on, level ok (p + 1) h)

        pub finding_more : Finding x starts₀ ends₀ (set starts (p + 1) next.from) (set ends (p + 1) next.to) (p + 1) next
            (max worst (step_deviation (F x next.from - F x run.from) (target_step x p)))
        finding_more = record {
          value = omega arith;
          is = h;
          some = grind arith;
          worst_is = grind (arith, max_next (λ q. deviation_at x q (run_from x q) (run_from x (suc q))) p);
          starts_are = filled_more _ starts₀ starts (p + 1) _ f.starts_are (omega arith) (rw h.1);
          ends_are = filled_more _ ends₀ ends (p + 1) _ f.ends_are (omega arith) (rw h.1);
        }

    module _ (h : length x.targets - 1 ≤ p) where
      every : (q : ℕ) → q < length x.targets → T (any (allowed_at x q) (length x.curve))
      every q l = some_allowed x ok.usable q (f.some q (omega arith))

      some_table : has_no_table x ≡ false
      unfolding has_no_table
      some_table = any_none (no_level x) (length x.targets) (λ q l n. T_not (any (allowed_at x q) (length x.curve)) (every q l) n)

      low_at : (q : ℕ) → q < length x.targets → get_or (lowest_levels x) q 0 ≡ run_from x q
      unfolding lowest_levels
      low_at q l = rw (get_or_tab, lowest_from x ok.usable q (every q l))

      worst_of : worst_step x (lowest_levels x) ≡ worst
      worst_of =
          let same = max_same (λ q. deviation_at x q (get_or (lowest_levels x) q 0) (get_or (lowest_levels x) (suc q) 0)) (λ q. deviation_at x q (run_from x q) (run_from x (suc q))) (length x.targets - 1) in
          grind (arith, low_at)

      pub found_all : RunsFound x starts ends (Some worst)
      unfolding first_bound
      found_all = grind (arith, some_table, worst_of, filled_at)
