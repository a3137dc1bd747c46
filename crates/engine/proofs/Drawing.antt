-- From a job that passed all tests to its curve and its targets.
-- Assumes nothing.
use mathlib.Core.Path.{◌≡◌, ap, ◌∙◌}
use mathlib.Core.List.{List, ◌++◌, append-nil}
use Prim.Native.Nat.{ℕ, ◌+◌, ◌≤◌}
use native.Mathlib.Nat.{pow-le-pow_right}
use native.Mathlib.Omega.{arith}
use lib.ListN.{length, get_or, take, drop, drop_of_length-le}
use lib.Seq.{take_at}
use Rattle.record.specs.Sections.{sections, ddls_in, luminances_in}
use Rattle.record.specs.Reader.{ddls_of, luminances_of}
use Rattle.gsdf.specs.DisplayFunction.{InTable}
use Rattle.curve.specs.Curve.{curve_at, curve_of}
use Rattle.curve.specs.Walk.{Drawable}
use Rattle.curve.proofs.Laws as curve
use Rattle.std.proofs.lemmas.List.{get_or_append_left}
use Rattle.target.specs.Target.{range_of, targets_of}
use Rattle.target.specs.declared.IndexRange.{IndexRange}
use Rattle.engine.specs.Sound.{added_of, top_of}
use Rattle.engine.specs.Drawing.{black_of, white_of, PassedTests, Drawn}
use Rattle.engine.specs.declared.TestedJob.{TestedJob}
use Rattle.engine.proofs.Measuring.{passed, order}
use Rattle.engine.proofs.Reading.{sound, measurable, range_in}

-- by the highest level
module _ {bytes : List ℕ} {tested : TestedJob} (p : PassedTests bytes tested) (top : ℕ) (et : top ≡ top_of tested.job) where
  pub highest : top ≤ 1023
  highest = omega (arith, pow-le-pow_right {n = 2} (omega arith) (measurable bytes p.accepted).depth_high)

  pub job_drawable : (curve : List ℕ) → length curve ≡ 1024 → Drawable (ddls_of tested.found.sweep) (luminances_of tested.found.sweep) top tested.light.added.0 curve
  job_drawable curve l =
      let m = measurable bytes p.accepted in
      let d : Drawable (ddls_in (sections bytes)) (luminances_in (sections bytes)) top tested.light.added.0 curve = rw (p.light, et) (record {
        sweep = m.sweep;
        wide = rw (← m.sweep.pairs) (omega (arith, (passed _ _ (range_in bytes tested.job) p.wide).high));
        levels = omega (arith, highest);
        fits = omega (arith, highest);
      }) in
      rw (← p.read.lists) at d

  -- by the levels that the curve is drawn on
  module _ {levels : List ℕ} (before : List ℕ) (el : levels ≡ curve_of tested.light.added.0 (ddls_of tested.found.sweep) (luminances_of tested.found.sweep) top ++ drop (top + 1) before) where
    abbrev whole : List ℕ
    whole = curve_of (added_of tested.job) (ddls_in (sections bytes)) (luminances_in (sections bytes)) (top_of tested.job)

    drawn : levels ≡ whole ++ drop (top_of tested.job + 1) before
    drawn = el ∙ rw (← p.read.lists, p.light, et)

    level_is : (d : ℕ) → d ≤ top → get_or levels d 0 ≡ curve_at (added_of tested.job) (ddls_in (sections bytes)) (luminances_in (sections bytes)) d
    level_is d h = rw drawn (get_or_append_left whole _ 0 d (omega (arith, curve.curve_length (measurable bytes p.accepted).sweep (added_of tested.job), et)) ∙ curve.curve_level (measurable bytes p.accepted).sweep (added_of tested.job) d 0 (omega (arith, et)))

    pub black_drawn : get_or levels 0 0 ≡ black_of (added_of tested.job) (luminances_in (sections bytes))
    black_drawn = level_is 0 (omega arith) ∙ curve.curve_first (measurable bytes p.accepted).sweep (added_of tested.job)

    pub white_drawn : get_or levels top 0 ≡ white_of (added_of tested.job) (luminances_in (sections bytes))
    white_drawn =
        let m = measurable bytes p.accepted in
        level_is top (omega arith) ∙ rw (et, m.sweep.pairs) (curve.curve_last m.sweep (added_of tested.job))

    pub ends_in : InTable (get_or levels 0 0) × InTable (get_or levels top 0)
    ends_in = let q = passed _ _ (range_in bytes tested.job) p.wide in let o = order (measurable bytes p.accepted) in rw (black_drawn, white_drawn) (grind (arith, q.low, q.high, o))

    pub range_drawn : {indices : IndexRange} → indices ≡ range_of (get_or levels 0 0) (get_or levels top 0) → indices ≡ range_in bytes tested.job
    range_drawn e = e ∙ rw (black_drawn, white_drawn)

    pub job_drawn : {indices : IndexRange} {targets₁ : List ℕ} (targets₀ : List ℕ) → indices ≡ range_of (get_or levels 0 0) (get_or levels top 0)
        → targets₁ ≡ targets_of indices.low.0 indices.range.0 255 ++ drop 256 targets₀
        → length targets₀ ≡ 256
        → Drawn bytes tested (take (top + 1) levels) indices targets₁
    job_drawn {indices = indices} {targets₁ = targets₁} targets₀ ei ea l =
        let all = targets_of indices.low.0 indices.range.0 255 in
        let lc : length whole ≡ top_of tested.job + 1 = curve.curve_length (measurable bytes p.accepted).sweep (added_of tested.job) in
        let front : take (top + 1) levels ≡ whole = rw (et, drawn) (take_at whole (drop (top_of tested.job + 1) before) (top_of tested.job + 1) lc) in
        let values : targets₁ ≡ all = ea ∙ ap (λ (xs : List ℕ). all ++ xs) (drop_of_length-le targets₀ {i = 256} (omega arith)) ∙ append-nil all in
        record { is = rw (front, values, range_drawn ei) (sound p) }
