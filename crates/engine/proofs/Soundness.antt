-- What is known of every sound job.
-- Assumes nothing.
use mathlib.Core.Path.{◌≡◌, refl, ap, sym, subst, ◌∙◌}
use mathlib.Core.List.{List}
use Prim.Native.Nat.{ℕ, ◌+◌, ◌-◌, ◌≤◌, zero-le}
use native.Mathlib.Nat.{le_refl, le_trans, pow-le-pow_right}
use native.Mathlib.Omega.{arith}
use lib.ListN.{length, get_or}
use Rattle.std.specs.Prelude.{Result, Ok, Err}
use Rattle.record.specs.Tests.{answer_of}
use Rattle.record.specs.declared.Job.{Job}
use Rattle.record.proofs.Accepted.{accepted_job}
use Rattle.gsdf.specs.DisplayFunction.{luminance_of, index_of}
use Rattle.curve.specs.Curve.{curve_of, Sweep}
use Rattle.curve.proofs.Laws as curve
use Rattle.target.specs.Target.{Aims}
use Rattle.target.specs.declared.IndexRange.{IndexRange}
use Rattle.target.proofs.Laws as target
use Rattle.target.proofs.Ranges.{range_black, range_white, range_between}
use Rattle.record.specs.declared.Refusal.{Refusal}
use Rattle.engine.specs.Sound.{SoundJob, IsSound, added_of, top_of, measured, soundness}
use Rattle.engine.proofs.Measuring.{Measurable, sweep_tests, order, passed, made_of, measured_is, aims}
use Rattle.engine.proofs.Reading.{measurable}

module _ {job : Job} {ddls luminances : List ℕ} (m : Measurable job ddls luminances) (error : job.settings.tolerance ≤ 1000) where
  module _ (indices : IndexRange) (e : sweep_tests (added_of job) luminances ≡ Ok indices) where
    made_sound : IsSound (made_of job ddls luminances indices)
    made_sound =
        let s : Sweep ddls luminances (top_of job) = m.sweep in
        let added : ℕ = added_of job in
        let top : ℕ = top_of job in
        let low : 255 ≤ top = omega (arith, pow-le-pow_right {n = 2} (omega arith) m.depth_low) in
        let high : top ≤ 1023 = omega (arith, pow-le-pow_right {n = 2} (omega arith) m.depth_high) in
        let a : Aims indices.low.0 indices.range.0 255 = aims m indices e in
        let p = passed _ _ indices e in
        let n : length luminances ≡ length ddls = s.pairs in
        let lc = curve.curve_length s added in
        record {
          levels_low = rw lc (omega arith);
          levels_high = rw lc (omega arith);
          curve_keeps = curve.curve_keeps s added;
          values = target.targets_length indices.low.0 indices.range.0 255;
          targets_rise = λ i k h l.
              rw (target.targets_at indices.low.0 indices.range.0 255 i 0 (omega arith), target.targets_at indices.low.0 indices.range.0 255 k 0 (omega arith))
              (target.target_rises indices.low.0 indices.range.0 255 a.first a.last a.some p.wide a.most i k h (omega arith));
          curve_in = λ d h.
              let k : d ≤ top = omega (arith, lc) in
              rw (curve.curve_level s added d 0 k) (record {
                low = le_trans p.low (curve.curve_low s added d k);
                high = le_trans (curve.curve_high s added d k) (rw n at p.high);
              });
          black = ap (λ (i : IndexRange). i.low.0) p.is ∙ range_black _ _ ∙ ap index_of (sym (curve.curve_level s added 0 0 zero-le ∙ curve.curve_first s added));
          white =
              let back : top + 1 - 1 ≡ top = omega arith in
              let w : get_or (curve_of added ddls luminances top) (length (curve_of added ddls luminances top) - 1) 0 ≡ added + get_or luminances (length luminances - 1) 0 =
              rw (lc, back, n) (curve.curve_level s added top 0 (le_refl top) ∙ curve.curve_last s added) in
              ap (λ (i : IndexRange). i.high.0) p.is ∙ range_white _ _ ∙ ap index_of (sym w);
          between = rw p.is (range_between _ _ p.low (order m));
          wide = p.wide;
          first = target.targets_at indices.low.0 indices.range.0 255 0 0 (omega arith) ∙ target.target_first indices.low.0 indices.range.0 255 a.first a.last a.some;
          last =
              target.targets_at indices.low.0 indices.range.0 255 255 0 (omega arith)
              ∙ target.target_last indices.low.0 indices.range.0 255 a.first a.last a.some
              ∙ ap luminance_of (rw p.is (range_between _ _ p.low (order m)));
          targets_in = λ i h.
              rw (target.targets_at indices.low.0 indices.range.0 255 i 0 (omega arith)) (record {
                low = target.target_low indices.low.0 indices.range.0 255 a.first a.last a.some i (omega arith);
                high = target.target_high indices.low.0 indices.range.0 255 a.first a.last a.some i (omega arith);
              });
          tolerance = error;
        }

  measured_sound : (made : SoundJob) → measured job ddls luminances ≡ Ok made → IsSound made
  measured_sound made e = go (sweep_tests (added_of job) luminances) refl
    where
      go : (x : Result IndexRange Refusal) → sweep_tests (added_of job) luminances ≡ x → IsSound made
      go (Err r) t = cc (rw (measured_is m, t) at e)
      go (Ok indices) t =
          let same : made_of job ddls luminances indices ≡ made = cc (rw (measured_is m, t) at e) in
          subst IsSound same (made_sound indices t)

-- the job of every record that is sound
pub sound_job : (bytes : List ℕ) (job : SoundJob) → soundness bytes ≡ Ok job → IsSound job
unfolding soundness
sound_job bytes job e = go (answer_of bytes) refl
  where
    go : (x : Result Job Refusal) → answer_of bytes ≡ x → IsSound job
    go (Err r) t = cc (sym (rw t at e))
    go (Ok j) t = measured_sound (measurable bytes t) (accepted_job bytes j t).tolerance job (rw t at e)
