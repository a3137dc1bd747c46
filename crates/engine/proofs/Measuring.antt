-- An accepted job and its sweep: the tests, and what a sound job makes.
-- Assumes nothing.
use mathlib.Core.Path.{◌≡◌}
use mathlib.Core.List.{List}
use Prim.Native.Nat.{ℕ, ◌-◌, ◌≤◌}
use native.Mathlib.Omega.{arith}
use lib.ListN.{length, get_or}
use borrow.Author.Tests.{ltb-false}
use Rattle.std.specs.Prelude.{Result, Ok}
use Rattle.record.specs.Sections.{after}
use Rattle.record.specs.declared.Refusal.{Refusal}
use Rattle.record.specs.declared.Job.{Job}
use Rattle.curve.specs.Room.{room_mark}
use Rattle.curve.specs.Curve.{curve_of, Sweep}
use Rattle.gsdf.proofs.Ends.{not_below, not_above}
use Rattle.curve.proofs.Laws as curve
use Rattle.target.specs.Target.{range_of, targets_of, Aims}
use Rattle.target.specs.declared.IndexRange.{IndexRange}
use Rattle.target.proofs.Ranges.{range_low, range_high, range_between}
use Rattle.engine.specs.Sound.{SoundJob, room_of, added_of, top_of, range_tests, measured}
use Rattle.engine.specs.Drawing.{black_of, white_of}

-- ---- what tests 8, 9 and 10 let through

pub record Passed (black white : ℕ) (indices : IndexRange) : Type 0 where
  pub low : 500 ≤ black
  pub high : white ≤ 39934040
  pub is : indices ≡ range_of black white
  pub wide : 10000 ≤ indices.range.0

pub passed : (black white : ℕ) (indices : IndexRange) → range_tests black white ≡ Ok indices → Passed black white indices
unfolding range_tests
passed black white indices e = grind (arith, not_below, not_above, ltb-false)

-- by A and the luminances of a sweep
abbrev pub sweep_tests : (added : ℕ) (luminances : List ℕ) → Result IndexRange Refusal
sweep_tests added luminances = range_tests (black_of added luminances) (white_of added luminances)

-- ---- an accepted job and its sweep

-- a job whose depth is in range, and its sweep
pub record Measurable (job : Job) (ddls luminances : List ℕ) : Type 0 where
  pub depth_low : 8 ≤ job.settings.depth
  pub depth_high : job.settings.depth ≤ 10
  pub sweep : Sweep ddls luminances (top_of job)

-- what it makes, by its indices
abbrev pub made_of : (job : Job) (ddls luminances : List ℕ) → IndexRange → SoundJob
made_of job ddls luminances indices = record {
  accepted = job;
  curve = curve_of (added_of job) ddls luminances (top_of job);
  targets = targets_of indices.low.0 indices.range.0 255;
  indices = indices;
  mark = room_mark (room_of job) (get_or luminances 0 0);
}

module _ {job : Job} {ddls luminances : List ℕ} (m : Measurable job ddls luminances) where
  -- by its first and its last reading
  pub measured_is : measured job ddls luminances ≡ after (sweep_tests (added_of job) luminances) (λ indices. Ok (made_of job ddls luminances indices))
  unfolding measured
  measured_is = rw (curve.curve_first m.sweep, curve.curve_last m.sweep, ← m.sweep.pairs)

  -- the last reading is not below the first
  pub order : black_of (added_of job) luminances ≤ white_of (added_of job) luminances
  order = omega (arith, m.sweep.keep.keeps 0 (length luminances - 1))

  pub aims : (indices : IndexRange) → sweep_tests (added_of job) luminances ≡ Ok indices → Aims indices.low.0 indices.range.0 255
  aims indices e = grind (arith, passed _ _ indices e, range_low, range_high, range_between, order)
