-- What a sound job makes, and what sends the others back: tests 2 to 10 in their order, for all operations.
use Rattle.std.specs.Prelude.{ℕ, ◌+◌, ◌-◌, ◌≤◌, ◌<◌, ◌≡◌, List, Result, Ok, Err, if◌then◌else◌, length, get_or}
use Rattle.laws.specs.Rises.{NeverFalls}
use Rattle.gsdf.specs.DisplayFunction.{luminance_of, index_of, InTable}
use Rattle.record.specs.Sections.{after, sections, ddls_in, luminances_in}
use Rattle.record.specs.Tests.{max_ddl, answer_of}
use Rattle.record.specs.declared.Refusal.{Refusal}
use Rattle.record.specs.declared.Refusal.TheVariants.{BlackBelowTable, WhiteAboveTable, RangeTooNarrow}
use Rattle.record.specs.declared.Job.{Job}
use Rattle.curve.specs.Room.{room_luminance, added_luminance, room_mark}
use Rattle.gsdf.specs.Ends.{below_table, above_table}
use Rattle.curve.specs.Curve.{curve_at, curve_of}
use Rattle.curve.specs.declared.RoomMark.{RoomMark}
use Rattle.target.specs.Target.{range_of, too_narrow, targets_of}
use Rattle.target.specs.declared.IndexRange.{IndexRange}

-- what the operations work with
pub record SoundJob : Type 0 where
  -- its settings and lamps
  pub accepted : Job
  -- F(0) to F(M)
  pub curve : List ℕ
  -- t(0) to t(255)
  pub targets : List ℕ
  -- Jlo, Jhi and N
  pub indices : IndexRange
  -- the room mark
  pub mark : RoomMark

-- A0 of a job
abbrev pub room_of : Job → ℕ
room_of job = room_luminance job.lamps.0 job.settings.reflectance.0

-- A of a job
abbrev pub added_of : Job → ℕ
added_of job = added_luminance job.settings.meter (room_of job)

-- M of a job
abbrev pub top_of : Job → ℕ
top_of job = max_ddl job.settings.depth

-- tests 8, 9 and 10 in their order, by F(0) and F(M)
unfoldable pub range_tests : (black white : ℕ) → Result IndexRange Refusal
range_tests black white =
    if below_table black then Err BlackBelowTable else
    (if above_table white then Err WhiteAboveTable else
    (if too_narrow (range_of black white).range.0 then Err RangeTooNarrow else
    Ok (range_of black white)))

-- they let a display pass, with the indices of F(0) and F(M)
abbrev pub InRange : (black white : ℕ) → Type 0
InRange black white = range_tests black white ≡ Ok (range_of black white)

-- what an accepted job and its sweep make
unfoldable pub measured : (job : Job) (ddls luminances : List ℕ) → Result SoundJob Refusal
measured job ddls luminances =
    let F = curve_at (added_of job) ddls luminances in
    after (range_tests (F 0) (F (top_of job)))
    (λ indices. Ok (record {
      accepted = job;
      curve = curve_of (added_of job) ddls luminances (top_of job);
      targets = targets_of indices.low.0 indices.range.0 255;
      indices = indices;
      mark = room_mark (room_of job) (get_or luminances 0 0);
    }))

-- what a record of any bytes makes, or what sends it back by tests 2 to 10; test 1 is of what is lent, and each operation's own
unfoldable pub soundness : (bytes : List ℕ) → Result SoundJob Refusal
soundness bytes = after (answer_of bytes) (λ job. measured job (ddls_in (sections bytes)) (luminances_in (sections bytes)))

-- what is known of each sound job
pub record IsSound (job : SoundJob) : Type 0 where
  -- 256 to 1,024 levels, whose luminances never fall and lie in the range of Table B-1
  pub levels_low : 256 ≤ length job.curve
  pub levels_high : length job.curve ≤ 1024
  pub curve_keeps : NeverFalls job.curve
  pub curve_in : (d : ℕ) → d < length job.curve → InTable (get_or job.curve d 0)
  -- Jlo = J(F(0)), Jhi = J(F(M)), and N is what lies between them, 10,000 or more
  pub black : job.indices.low.0 ≡ index_of (get_or job.curve 0 0)
  pub white : job.indices.high.0 ≡ index_of (get_or job.curve (length job.curve - 1) 0)
  pub between : job.indices.low.0 + job.indices.range.0 ≡ job.indices.high.0
  pub wide : 10000 ≤ job.indices.range.0
  -- 256 targets, from G(Jlo) to G(Jhi), which rise strictly and lie in that range too
  pub values : length job.targets ≡ 256
  pub first : get_or job.targets 0 0 ≡ luminance_of job.indices.low.0
  pub last : get_or job.targets 255 0 ≡ luminance_of job.indices.high.0
  pub targets_rise : (p q : ℕ) → p < q → q < 256 → get_or job.targets p 0 < get_or job.targets q 0
  pub targets_in : (p : ℕ) → p < 256 → InTable (get_or job.targets p 0)
  -- w is 1,000 at most
  pub tolerance : job.accepted.settings.tolerance ≤ 1000
