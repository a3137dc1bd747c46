-- From an accepted record to its measured display.
-- Assumes nothing.
use mathlib.Core.Path.{◌≡◌, sym, ◌∙◌}
use mathlib.Core.List.{List}
use Prim.Native.Nat.{ℕ, ◌+◌, ◌-◌, ◌≤◌, ◌<◌}
use native.Mathlib.Numerals.{add-one}
use native.Mathlib.Omega.{arith}
use lib.ListN.{length, get_or}
use mir.Facts.{and_yes, leb_yes}
use Rattle.std.specs.Prelude.{Ok, Err}
use Rattle.laws.proofs.Rises.{keeps_by_steps}
use Rattle.record.specs.Sections.{sections, ddls_in, luminances_in}
use Rattle.record.specs.Reader.{ReadFrom, luminances_of}
use Rattle.record.specs.declared.Refusal.{Refusal}
use Rattle.record.specs.declared.Job.{Job}
use Rattle.record.specs.declared.items.JobRecord.{JobRecord}
use Rattle.record.specs.declared.items.Reading.{Reading}
use Rattle.record.proofs.Accepted.{accepted_job}
use Rattle.std.proofs.lemmas.List.{length-map}
use Rattle.record.proofs.Climbing.{ReadAt, luminance_at}
use Rattle.units.specs.declared.Luminance.{Luminance}
use Rattle.record.specs.Tests.{answer_of}
use Rattle.curve.specs.Room.{room_mark}
use Rattle.curve.specs.declared.RoomMark.{RoomMark}
use Rattle.target.specs.Target.{range_of}
use Rattle.target.specs.declared.IndexRange.{IndexRange}
use Rattle.engine.specs.Sound.{room_of, added_of, range_tests, InRange, soundness}
use Rattle.engine.specs.Drawing.{light_of, black_of, white_of, PassedTests}
use Rattle.engine.specs.declared.Light.{Light}
use Rattle.engine.specs.declared.TestedJob.{TestedJob}
use Rattle.engine.proofs.Measuring.{Measurable, made_of, measured_is}

-- an accepted record, measured
pub measurable : (s : List ℕ) {job : Job} → answer_of s ≡ Ok job → Measurable job (ddls_in (sections s)) (luminances_in (sections s))
measurable s e =
    let a = accepted_job s _ e in
    record {
      depth_low = a.depth_low;
      depth_high = a.depth_high;
      sweep = record {
        some = leb_yes (and_yes _ _ a.readings).0;
        pairs = a.pairs;
        first = a.first;
        last = a.last;
        rise = simp add-one a.ddls_rise;
        keep = keeps_by_steps _ (simp add-one a.luminances_keep);
      };
    }

module _ {s : List ℕ} {r : JobRecord} (h : ReadFrom s (Ok r)) (job : Job) (e : r.job ≡ Ok job) where
  is_accepted : answer_of s ≡ Ok job
  is_accepted = sym h.answer ∙ e

  -- no reading is darker than the first
  pub in_order : {first reading : Reading} (i : ℕ) → ReadAt r.sweep.raw.now 0 first → ReadAt r.sweep.raw.now i reading → i < length r.sweep.raw.now
      → first.luminance.0 ≤ reading.luminance.0
  in_order i f g l =
      rw (luminance_at r.sweep.raw.now 0 (omega arith) f 0, luminance_at r.sweep.raw.now i l g 0) (rw (← h.lists) at ((measurable s is_accepted).sweep.keep.keeps 0 i (omega arith) (rw (← h.lists, length-map) l)))

  -- by the first and the last reading, and the light that is worked out from the job
  module _ {first last : Luminance} {n : ℕ} (en : n ≡ length r.sweep.raw.now) (f : first.0 ≡ get_or (luminances_of r.sweep) 0 0) (l : last.0 ≡ get_or (luminances_of r.sweep) (n - 1) 0)
      {light : Light} (k : light ≡ light_of job) where
    black_is : light.added.0 + first.0 ≡ black_of (added_of job) (luminances_in (sections s))
    black_is = rw (← h.lists, k, f)

    white_is : light.added.0 + last.0 ≡ white_of (added_of job) (luminances_in (sections s))
    white_is = rw (← h.lists, length-map, k, l, en)

    pub sent_back : (q : Refusal) → range_tests (light.added.0 + first.0) (light.added.0 + last.0) ≡ Err q → soundness s ≡ Err q
    unfolding soundness
    sent_back q a = rw (is_accepted, measured_is (measurable s is_accepted), ← black_is, ← white_is, a)

    pub passed_tests : InRange (light.added.0 + first.0) (light.added.0 + last.0) → PassedTests s (record { found = r; job = job; light = light })
    passed_tests a = record { read = h; accepted = is_accepted; light = k; wide = rw (black_is, white_is) at a }

-- the indices of a job that was read of a record
abbrev pub range_in : List ℕ → Job → IndexRange
range_in s job = range_of (black_of (added_of job) (luminances_in (sections s))) (white_of (added_of job) (luminances_in (sections s)))

module _ {s : List ℕ} {tested : TestedJob} (p : PassedTests s tested) where
  -- it is sound
  pub sound : soundness s ≡ Ok (made_of tested.job (ddls_in (sections s)) (luminances_in (sections s)) (range_in s tested.job))
  unfolding soundness
  sound = rw (p.accepted, measured_is (measurable s p.accepted), p.wide)

  -- its room mark
  pub mark_is : {first : Luminance} {mark : RoomMark} → first.0 ≡ get_or (luminances_of tested.found.sweep) 0 0 → mark ≡ room_mark tested.light.room.0 first.0
      → mark ≡ room_mark (room_of tested.job) (get_or (luminances_in (sections s)) 0 0)
  mark_is f e = e ∙ rw (p.light, f, ← p.read.lists)
