-- Tests 2 to 10 in document 01's numbers and conditions, for all operations.
use Rattle.std.specs.Prelude.{ℕ, ◌-◌, ◌≤◌, ◌<◌, ◌≡◌, List, Result, Ok, Err, get_or}
use Rattle.gsdf.specs.DisplayFunction.{jnd_luminance, index_of}
use Rattle.record.specs.Refusals.{refusal_number}
use Rattle.record.specs.Sections.{sections, ddls_in, luminances_in}
use Rattle.record.specs.Tests.{answer_of}
use Rattle.record.specs.declared.Refusal.{Refusal}
use Rattle.record.specs.declared.Job.{Job}
use Rattle.curve.specs.Room.{room_mark}
use Rattle.curve.specs.Curve.{curve_at, curve_of}
use Rattle.target.specs.Target.{range_of, targets_of}
use Rattle.engine.specs.Sound.{SoundJob, soundness, room_of, added_of, top_of}

-- F of a job whose record has these bytes
abbrev pub F : (bytes : List ℕ) → Job → ℕ → ℕ
F bytes job = curve_at (added_of job) (ddls_in (sections bytes)) (luminances_in (sections bytes))

-- Jlo, Jhi and N
abbrev pub jlo : (bytes : List ℕ) → Job → ℕ
jlo bytes job = index_of (F bytes job 0)

abbrev pub jhi : (bytes : List ℕ) → Job → ℕ
jhi bytes job = index_of (F bytes job (top_of job))

abbrev pub N : (bytes : List ℕ) → Job → ℕ
N bytes job = jhi bytes job - jlo bytes job

-- the record is sent back under this number, 2 to 10: by its reader, which gives 2 to 7, or by its display
pub data SendsBack (bytes : List ℕ) : (number : ℕ) → Type 0 where
  unread : {r : Refusal} → answer_of bytes ≡ Err r → SendsBack bytes (refusal_number r)
  black : {job : Job} → answer_of bytes ≡ Ok job → F bytes job 0 < jnd_luminance 1 → SendsBack bytes 8
  white : {job : Job} → answer_of bytes ≡ Ok job → jnd_luminance 1 ≤ F bytes job 0 → jnd_luminance 1023 < F bytes job (top_of job) → SendsBack bytes 9
  narrow : {job : Job} → answer_of bytes ≡ Ok job → jnd_luminance 1 ≤ F bytes job 0 → F bytes job (top_of job) ≤ jnd_luminance 1023 → N bytes job < 10000
      → SendsBack bytes 10

-- the job meets none of 2 to 10: where enough is lent too, it is sound
pub record GoesOn (bytes : List ℕ) (job : Job) : Type 0 where
  pub accepted : answer_of bytes ≡ Ok job
  pub black : jnd_luminance 1 ≤ F bytes job 0
  pub white : F bytes job (top_of job) ≤ jnd_luminance 1023
  pub wide : 10000 ≤ N bytes job

-- ---- the same beside what `soundness` gives

-- what a job makes of a record
unfoldable pub made_by : (bytes : List ℕ) → Job → SoundJob
made_by bytes job = record {
  accepted = job;
  curve = curve_of (added_of job) (ddls_in (sections bytes)) (luminances_in (sections bytes)) (top_of job);
  targets = targets_of (jlo bytes job) (N bytes job) 255;
  indices = range_of (F bytes job 0) (F bytes job (top_of job));
  mark = room_mark (room_of job) (get_or (luminances_in (sections bytes)) 0 0);
}

-- the conditions on a record, beside what `soundness` says of it
pub data Standing (bytes : List ℕ) : Result SoundJob Refusal → Type 0 where
  stands : {job : Job} → GoesOn bytes job → Standing bytes (Ok (made_by bytes job))
  returned : {r : Refusal} → SendsBack bytes (refusal_number r) → Standing bytes (Err r)

-- the record is sent back under number n
pub record Unsound (bytes : List ℕ) (n : ℕ) : Type 0 where
  pub refusal : Refusal
  pub is : soundness bytes ≡ Err refusal
  pub numbered : refusal_number refusal ≡ n
