-- The contrast check of a job record.
use Rattle.std.specs.Prelude.{ℕ, ◌*◌, ◌≤◌, ◌<◌, ◌≡◌, List, ◌++◌, Option, Some, None, Result, Ok, Err, if◌then◌else◌, nat_lt, ◌==◌, ◌⊎◌, ℤ, pos, nat_abs, length, drop, ◌<ℤ◌, ◌≤ℤ◌}
use Rattle.gsdf.specs.DisplayFunction.{jnd_luminance}
use Rattle.record.specs.Refusals.{refusal_number}
use Rattle.record.specs.Sections.{after, sections, check_in}
use Rattle.record.specs.declared.Refusal.{Refusal}
use Rattle.record.specs.declared.Refusal.TheVariants.{LentTooShort}
use Rattle.record.specs.declared.Job.{Job}
use Rattle.contrast.specs.Deviation.{expected_contrast, excess}
use Rattle.contrast.specs.Check.{shown, check_range, at_pair, limit_of, limit_parts, deviations_of, contrast_of, deviations_over}
use Rattle.contrast.specs.declared.Verdict.{Verdict}
use Rattle.contrast.specs.declared.Verdict.TheVariants as verdict
use Rattle.engine.specs.Sound.{SoundJob, soundness, added_of}
use Rattle.engine.specs.Conditions.{SendsBack, GoesOn}

-- ---- the answer and the lent places, as equations

-- v of document 01, by an accepted job and its check readings
abbrev pub check_luminance : Job → (readings : List ℕ) → ℕ → ℕ
check_luminance job readings = shown (added_of job) readings

-- the check of a sound job by its check readings: no verdict where there are none, else it or refusal 12 or 13
unfoldable pub check_of : Job → (readings : List ℕ) → Result (Option Verdict) Refusal
check_of job readings =
    if length readings == 0 then Ok None else
    after (contrast_of (limit_of job.settings.class) (check_luminance job readings)) (λ verdict. Ok (Some verdict))

-- the same after tests 2 to 10
abbrev pub check_after : Result SoundJob Refusal → (readings : List ℕ) → Result (Option Verdict) Refusal
check_after x readings = after x (λ job. check_of job.accepted readings)

-- the answer, by the bytes of the record and the number of places lent: test 1 comes first
unfoldable pub check_answer : (bytes : List ℕ) (places : ℕ) → Result (Option Verdict) Refusal
check_answer bytes places = if nat_lt places 17 then Err LentTooShort else check_after (soundness bytes) (check_in (sections bytes))

-- the lent places after the check of a sound job
unfoldable pub places_of : Job → (readings : List ℕ) → List ℤ → List ℤ
places_of job readings before = if length readings == 0 then before else deviations_over (check_luminance job readings) before

-- and after tests 2 to 10
abbrev pub places_over : Result SoundJob Refusal → (readings : List ℕ) → List ℤ → List ℤ
places_over (Ok job) readings before = places_of job.accepted readings before
places_over (Err r) readings before = before

-- the lent places afterwards: the deviations and the later ones as they were, or all as they were
unfoldable pub check_lent : (bytes : List ℕ) (before : List ℤ) → List ℤ
check_lent bytes before = if nat_lt (length before) 17 then before else places_over (soundness bytes) (check_in (sections bytes)) before

-- ---- the same in document 01's numbers and conditions

-- what a check says, or the number of a refusal
pub data CheckValues : Type 0 where
  not_measured : CheckValues
  pass : CheckValues
  fail : CheckValues
  number : ℕ → CheckValues

-- document 01's word or number for each answer
abbrev pub check_values : Result (Option Verdict) Refusal → CheckValues
check_values (Ok None) = not_measured
check_values (Ok (Some verdict.Pass)) = pass
check_values (Ok (Some verdict.Fail)) = fail
check_values (Err r) = number (refusal_number r)

-- v(0) to v(17) of a record
abbrev pub v : (bytes : List ℕ) → Job → ℕ → ℕ
v bytes job = check_luminance job (check_in (sections bytes))

-- |X − Y| × 10 for a primary screen, × 5 for a secondary one, at pair i
abbrev pub scaled_excess : (bytes : List ℕ) → Job → ℕ → ℕ
scaled_excess bytes job i = nat_abs (at_pair excess (v bytes job) i) * limit_parts (limit_of job.settings.class)

-- Y at pair i
abbrev pub Y : (bytes : List ℕ) → Job → ℕ → ℕ
Y bytes job i = at_pair expected_contrast (v bytes job) i

-- the slice is long enough, the job is sound, and it has check readings
pub record HasReadings (bytes : List ℕ) (before : List ℤ) (job : Job) : Type 0 where
  pub long : 17 ≤ length before
  pub goes_on : GoesOn bytes job
  pub readings : length (check_in (sections bytes)) ≡ 18

-- and none of them meets 12
pub record Inside (bytes : List ℕ) (before : List ℤ) (job : Job) : Type 0 where
  pub checks : HasReadings bytes before job
  pub low : (i : ℕ) → i < 18 → jnd_luminance 1 ≤ v bytes job i
  pub high : (i : ℕ) → i < 18 → v bytes job i ≤ jnd_luminance 1023

-- what can come of a record and the places lent: a number under its condition, or "not measured", and no place changed; or the verdict and the deviations
pub data CheckOutcome (bytes : List ℕ) (before : List ℤ) : (after : List ℤ) → CheckValues → Type 0 where
  short : length before < 17 → CheckOutcome bytes before before (number 1)
  back : {n : ℕ} → 17 ≤ length before → SendsBack bytes n → CheckOutcome bytes before before (number n)
  unmeasured : {job : Job} → 17 ≤ length before → GoesOn bytes job → length (check_in (sections bytes)) ≡ 0 → CheckOutcome bytes before before not_measured
  outside : {job : Job} → HasReadings bytes before job → (i : ℕ) → i < 18 → (v bytes job i < jnd_luminance 1) ⊎ (jnd_luminance 1023 < v bytes job i)
      → CheckOutcome bytes before before (number 12)
  narrow : {job : Job} → Inside bytes before job → check_range (v bytes job) <ℤ pos 10000 → CheckOutcome bytes before before (number 13)
  passes : {job : Job} → Inside bytes before job → pos 10000 ≤ℤ check_range (v bytes job) → ((i : ℕ) → i < 17 → scaled_excess bytes job i ≤ Y bytes job i)
      → CheckOutcome bytes before (deviations_of (v bytes job) ++ drop 17 before) pass
  fails : {job : Job} → Inside bytes before job → pos 10000 ≤ℤ check_range (v bytes job) → (i : ℕ) → i < 17 → Y bytes job i < scaled_excess bytes job i
      → CheckOutcome bytes before (deviations_of (v bytes job) ++ drop 17 before) fail

-- what the operation promises of its answer and of the places after it
pub record CheckPromise (bytes : List ℕ) (before after : List ℤ) (answer : Result (Option Verdict) Refusal) : Type 0 where
  pub answers : answer ≡ check_answer bytes (length before)
  pub deviations : after ≡ check_lent bytes before
  pub outcome : CheckOutcome bytes before after (check_values answer)
