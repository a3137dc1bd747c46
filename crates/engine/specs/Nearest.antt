-- The nearest table of a job record.
use Rattle.std.specs.Prelude.{ℕ, ◌≤◌, ◌<◌, ◌≡◌, List, ◌++◌, Result, Ok, Err, if◌then◌else◌, nat_lt, length, get_or, drop}
use Rattle.record.specs.Refusals.{refusal_number}
use Rattle.record.specs.Sections.{after, sections, ddls_in, luminances_in}
use Rattle.record.specs.declared.Refusal.{Refusal}
use Rattle.record.specs.declared.Refusal.TheVariants.{LentTooShort}
use Rattle.record.specs.declared.Job.{Job}
use Rattle.curve.specs.Room.{room_mark}
use Rattle.curve.specs.Curve.{curve_of}
use Rattle.curve.specs.declared.RoomMark.{RoomMark}
use Rattle.target.specs.Target.{targets_of}
use Rattle.nearest.specs.Nearest.{nearest_table, largest_error}
use Rattle.engine.specs.Sound.{SoundJob, soundness, room_of, added_of, top_of}
use Rattle.engine.specs.Conditions.{jlo, jhi, N, SendsBack, GoesOn}
use Rattle.engine.specs.declared.NearestFigures.{NearestFigures}

-- ---- the answer and the lent entries, as equations

-- the 256 entries of a sound job
abbrev pub nearest_entries : SoundJob → List ℕ
nearest_entries job = nearest_table job.curve job.targets

abbrev pub nearest_figures : SoundJob → NearestFigures
nearest_figures job = record {
  indices = job.indices;
  mark = job.mark;
  error = record { 0 = largest_error job.curve job.targets (nearest_entries job) };
}

abbrev pub nearest_of : Result SoundJob Refusal → Result NearestFigures Refusal
nearest_of x = after x (λ job. Ok (nearest_figures job))

-- the answer, by the bytes of the record and the number of entries lent: test 1 comes first
unfoldable pub nearest_answer : (bytes : List ℕ) (entries : ℕ) → Result NearestFigures Refusal
nearest_answer bytes entries = if nat_lt entries 256 then Err LentTooShort else nearest_of (soundness bytes)

abbrev pub entries_over : Result SoundJob Refusal → List ℕ → List ℕ
entries_over (Ok job) before = nearest_entries job ++ drop (length job.targets) before
entries_over (Err r) before = before

-- the lent entries afterwards: the table and the later ones as they were, or all as they were
unfoldable pub nearest_lent : (bytes before : List ℕ) → List ℕ
nearest_lent bytes before = if nat_lt (length before) 256 then before else entries_over (soundness bytes) before

-- ---- the same in document 01's numbers and conditions

-- the values of a table that was made, or the number of a refusal
pub data NearestValues : Type 0 where
  values : (jlo jhi range : ℕ) (mark : RoomMark) (error : ℕ) → NearestValues
  number : ℕ → NearestValues

abbrev pub nearest_values : Result NearestFigures Refusal → NearestValues
nearest_values (Ok f) = values f.indices.low.0 f.indices.high.0 f.indices.range.0 f.mark f.error.0
nearest_values (Err r) = number (refusal_number r)

-- F(0) to F(M), and t(0) to t(255)
abbrev pub curve : (bytes : List ℕ) → Job → List ℕ
curve bytes job = curve_of (added_of job) (ddls_in (sections bytes)) (luminances_in (sections bytes)) (top_of job)

abbrev pub targets : (bytes : List ℕ) → Job → List ℕ
targets bytes job = targets_of (jlo bytes job) (N bytes job) 255

-- the table, its largest error, and the room mark
abbrev pub table : (bytes : List ℕ) → Job → List ℕ
table bytes job = nearest_table (curve bytes job) (targets bytes job)

abbrev pub error : (bytes : List ℕ) → Job → ℕ
error bytes job = largest_error (curve bytes job) (targets bytes job) (table bytes job)

abbrev pub mark : (bytes : List ℕ) → Job → RoomMark
mark bytes job = room_mark (room_of job) (get_or (luminances_in (sections bytes)) 0 0)

-- what can come of a record and the entries lent: a number under its condition and no entry changed, or the table
pub data NearestOutcome (bytes before : List ℕ) : (after : List ℕ) → NearestValues → Type 0 where
  short : length before < 256 → NearestOutcome bytes before before (number 1)
  back : {n : ℕ} → 256 ≤ length before → SendsBack bytes n → NearestOutcome bytes before before (number n)
  made : {job : Job} → 256 ≤ length before → GoesOn bytes job
      → NearestOutcome bytes before (table bytes job ++ drop 256 before) (values (jlo bytes job) (jhi bytes job) (N bytes job) (mark bytes job) (error bytes job))

-- what the operation promises of its answer and of the entries after it
pub record NearestPromise (bytes before after : List ℕ) (answer : Result NearestFigures Refusal) : Type 0 where
  pub answers : answer ≡ nearest_answer bytes (length before)
  pub table : after ≡ nearest_lent bytes before
  pub outcome : NearestOutcome bytes before after (nearest_values answer)
