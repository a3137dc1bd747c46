-- The report on a job record: what the program prints.
use Rattle.std.specs.Prelude.{ℕ, zero, suc, ◌≤◌, ◌≡◌, List, [], ◌++◌, ℤ, pos, Option, Some, None, Result, Ok, Err, length, get_or, replicate, codes}
use Rattle.record.specs.Refusals.{refusal_number}
use Rattle.record.specs.declared.Refusal.{Refusal}
use Rattle.curve.specs.declared.RoomMark.{RoomMark}
use Rattle.curve.specs.declared.RoomMark.TheVariants.{Low, High}
use Rattle.contrast.specs.declared.Verdict.{Verdict}
use Rattle.contrast.specs.declared.Verdict.TheVariants.{Pass, Fail}
use Rattle.engine.specs.Nearest.{nearest_answer, nearest_lent, NearestOutcome, values}
use Rattle.engine.specs.Nearest as of-nearest
use Rattle.engine.specs.Even.{even_answer, even_lent, EvenOutcome, worst}
use Rattle.engine.specs.Even as of-even
use Rattle.engine.specs.Check.{check_answer, CheckOutcome, not_measured, pass, fail}
use Rattle.engine.specs.Check as of-check
use Rattle.engine.specs.declared.NearestFigures.{NearestFigures}
use Rattle.engine.specs.declared.EvenFigures.{EvenFigures}
use Rattle.report.specs.Text.{decimal}

-- ---- its lines

abbrev pub refused_line : (number : ℕ) → List ℕ
refused_line number = codes "refused " ++ decimal number ++ codes "\n"

-- Jlo, Jhi and N
abbrev pub range_line : (jlo jhi range : ℕ) → List ℕ
range_line jlo jhi range = codes "range " ++ decimal jlo ++ codes " " ++ decimal jhi ++ codes " " ++ decimal range ++ codes "\n"

abbrev pub room_line : RoomMark → List ℕ
room_line Low = codes "room low\n"
room_line High = codes "room high\n"

abbrev pub even_line : (worst_step : ℕ) → List ℕ
even_line worst_step = codes "even " ++ decimal worst_step ++ codes "\n"

-- a job may have no check
abbrev pub check_line : Option Verdict → List ℕ
check_line None = codes "check none\n"
check_line (Some Pass) = codes "check pass\n"
check_line (Some Fail) = codes "check fail\n"

-- a P-value, its nearest and its even drive level
abbrev pub row : (p nearest even : ℕ) → List ℕ
row p nearest even = decimal p ++ codes " " ++ decimal nearest ++ codes " " ++ decimal even ++ codes "\n"

-- the rows of the P-values below n
unfoldable pub rows : (nearest even : List ℕ) (n : ℕ) → List ℕ
rows nearest even zero = []
rows nearest even (suc n) = rows nearest even n ++ row n (get_or nearest n 0) (get_or even n 0)

-- the lines of a job that is not refused
abbrev pub lines : (jlo jhi range : ℕ) → RoomMark → (worst_step : ℕ) → Option Verdict → (nearest even : List ℕ) → List ℕ
lines jlo jhi range mark worst_step check nearest even =
    range_line jlo jhi range ++ room_line mark ++ even_line worst_step ++ check_line check ++ rows nearest even 256

abbrev pub lines_of : NearestFigures → (worst_step : ℕ) → Option Verdict → (nearest even : List ℕ) → List ℕ
lines_of f = lines f.indices.low.0 f.indices.high.0 f.indices.range.0 f.mark

-- ---- the whole report, as an equation

-- nearest, then even, then check, up to the first refusal
abbrev pub report_by : Result NearestFigures Refusal → Result EvenFigures Refusal → Result (Option Verdict) Refusal → (nearest even : List ℕ) → List ℕ
report_by (Err r) e c n v = refused_line (refusal_number r)
report_by (Ok f) (Err r) c n v = refused_line (refusal_number r)
report_by (Ok f) (Ok g) (Err r) n v = refused_line (refusal_number r)
report_by (Ok f) (Ok g) (Ok check) n v = lines_of f g.worst check n v

-- the entries that each table is lent, and the places of the deviations
unfoldable pub entries : List ℕ
entries = replicate 256 0

unfoldable pub places : List ℤ
places = replicate 17 (pos 0)

-- the report on a record, by its bytes and the number of words lent to work in
unfoldable pub report_of : (bytes : List ℕ) (words : ℕ) → List ℕ
report_of bytes words =
    report_by
    (nearest_answer bytes (length entries))
    (even_answer bytes (length entries) words)
    (check_answer bytes (length places))
    (nearest_lent bytes entries)
    (even_lent bytes entries words)

-- ---- the same in document 01's numbers and conditions

-- the values of the two tables that are printed
pub record Tables (bytes work : List ℕ) (jlo jhi range : ℕ) (mark : RoomMark) (worst_step : ℕ) (nearest even : List ℕ) : Type 0 where
  pub error : ℕ
  pub made : NearestOutcome bytes entries nearest (values jlo jhi range mark error)
  pub even_made : EvenOutcome bytes entries work even (worst worst_step)

-- what can come of a record: the number of the first operation that refuses it, or both tables and what the check says
pub data ReportOutcome (bytes work : List ℕ) : (report : List ℕ) → Type 0 where
  by_nearest : {n : ℕ} {after : List ℕ} → NearestOutcome bytes entries after (of-nearest.number n) → ReportOutcome bytes work (refused_line n)
  by_even : {n jlo jhi range error : ℕ} {mark : RoomMark} {table after : List ℕ} → NearestOutcome bytes entries table (values jlo jhi range mark error)
      → EvenOutcome bytes entries work after (of-even.number n) → ReportOutcome bytes work (refused_line n)
  by_check : {n jlo jhi range worst_step : ℕ} {mark : RoomMark} {nearest even : List ℕ} {after : List ℤ}
      → Tables bytes work jlo jhi range mark worst_step nearest even → CheckOutcome bytes places after (of-check.number n) → ReportOutcome bytes work (refused_line n)
  unmeasured : {jlo jhi range worst_step : ℕ} {mark : RoomMark} {nearest even : List ℕ} {after : List ℤ}
      → Tables bytes work jlo jhi range mark worst_step nearest even → CheckOutcome bytes places after not_measured
      → ReportOutcome bytes work (lines jlo jhi range mark worst_step None nearest even)
  passes : {jlo jhi range worst_step : ℕ} {mark : RoomMark} {nearest even : List ℕ} {after : List ℤ}
      → Tables bytes work jlo jhi range mark worst_step nearest even → CheckOutcome bytes places after pass
      → ReportOutcome bytes work (lines jlo jhi range mark worst_step (Some Pass) nearest even)
  fails : {jlo jhi range worst_step : ℕ} {mark : RoomMark} {nearest even : List ℕ} {after : List ℤ}
      → Tables bytes work jlo jhi range mark worst_step nearest even → CheckOutcome bytes places after fail
      → ReportOutcome bytes work (lines jlo jhi range mark worst_step (Some Fail) nearest even)

-- what is promised of the text
pub record ReportPromise (bytes work text : List ℕ) : Type 0 where
  pub fits : length text ≤ 4694
  pub report : text ≡ report_of bytes (length work)
  pub outcome : ReportOutcome bytes work text

-- and of the words lent: those after the first 8,192 are as they were, and all of them where the even table is refused, as it is wherever the nearest is;
-- after a refusal by the check alone, 12 or 13, the first 8,192 may have changed
pub record WordsKept (bytes work work_after : List ℕ) : Type 0 where
  pub size : length work_after ≡ length work
  pub later : (i : ℕ) → 8192 ≤ i → get_or work_after i 0 ≡ get_or work i 0
  pub refused : {r : Refusal} → even_answer bytes (length entries) (length work) ≡ Err r → work_after ≡ work
