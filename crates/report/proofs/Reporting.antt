-- The report, by the outcomes of the three operations.
-- Assumes nothing.
use Prim.Native.Nat.{ℕ, ◌≤◌}
use mathlib.Core.Path.{◌≡◌, sym, ◌∙◌}
use mathlib.Core.List.{List}
use lib.IntN.{ℤ}
use lib.ListN.{length}
use Rattle.record.specs.Refusals.{refusal_number}
use Rattle.record.specs.declared.Refusal.{Refusal}
use Rattle.contrast.specs.declared.Verdict.{Verdict}
use Rattle.contrast.specs.declared.Verdict.TheVariants.{Pass, Fail}
use Rattle.std.specs.Prelude.{Option, Some, None, Result, Ok, Err}
use Rattle.engine.specs.Nearest.{nearest_answer, nearest_lent, nearest_values, NearestOutcome}
use Rattle.engine.specs.Even.{even_answer, even_lent, even_values, EvenOutcome, EvenPromise}
use Rattle.engine.specs.Check.{check_answer, check_values, CheckOutcome}
use Rattle.engine.specs.declared.NearestFigures.{NearestFigures}
use Rattle.engine.specs.declared.EvenFigures.{EvenFigures}
use Rattle.engine.proofs.NearestOutcomes.{some_outcome}
use Rattle.engine.proofs.EvenOutcomes.{some_even}
use Rattle.engine.proofs.CheckOutcomes.{some_check}
use Rattle.report.specs.Report.{refused_line, lines_of, report_by, report_of, entries, places, ReportOutcome, by_nearest, by_even, by_check, unmeasured, passes, fails, ReportPromise, WordsKept}

module _ {bytes work first second : List ℕ} {third : List ℤ} where
  by_answers : (n : Result NearestFigures Refusal) (e : Result EvenFigures Refusal) (c : Result (Option Verdict) Refusal) → NearestOutcome bytes entries first (nearest_values n)
      → EvenOutcome bytes entries work second (even_values e) → CheckOutcome bytes places third (check_values c)
      → ReportOutcome bytes work (report_by n e c first second)
  by_answers (Err r) e c o p q = by_nearest o
  by_answers (Ok f) (Err r) c o p q = by_even o p
  by_answers (Ok f) (Ok g) (Err r) o p q = by_check (record { error = _; made = o; even_made = p }) q
  by_answers (Ok f) (Ok g) (Ok None) o p q = unmeasured (record { error = _; made = o; even_made = p }) q
  by_answers (Ok f) (Ok g) (Ok (Some Pass)) o p q = passes (record { error = _; made = o; even_made = p }) q
  by_answers (Ok f) (Ok g) (Ok (Some Fail)) o p q = fails (record { error = _; made = o; even_made = p }) q

-- every record comes out in one of these ways
pub some_report : (bytes work : List ℕ) → ReportOutcome bytes work (report_of bytes (length work))
unfolding report_of
some_report bytes work =
    by_answers (nearest_answer bytes (length entries)) (even_answer bytes (length entries) (length work)) (check_answer bytes (length places))
    (some_outcome bytes entries)
    (some_even bytes entries work)
    (some_check bytes places)

-- by the answers of the operations, up to the first refusal
module _ (bytes : List ℕ) (words : ℕ) where
  pub nearest_refuses : {r : Refusal} → Err r ≡ nearest_answer bytes 256 → refused_line (refusal_number r) ≡ report_of bytes words
  unfolding report_of entries
  nearest_refuses e = rw (sym e)

  module _ {f : NearestFigures} (made : Ok f ≡ nearest_answer bytes 256) where
    pub even_refuses : {r : Refusal} → Err r ≡ even_answer bytes 256 words → refused_line (refusal_number r) ≡ report_of bytes words
    unfolding report_of entries
    even_refuses e = rw (sym made, sym e)

    pub check_refuses : {g : EvenFigures} {r : Refusal} → Ok g ≡ even_answer bytes 256 words → Err r ≡ check_answer bytes 17 → refused_line (refusal_number r) ≡ report_of bytes words
    unfolding report_of entries places
    check_refuses e k = rw (sym made, sym e, sym k)

    pub all_made : {g : EvenFigures} {check : Option Verdict} {nearest even : List ℕ} → Ok g ≡ even_answer bytes 256 words → Ok check ≡ check_answer bytes 17
        → nearest ≡ nearest_lent bytes entries → even ≡ even_lent bytes entries words → lines_of f g.worst check nearest even ≡ report_of bytes words
    unfolding report_of entries places
    all_made e k n v = rw (sym made, sym e, sym k, n, v)

-- the words lent, by what the even table promises of them
pub kept : {bytes table work work_after : List ℕ} {answer : Result EvenFigures Refusal} → EvenPromise bytes entries table work work_after answer → WordsKept bytes work work_after
kept p = record { size = p.words_size; later = p.words_later; refused = λ h. p.words_refused (p.answers ∙ h) }

-- a text that is the report, and no longer than there is room for
pub reported : {bytes work text : List ℕ} → length text ≤ 4694 → text ≡ report_of bytes (length work) → ReportPromise bytes work text
reported {bytes = bytes} {work = work} h e = record { fits = h; report = e; outcome = rw e (some_report bytes work) }
