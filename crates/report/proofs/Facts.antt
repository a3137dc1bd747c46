-- What follows from the definition of the report.
-- Assumes nothing.
use Prim.Native.Nat.{ℕ, ◌≤◌}
use mathlib.Core.Path.{◌≡◌, refl}
use mathlib.Core.List.{List, []}
use lib.ListN.{take}
use borrow.Author.Tests.{le-ltb}
use Rattle.record.specs.Sections.{sections, layout_of, count_of}
use Rattle.record.specs.Tests.{answer_of}
use Rattle.record.proofs.Front.{sections_front}
use Rattle.engine.specs.Sound.{soundness}
use Rattle.engine.specs.Nearest.{nearest_answer, nearest_lent}
use Rattle.engine.specs.Even.{even_answer, even_lent}
use Rattle.engine.specs.Check.{check_answer}
use lib.Chars.{codes}
use Rattle.report.specs.Text.{decimal, digits_within}
use Rattle.report.specs.Report.{report_of, entries}
use Rattle.report.specs.Facts.{ReportFacts}
use Rattle.report.proofs.Lines.{whole_lines}

-- all that the operations use of the bytes are their sections
front : (bytes : List ℕ) (words : ℕ) → report_of (take 6251 bytes) words ≡ report_of bytes words
unfolding report_of nearest_answer nearest_lent even_answer even_lent check_answer soundness answer_of
front bytes words = rw (sections_front bytes) refl

empty : (words : ℕ) → report_of [] words ≡ codes "refused 2\n"
unfolding report_of entries nearest_answer soundness answer_of sections layout_of count_of decimal digits_within
empty words = refl

words_enough : (bytes : List ℕ) (words : ℕ) → 8192 ≤ words → report_of bytes words ≡ report_of bytes 8192
unfolding report_of entries even_answer even_lent
words_enough bytes words h = simp (le-ltb words 8192 h)

pub report_facts : ReportFacts
report_facts = record { front = front; empty = empty; words_enough = words_enough; whole_lines = whole_lines }
