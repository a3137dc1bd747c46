-- What follows from the definition of the report.
use Rattle.std.specs.Prelude.{ℕ, zero, suc, ◌≤◌, ◌≡◌, Bool, true, not, ◌&&◌, List, [], ◌∷◌, ◌++◌, ◌⊎◌, T, eqb, take, codes}
use Rattle.report.specs.Report.{report_of}

-- no byte is a line feed, 10
unfoldable pub has_no_feed : List ℕ → Bool
has_no_feed [] = true
has_no_feed (b ∷ bytes) = not (eqb b 10) && has_no_feed bytes

-- a line with its line feed, and after it what is said of the rest
pub record FirstLine (Rest : List ℕ → Type 0) (bytes : List ℕ) : Type 0 where
  pub line : List ℕ
  pub rest : List ℕ
  pub no_feed : T (has_no_feed line)
  pub is : bytes ≡ line ++ (10 ∷ rest)
  pub after : Rest rest

-- the bytes are n lines, each with its line feed, and nothing else
unfoldable pub Lines : ℕ → List ℕ → Type 0
Lines zero bytes = bytes ≡ []
Lines (suc n) bytes = FirstLine (Lines n) bytes

pub record ReportFacts : Type 0 where
  -- what follows the first 6,251 bytes of an input changes nothing, so the program reads no more of it
  pub front : (bytes : List ℕ) (words : ℕ) → report_of (take 6251 bytes) words ≡ report_of bytes words
  -- the report on empty input
  pub empty : (words : ℕ) → report_of [] words ≡ codes "refused 2\n"
  -- from 8,192 words on their number does not show
  pub words_enough : (bytes : List ℕ) (words : ℕ) → 8192 ≤ words → report_of bytes words ≡ report_of bytes 8192
  -- a report is one line where an operation refuses the record (`refused_line`), else 260 (`lines`)
  pub whole_lines : (bytes : List ℕ) (words : ℕ) → Lines 1 (report_of bytes words) ⊎ Lines 260 (report_of bytes words)
