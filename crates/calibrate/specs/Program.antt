-- The program over a reader and a writer whose bytes are known.
use Rattle.std.specs.Prelude.{ℕ, ◌<◌, ◌≤◌, List, Option, Result, OnOk, length}
use Rattle.std.specs.Io.KnownBytes.{Appends, Consumes, IsAtEnd}
use Rattle.report.specs.Report.{report_of}

-- Bytes were taken from the front of the input, at most 6,251; where no read failed, so many or all that it had. Where no write failed, the output grew by
-- the report on them, for which 8,192 words are lent, and by nothing else.
pub record ReportsOnFront {T E : Type 0} (input input_after output output_after : Option (List ℕ)) (reading writing : Result T E) : Type 0 where
  pub front : List ℕ
  pub size : length front ≤ 6251
  pub taken : Consumes input input_after front
  pub whole : OnOk reading (length front < 6251 → IsAtEnd input_after)
  pub written : OnOk writing (Appends output output_after (report_of front 8192))
