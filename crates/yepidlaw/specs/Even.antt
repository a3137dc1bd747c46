-- The even table's result in bare numbers, as C takes it.
use Rattle.std.specs.Prelude.{ℕ, ◌≡◌, List, Result, Ok, Err, length}
use Rattle.record.specs.Refusals.{refusal_number}
use Rattle.record.specs.declared.Refusal.{Refusal}
use Rattle.engine.specs.Even.{even_answer, EvenPromise}
use Rattle.engine.specs.declared.EvenFigures.{EvenFigures}
use Rattle.yepidlaw.specs.declared.EvenResult.{EvenResult}

-- refusal 0 and the worst step, or the refusal's number and 0
abbrev pub even_result_of : Result EvenFigures Refusal → EvenResult
even_result_of (Ok figures) = record { refusal = 0; worst = figures.worst }
even_result_of (Err r) = record { refusal = refusal_number r; worst = 0 }

-- what a call promises: its result in numbers, and all that the operation promises of its answer, the entries and the words
pub record EvenCall (bytes before after work work_after : List ℕ) (result : EvenResult) : Type 0 where
  pub numbers : result ≡ even_result_of (even_answer bytes (length before) (length work))
  pub promise : EvenPromise bytes before after work work_after (even_answer bytes (length before) (length work))
