-- The nearest table's result in bare numbers, as C takes it.
use Rattle.std.specs.Prelude.{ℕ, ◌≡◌, List, Result, Ok, Err, length}
use Rattle.record.specs.Refusals.{refusal_number}
use Rattle.record.specs.declared.Refusal.{Refusal}
use Rattle.curve.specs.Room.{mark_number}
use Rattle.engine.specs.Nearest.{nearest_answer, NearestPromise}
use Rattle.engine.specs.declared.NearestFigures.{NearestFigures}
use Rattle.yepidlaw.specs.declared.NearestResult.{NearestResult}

-- refusal 0 and the figures, or the refusal's number and 0 for each figure
abbrev pub nearest_result_of : Result NearestFigures Refusal → NearestResult
nearest_result_of (Ok figures) = record {
  refusal = 0;
  jlo = figures.indices.low.0;
  jhi = figures.indices.high.0;
  range = figures.indices.range.0;
  mark = mark_number figures.mark;
  error = figures.error.0;
}
nearest_result_of (Err r) = record {
  refusal = refusal_number r;
  jlo = 0;
  jhi = 0;
  range = 0;
  mark = 0;
  error = 0;
}

-- what a call promises: its result in numbers, and all that the operation promises of its answer and the entries
pub record NearestCall (bytes before after : List ℕ) (result : NearestResult) : Type 0 where
  pub numbers : result ≡ nearest_result_of (nearest_answer bytes (length before))
  pub promise : NearestPromise bytes before after (nearest_answer bytes (length before))
