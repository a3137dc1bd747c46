-- The contrast check's result in bare numbers, as C takes it.
use Rattle.std.specs.Prelude.{ℕ, ◌≡◌, List, Option, Some, None, Result, Ok, Err, ℤ, length}
use Rattle.record.specs.Refusals.{refusal_number}
use Rattle.record.specs.declared.Refusal.{Refusal}
use Rattle.contrast.specs.declared.Verdict.{Verdict}
use Rattle.contrast.specs.Check.{verdict_number}
use Rattle.engine.specs.Check.{check_answer, CheckPromise}
use Rattle.yepidlaw.specs.declared.CheckResult.{CheckResult}

-- refusal 0 and the verdict, 0 for a check that was not measured; or the refusal's number and 0
abbrev pub check_result_of : Result (Option Verdict) Refusal → CheckResult
check_result_of (Ok None) = record { refusal = 0; verdict = 0 }
check_result_of (Ok (Some verdict)) = record { refusal = 0; verdict = verdict_number verdict }
check_result_of (Err r) = record { refusal = refusal_number r; verdict = 0 }

-- what a call promises: its result in numbers, and all that the operation promises of its answer and the places
pub record CheckCall (bytes : List ℕ) (before after : List ℤ) (result : CheckResult) : Type 0 where
  pub numbers : result ≡ check_result_of (check_answer bytes (length before))
  pub promise : CheckPromise bytes before after (check_answer bytes (length before))
