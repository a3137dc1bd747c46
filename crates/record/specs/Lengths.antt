-- How long an accepted record is.
use Rattle.std.specs.Prelude.{ℕ, ◌≤◌, List, ◌≡◌, length, T, Ok}
use Rattle.record.specs.Tests.{all_up_to, answer_of}
use Rattle.record.specs.declared.Job.{Job}

-- some list of n bytes is accepted
pub record AcceptedOf (n : ℕ) : Type 0 where
  pub s : List ℕ
  pub bytes : T (all_up_to 255 s)
  pub size : length s ≡ n
  pub job : Job
  pub accepted : answer_of s ≡ Ok job

pub record AcceptedLengths : Type 0 where
  pub least : (s : List ℕ) (job : Job) → answer_of s ≡ Ok job → 30 ≤ length s
  pub most : (s : List ℕ) (job : Job) → answer_of s ≡ Ok job → length s ≤ 6250
  pub shortest : AcceptedOf 30
  pub longest : AcceptedOf 6250
