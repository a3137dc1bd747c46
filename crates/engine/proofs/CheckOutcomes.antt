-- The contrast check in document 01's numbers and conditions.
-- Assumes nothing.
use native.Mathlib.Omega.{arith}
use mathlib.Core.Path.{◌≡◌}
use mathlib.Core.Bool.{true, false, ◌||◌}
use mathlib.Core.List.{List, ◌++◌}
use mathlib.Core.Logic.{◌⊎◌, ⊎_elim}
use Prim.Native.Nat.{ℕ, ◌≤◌, ◌<◌}
use lib.IntN.{ℤ, pos}
use lib.ListN.{length, drop}
use lib.Signed.{◌≤ℤ◌}
use borrow.Author.Tests.{leb-true, leb-false, le-ltb, lt-ltb}
use Rattle.std.specs.Prelude.{Option, Result}
use Rattle.laws.specs.Search.{all}
use Rattle.laws.proofs.Cases.{by, yes_is, le_or_lt}
use Rattle.laws.proofs.Search.{none_of, some_of, all_of, not_all}
use Rattle.gsdf.specs.Ends.{below_table, above_table}
use Rattle.record.specs.Sections.{sections, check_in}
use Rattle.record.specs.declared.Job.{Job}
use Rattle.record.proofs.Accepted.{accepted_job}
use Rattle.contrast.specs.Deviation.{keeps_limit}
use Rattle.contrast.specs.Check.{some_outside, check_range, check_too_narrow, at_pair, limit_parts, deviations_of, verdict_of, contrast_of, deviations_over, limit_of}
use Rattle.record.specs.declared.Refusal.{Refusal}
use Rattle.contrast.specs.declared.Verdict.{Verdict}
use Rattle.engine.specs.Sound.{SoundJob}
use Rattle.engine.specs.Conditions.{GoesOn, made_by, Standing, stands, returned}
use Rattle.engine.specs.Check.{check_of, check_after, check_answer, places_of, places_over, check_lent, number, pass, fail, check_values, v, HasReadings, Inside, CheckOutcome, short, back, unmeasured, outside, narrow, passes, fails, CheckPromise}
use Rattle.engine.proofs.CheckTests.{past_end, not_past, not_less}
use Rattle.engine.proofs.Conditions.{standing}

-- ---- the outcome of a sound job

module _ (bytes : List ℕ) (before : List ℤ) (long : 17 ≤ length before) (job : Job) (g : GoesOn bytes job) where
  abbrev Of : Result (Option Verdict) Refusal → List ℤ → Type 0
  Of answer after = CheckOutcome bytes before after (check_values answer)

  some_or_none : (length (check_in (sections bytes)) ≡ 0) ⊎ (length (check_in (sections bytes)) ≡ 18)
  some_or_none = let a = (accepted_job bytes job g.accepted).patches in grind arith

  module _ (n : length (check_in (sections bytes)) ≡ 18) where
    checks : HasReadings bytes before job
    checks = record { long = long; goes_on = g; readings = n }

    inside : some_outside (v bytes job) ≡ false → Inside bytes before job
    unfolding some_outside
    inside e = record {
      checks = checks;
      low = λ i h. (not_past (v bytes job i) (none_of (λ i. below_table (v bytes job i) || above_table (v bytes job i)) 18 i e h)).0;
      high = λ i h. (not_past (v bytes job i) (none_of (λ i. below_table (v bytes job i) || above_table (v bytes job i)) 18 i e h)).1;
    }

    found_outside : some_outside (v bytes job) ≡ true → CheckOutcome bytes before before (number 12)
    unfolding some_outside
    found_outside e = some_of (λ i. below_table (v bytes job i) || above_table (v bytes job i)) 18 e (λ i h t. outside checks i h (past_end (v bytes job i) t))

    module _ (o : some_outside (v bytes job) ≡ false) where
      found_narrow : check_too_narrow (v bytes job) ≡ true → CheckOutcome bytes before before (number 13)
      unfolding check_too_narrow
      found_narrow e = narrow (inside o) (record { lt = yes_is e })

      module _ (w : check_too_narrow (v bytes job) ≡ false) where
        wide : pos 10000 ≤ℤ check_range (v bytes job)
        unfolding check_too_narrow
        wide = not_less (check_range (v bytes job)) 10000 w

        found_pass : all (at_pair (keeps_limit (limit_parts (limit_of job.settings.class))) (v bytes job)) 17 ≡ true
            → CheckOutcome bytes before (deviations_of (v bytes job) ++ drop 17 before) pass
        unfolding at_pair keeps_limit
        found_pass k = passes (inside o) wide (λ i h. leb-true _ _ (all_of (at_pair (keeps_limit (limit_parts (limit_of job.settings.class))) (v bytes job)) 17 i k h))

        found_fail : all (at_pair (keeps_limit (limit_parts (limit_of job.settings.class))) (v bytes job)) 17 ≡ false
            → CheckOutcome bytes before (deviations_of (v bytes job) ++ drop 17 before) fail
        unfolding at_pair keeps_limit
        found_fail k = not_all (at_pair (keeps_limit (limit_parts (limit_of job.settings.class))) (v bytes job)) 17 k (λ i h t. fails (inside o) wide i h (leb-false _ _ t))

  job_outcome : Of (check_of job (check_in (sections bytes))) (places_of job (check_in (sections bytes)) before)
  unfolding check_of places_of contrast_of deviations_over verdict_of
  job_outcome =
      ⊎_elim
      (λ z. rw z (unmeasured long g z))
      (λ n. by (some_outside (v bytes job))
      (λ o. rw n (simp o (found_outside n o)))
      (λ o. by (check_too_narrow (v bytes job))
      (λ w. rw n (simp (o, w) (found_narrow n o w)))
      (λ w. by (all (at_pair (keeps_limit (limit_parts (limit_of job.settings.class))) (v bytes job)) 17)
      (λ k. rw n (simp (o, w, k) (found_pass n o w k)))
      (λ k. rw n (simp (o, w, k) (found_fail n o w k))))))
      some_or_none

-- ---- the outcome of any record

module _ (bytes : List ℕ) (before : List ℤ) where
  long_outcome : (x : Result SoundJob Refusal) → 17 ≤ length before → Standing bytes x
      → CheckOutcome bytes before (places_over x (check_in (sections bytes)) before) (check_values (check_after x (check_in (sections bytes))))
  unfolding made_by
  long_outcome _ long (returned b) = back long b
  long_outcome _ long (stands {job = job} g) = job_outcome bytes before long job g

  pub some_check : CheckOutcome bytes before (check_lent bytes before) (check_values (check_answer bytes (length before)))
  unfolding check_answer check_lent
  some_check =
      ⊎_elim
      (λ (long : 17 ≤ length before). simp (le-ltb _ _ long) (long_outcome _ long (standing bytes)))
      (λ (under : length before < 17). simp (lt-ltb _ _ under) (short under))
      (le_or_lt 17 (length before))

  -- the two equations are the whole promise
  pub promised : (after : List ℤ) (answer : Result (Option Verdict) Refusal) → answer ≡ check_answer bytes (length before) → after ≡ check_lent bytes before → CheckPromise bytes before after answer
  promised after answer e f = record { answers = e; deviations = f; outcome = rw (e, f) some_check }
