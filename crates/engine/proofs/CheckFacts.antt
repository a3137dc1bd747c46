-- What follows from the promise of the contrast check.
-- Assumes nothing.
use mathlib.Core.Path.{◌≡◌, refl, sym, ◌∙◌}
use mathlib.Core.Bool.{true, false}
use mathlib.Core.List.{List, ◌++◌}
use Prim.Native.Nat.{ℕ, ◌+◌, ◌-◌, ◌≤◌, ◌<◌}
use native.Mathlib.Omega.{arith}
use lib.IntN.{ℤ, pos, ◌*ℤ◌}
use lib.ListN.{length, get_or, drop, length-append, length-drop, get_or-append}
use lib.Seq.{get_or-drop}
use lib.Signed.{◌≤ℤ◌}
use mir.Facts.{clash}
use borrow.Author.Tests.{le-leb, lt-leb}
use Rattle.std.proofs.lemmas.List.{get_or-append_right}
use Rattle.std.specs.Prelude.{Some, None, Ok, Err}
use Rattle.laws.specs.Search.{all}
use Rattle.laws.proofs.Cases.{by, yes_is}
use Rattle.laws.proofs.Search.{all_of, all_intro}
use Rattle.record.specs.declared.Refusal.{Refusal}
use Rattle.record.specs.declared.Job.{Job}
use Rattle.contrast.specs.Deviation.{floor_of, excess, deviation_of, keeps_limit}
use Rattle.contrast.specs.Check.{some_outside, check_range, at_pair, expected, limit_parts, deviations_of, verdict_of, contrast_of, deviations_over, Pair, limit_of}
use Rattle.contrast.specs.declared.Verdict.{Verdict}
use Rattle.contrast.specs.declared.Verdict.TheVariants as verdict
use Rattle.contrast.proofs.Floor.{floor_le, floor_lt}
use Rattle.contrast.proofs.Bounds.{expected_pos}
use Rattle.contrast.proofs.Laws.{covers, pair_at_lem, deviations_length, deviations_at}
use Rattle.engine.specs.Conditions.{made_by}
use Rattle.engine.specs.Check.{check_of, check_answer, places_of, check_lent, CheckValues, not_measured, pass, fail, number, v, scaled_excess, Y, Inside, CheckOutcome, short, back, unmeasured, outside, narrow, passes, fails, CheckPromise}
use Rattle.engine.specs.CheckFacts.{JudgedCheck, CheckSettled}
use Rattle.engine.proofs.Conditions.{sent, went_on}
use Rattle.engine.proofs.CheckTests.{outside_found, none_outside, is_narrow, wide_range}

-- ---- an outcome settles the answer and the places, so no two outcomes of one record and one slice differ

module _ {bytes : List ℕ} {before : List ℤ} {job : Job} (w : Inside bytes before job) where
  none : some_outside (v bytes job) ≡ false
  none = none_outside (v bytes job) w.low w.high

  module _ (r : pos 10000 ≤ℤ check_range (v bytes job)) where
    all_kept : ((i : ℕ) → i < 17 → scaled_excess bytes job i ≤ Y bytes job i) → all (at_pair (keeps_limit (limit_parts (limit_of job.settings.class))) (v bytes job)) 17 ≡ true
    unfolding at_pair keeps_limit
    all_kept k = all_intro (at_pair (keeps_limit (limit_parts (limit_of job.settings.class))) (v bytes job)) 17 (λ i h. le-leb _ _ (k i h))

    one_off : (i : ℕ) → i < 17 → Y bytes job i < scaled_excess bytes job i → all (at_pair (keeps_limit (limit_parts (limit_of job.settings.class))) (v bytes job)) 17 ≡ false
    unfolding at_pair keeps_limit
    one_off i h k =
        by (all (at_pair (keeps_limit (limit_parts (limit_of job.settings.class))) (v bytes job)) 17)
        (λ t. absurd (yes_is (sym (lt-leb _ _ k) ∙ all_of (at_pair (keeps_limit (limit_parts (limit_of job.settings.class))) (v bytes job)) 17 i t h)))
        (λ f. f)

pub check_settles : {bytes : List ℕ} {before after : List ℤ} {x : CheckValues} → CheckOutcome bytes before after x → CheckSettled bytes before after x
unfolding check_answer check_lent made_by check_of places_of contrast_of deviations_over verdict_of
check_settles (short h) = grind arith
check_settles (back long b) = let u = sent b in grind arith
check_settles (unmeasured long g z) = grind (arith, went_on g)
check_settles {bytes = bytes} (outside {job = job} c i h t) = grind (arith, went_on c.goes_on, outside_found (v bytes job) i h t)
check_settles {bytes = bytes} (narrow {job = job} w h) = grind (arith, went_on w.checks.goes_on, none w, is_narrow (v bytes job) h)
check_settles {bytes = bytes} (passes {job = job} w r k) = grind (arith, went_on w.checks.goes_on, none w, wide_range (v bytes job) r, all_kept w r k)
check_settles {bytes = bytes} (fails {job = job} w r i h k) = grind (arith, went_on w.checks.goes_on, none w, wide_range (v bytes job) r, one_off w r i h k)

-- ---- a check that was judged

module _ {bytes : List ℕ} {before : List ℤ} {job : Job} (w : Inside bytes before job) (r : pos 10000 ≤ℤ check_range (v bytes job)) where
  step : (i : ℕ) → i < 17 → Pair (v bytes job i) (v bytes job (i + 1)) (expected (v bytes job) i) (expected (v bytes job) (i + 1))
  step = pair_at_lem (covers (v bytes job) (none w) (wide_range (v bytes job) r))

  positive : (i : ℕ) → i < 17 → 0 < Y bytes job i
  unfolding at_pair
  positive i h = expected_pos (step i h)

  place : {after : List ℤ} → after ≡ deviations_of (v bytes job) ++ drop 17 before → (i : ℕ) → i < 17
      → get_or after i (pos 0) ≡ floor_of (pos 1000 *ℤ at_pair excess (v bytes job) i) (Y bytes job i)
  unfolding at_pair deviation_of
  place e i h =
      rw (e, get_or-append (deviations_of (v bytes job)) _ (pos 0) i (rw (deviations_length (v bytes job)) h)) (deviations_at (v bytes job) i h)

  behind : {after : List ℤ} → after ≡ deviations_of (v bytes job) ++ drop 17 before → (i : ℕ) → 17 ≤ i → get_or after i (pos 0) ≡ get_or before i (pos 0)
  behind e i h =
      let from : 17 + (i - 17) ≡ i = omega arith in
      rw (e, get_or-append_right (deviations_of (v bytes job)) _ 17 i (pos 0) (deviations_length (v bytes job)) h, get_or-drop, from)

  same_size : {after : List ℤ} → after ≡ deviations_of (v bytes job) ++ drop 17 before → length after ≡ length before
  same_size e =
      rw (e, length-append, length-drop) (omega (arith, deviations_length (v bytes job), w.checks.long))

  judged : {after : List ℤ} (found : Verdict) → after ≡ deviations_of (v bytes job) ++ drop 17 before
      → (found ≡ verdict.Pass → (i : ℕ) → i < 17 → scaled_excess bytes job i ≤ Y bytes job i)
      → (((i : ℕ) → i < 17 → scaled_excess bytes job i ≤ Y bytes job i) → found ≡ verdict.Pass) → JudgedCheck bytes before after found
  judged found e kept passed = record {
    job = job;
    inside = w;
    wide = r;
    positive = positive;
    at_most = λ i h. rw (place e i h) (floor_le (pos 1000 *ℤ at_pair excess (v bytes job) i) (Y bytes job i) (positive i h));
    largest = λ i h. rw (place e i h) (floor_lt (pos 1000 *ℤ at_pair excess (v bytes job) i) (Y bytes job i) (positive i h));
    size = same_size e;
    later = behind e;
    kept = kept;
    passed = passed;
  }

module _ (bytes : List ℕ) (before after : List ℤ) where
  -- what each answer tells
  abbrev Told : CheckValues → Type 0
  Told pass = JudgedCheck bytes before after verdict.Pass
  Told fail = JudgedCheck bytes before after verdict.Fail
  Told not_measured = after ≡ before
  Told (number n) = after ≡ before

told : {bytes : List ℕ} {before after : List ℤ} {x : CheckValues} → CheckOutcome bytes before after x → Told bytes before after x
told (short h) = refl
told (back l b) = refl
told (unmeasured l g z) = refl
told (outside c i h t) = refl
told (narrow w h) = refl
told (passes w r k) = judged w r verdict.Pass refl (λ p. k) (λ p. refl)
told (fails w r i h k) = judged w r verdict.Fail refl (λ p. cc (sym p)) (λ p. clash k (p i h))

module _ {bytes : List ℕ} {before after : List ℤ} where
  pub judged_check : {found : Verdict} → CheckPromise bytes before after (Ok (Some found)) → JudgedCheck bytes before after found
  judged_check {found = verdict.Pass} h = told h.outcome
  judged_check {found = verdict.Fail} h = told h.outcome

  -- a refusal changes no place
  pub check_refused_keeps : {r : Refusal} → CheckPromise bytes before after (Err r) → after ≡ before
  check_refused_keeps h = told h.outcome

  -- nor does a check that was not measured
  pub not_measured_keeps : CheckPromise bytes before after (Ok None) → after ≡ before
  not_measured_keeps h = told h.outcome
