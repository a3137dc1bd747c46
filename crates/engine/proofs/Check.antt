-- The contrast check of a record: each way that the operation ends.
-- Assumes nothing.
use mathlib.Core.Path.{◌≡◌, refl, ap, subst, ◌∙◌}
use mathlib.Core.List.{List, ◌++◌, append-nil}
use Prim.Native.Nat.{ℕ, ◌≤◌, ◌<◌}
use native.Mathlib.Omega.{arith}
use lib.IntN.{ℤ}
use lib.ListN.{length, drop, drop_of_length-le}
use borrow.Author.Tests.{le-ltb, lt-ltb}
use Rattle.std.specs.Prelude.{Option, Some, None, Result, Ok, Err}
use Rattle.record.specs.Sections.{after, sections, check_in}
use Rattle.record.specs.declared.Refusal.{Refusal}
use Rattle.record.specs.declared.Refusal.TheVariants.{LentTooShort}
use Rattle.record.specs.Reader.{longs}
use Rattle.record.proofs.Accepted.{accepted_job}
use Rattle.std.proofs.lemmas.List.{length-map}
use Rattle.contrast.specs.Check.{shown, Checked, limit_of}
use Rattle.contrast.specs.declared.Limit.{Limit}
use Rattle.contrast.specs.declared.Verdict.{Verdict}
use Rattle.engine.specs.Sound.{SoundJob, soundness, added_of}
use Rattle.engine.specs.Drawing.{PassedTests}
use Rattle.engine.specs.Check.{check_of, check_after, check_answer, places_of, places_over, check_lent, CheckPromise}
use Rattle.engine.specs.declared.Light.{Light}
use Rattle.engine.specs.declared.TestedJob.{TestedJob}
use Rattle.engine.proofs.Reading.{sound}
use Rattle.engine.proofs.CheckOutcomes.{promised}

-- where some readings of the check are read, all 18 are
pub all_read : {bytes : List ℕ} {tested : TestedJob} → PassedTests bytes tested → (length tested.found.check.raw.now ≡ 0 → ⊥) → length tested.found.check.raw.now ≡ 18
all_read {bytes = bytes} {tested = tested} p some =
    let a = (accepted_job bytes tested.job p.accepted).patches in
    let e : length (check_in (sections bytes)) ≡ length tested.found.check.raw.now = rw (← p.read.lists, length-map) in
    grind arith

module _ (bytes : List ℕ) (before : List ℤ) where
  pub check_short : length before < 17 → CheckPromise bytes before before (Err LentTooShort)
  unfolding check_answer check_lent
  check_short h = promised bytes before before (Err LentTooShort) (simp (lt-ltb _ _ h)) (simp (lt-ltb _ _ h))

  module _ (long : 17 ≤ length before) where
    -- by the soundness of the record
    ended : {x : Result SoundJob Refusal} {answer : Result (Option Verdict) Refusal} {places : List ℤ} → soundness bytes ≡ x → answer ≡ check_after x (check_in (sections bytes))
        → places ≡ places_over x (check_in (sections bytes)) before → CheckPromise bytes before places answer
    unfolding check_answer check_lent
    ended e a p = promised bytes before _ _ (simp (le-ltb _ _ long, e) a) (simp (le-ltb _ _ long, e) p)

    pub check_back : (r : Refusal) → soundness bytes ≡ Err r → CheckPromise bytes before before (Err r)
    check_back r e = ended e refl refl

    -- by what passed tests 2 to 10
    module _ {tested : TestedJob} (p : PassedTests bytes tested) where
      pub check_none : length tested.found.check.raw.now ≡ 0 → CheckPromise bytes before before (Ok None)
      unfolding check_of places_of
      check_none z =
          let n : length (check_in (sections bytes)) ≡ 0 = rw (← p.read.lists, length-map) z in
          ended (sound p) (rw n refl) (rw n refl)

      -- its readings fill an array of 18
      pub check_made : (array : List ℕ) {readings : List ℕ} {limit : Limit} {found : Result Verdict Refusal} {answer : Result (Option Verdict) Refusal} {places : List ℤ}
          → (length tested.found.check.raw.now ≡ 0 → ⊥) → length array ≡ 18 → readings ≡ longs tested.found.check ++ drop (length tested.found.check.raw.now) array → limit ≡ limit_of tested.job.settings.class → Checked limit (shown tested.light.added.0 readings) found before places
          → answer ≡ after found (λ verdict. Ok (Some verdict)) → CheckPromise bytes before places answer
      unfolding check_of places_of
      check_made array {readings = readings} {limit = limit} {found = found} {places = places} some m f l h a =
          let all = all_read p some in
          let n : length (check_in (sections bytes)) ≡ 18 = rw (← p.read.lists, length-map) all in
          let e : readings ≡ longs tested.found.check = f ∙ rw (drop_of_length-le array {i = length tested.found.check.raw.now} (omega (arith, all, m)), append-nil) in
          let lit = subst (λ (x : Light). Checked limit (shown x.added.0 readings) found before places) p.light h in
          let limited = subst (λ (x : Limit). Checked x (shown (added_of tested.job) readings) found before places) l lit in
          let own = subst (λ (xs : List ℕ). Checked (limit_of tested.job.settings.class) (shown (added_of tested.job) xs) found before places) (e ∙ ap check_in p.read.lists) limited in
          ended (sound p) (rw (n, a) (ap (λ (x : Result Verdict Refusal). after x (λ verdict. Ok (Some verdict))) own.answers)) (rw n own.places)
