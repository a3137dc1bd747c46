-- The even table of a record: each way that the operation ends.
-- Assumes nothing.
use Prim.Native.Nat.{ℕ, ◌≤◌}
use mathlib.Core.Path.{◌≡◌, refl, sym, ap, ◌∙◌}
use mathlib.Core.List.{List}
use mathlib.Core.Bool.{true, false}
use native.Mathlib.Omega.{arith}
use lib.ListN.{length}
use Rattle.std.specs.Prelude.{Option, Result, Err, ok_or, Ok}
use Rattle.laws.proofs.Cases.{by}
use Rattle.record.specs.declared.Refusal.{Refusal}
use Rattle.record.specs.declared.Refusal.TheVariants.{LentTooShort, NoTable}
use Rattle.even.specs.Even.{Given}
use Rattle.even.specs.Table.{has_no_table}
use Rattle.even.specs.Filled.{given, outcome_of, Workable, EvenFilled}
use Rattle.target.specs.declared.IndexRange.{IndexRange}
use Rattle.engine.specs.declared.EvenFigures.{EvenFigures}
use Rattle.engine.specs.Sound.{soundness}
use Rattle.engine.specs.Even.{outcome_answer, too_little, even_answer, even_lent, EvenPromise}
use Rattle.engine.specs.Drawing.{Drawn}
use Rattle.engine.specs.declared.TestedJob.{TestedJob}
use Rattle.engine.proofs.EvenTerms.{workable_within}
use Rattle.engine.proofs.EvenOutcomes.{promised}
use Rattle.engine.proofs.Soundness.{sound_job}

-- the answer by what the table's function gives
pub outcome_refused : (outcome : Option ℕ) {x : Result ℕ Refusal} {r : Refusal} → x ≡ ok_or outcome NoTable → x ≡ Err r → Err r ≡ outcome_answer outcome
outcome_refused outcome e f = rw (sym e ∙ f)

pub outcome_made : (outcome : Option ℕ) {x : Result ℕ Refusal} {worst : ℕ} → x ≡ ok_or outcome NoTable → x ≡ Ok worst → Ok (record { worst = worst }) ≡ outcome_answer outcome
outcome_made outcome e f = rw (sym e ∙ f)

-- an answer other than a table leaves all words as they were
words_kept : (x : Given) {before after words words_after : List ℕ} {outcome : Option ℕ} → EvenFilled x before after words words_after outcome
    → (r : Refusal) → outcome_answer outcome ≡ Err r → words_after ≡ words
unfolding outcome_of
words_kept x h r e = by (has_no_table x) h.words_without_table (λ f. cc (simp (h.answers, f) at e))

module _ {bytes curve targets : List ℕ} {tested : TestedJob} {indices : IndexRange} (d : Drawn bytes tested curve indices targets) where
  pub error_high : tested.job.settings.tolerance ≤ 1000
  error_high = (sound_job _ _ d.is).tolerance

  -- a job that is drawn is a problem of the even table, with any allowed error in range
  pub curve_workable : (tolerance : ℕ) → tolerance ≤ 1000 → Workable (given curve targets tolerance)
  curve_workable tolerance h = workable_within (sound_job _ _ d.is) tolerance h

module _ (bytes before words : List ℕ) where
  -- nothing was written
  unchanged : (r : Refusal) → Err r ≡ even_answer bytes (length before) (length words) → before ≡ even_lent bytes before (length words)
      → EvenPromise bytes before before words words (Err r)
  unchanged r a e = promised bytes before words a e refl (λ i h. refl) (λ q f. refl)

  pub too_little_lem : too_little (length before) (length words) ≡ true → EvenPromise bytes before before words words (Err LentTooShort)
  unfolding even_answer even_lent
  too_little_lem e = unchanged LentTooShort (simp e) (simp e)

  module _ (long : too_little (length before) (length words) ≡ false) where
    pub even_back : (r : Refusal) → soundness bytes ≡ Err r → EvenPromise bytes before before words words (Err r)
    unfolding even_answer even_lent
    even_back r e =
        unchanged r (simp (long, e)) (simp (long, e))

    module _ {tested : TestedJob} {curve targets : List ℕ} {indices : IndexRange} (d : Drawn bytes tested curve indices targets) where
      pub even_filled : {after words_after : List ℕ} {outcome : Option ℕ} {answer : Result EvenFigures Refusal}
          → EvenFilled (given curve targets tested.job.settings.tolerance) before after words words_after outcome → answer ≡ outcome_answer outcome
          → EvenPromise bytes before after words words_after answer
      unfolding even_answer even_lent
      even_filled h a =
          let known = sound_job bytes _ d.is in
          promised bytes before words
          (a ∙ ap outcome_answer h.answers ∙ simp (long, d.is))
          (h.table ∙ simp (long, d.is))
          h.later_words.len
          (λ i l. h.later_words.words i (omega (arith, known.values)))
          (λ q e. words_kept _ h q (sym a ∙ e))
