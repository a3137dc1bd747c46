-- The even table in document 01's numbers and conditions, and demand 3.
-- Assumes nothing.
use native.Mathlib.Omega.{arith}
use Prim.Native.Nat.{ℕ, ◌≤◌, ◌<◌}
use mathlib.Core.Path.{◌≡◌, sym, ap, subst, ◌∙◌}
use mathlib.Core.List.{List}
use mathlib.Core.Bool.{true, false}
use mathlib.Core.Logic.{◌⊎◌, ◌↔◌}
use lib.ListN.{length, get_or, take}
use lib.Seq.{take-append_seam}
use Rattle.std.specs.Prelude.{Result, Ok, Err}
use Rattle.laws.proofs.Cases.{by, yes_is, no_is, is_yes}
use Rattle.record.specs.declared.Refusal.{Refusal}
use Rattle.record.specs.declared.Refusal.TheVariants.{NoTable}
use Rattle.record.specs.declared.Job.{Job}
use Rattle.even.specs.Even as lists
use Rattle.even.specs.Table.{has_no_table, least_worst, even_table}
use Rattle.even.specs.Filled.{outcome_of, even_over, Workable}
use Rattle.even.proofs.Even.{no_list, even_is, even_worst}
use Rattle.engine.specs.Sound.{SoundJob}
use Rattle.engine.specs.Conditions.{GoesOn, made_by, Standing, stands, returned}
use Rattle.engine.specs.Even.{given_by, outcome_answer, even_of, too_little, even_answer, even_entries, even_lent, WithinError, worst_step, IsEvenTable, even_values, Enough, EvenOutcome, short, back, none, made, MadeFor, EvenPromise}
use Rattle.engine.specs.declared.EvenFigures.{EvenFigures}
use Rattle.engine.proofs.Conditions.{standing, went_on}
use Rattle.engine.proofs.EvenTerms.{workable, known, Spells, spells, in_terms, in_lists, worst_same, even_in_terms}

-- ---- curve, targets and allowed error of a job

module _ {bytes : List ℕ} {job : Job} {x : lists.Given} (ok : Workable x) (s : Spells bytes job x) where
  -- no list keeps within the error exactly when the computed test finds a P-value without a level
  pub none_within : has_no_table x ≡ true → (levels : List ℕ) → WithinError bytes job levels → ⊥
  none_within e levels h = (no_list x ok.usable).0 (yes_is e) levels (in_lists s h)

  pub no_level_lem : ((levels : List ℕ) → WithinError bytes job levels → ⊥) → has_no_table x ≡ true
  no_level_lem h = is_yes _ ((no_list x ok.usable).1 (λ levels v. h levels (in_terms s v)))

  module _ (some : has_no_table x ≡ false) where
    is_even : IsEvenTable bytes job (even_table x)
    is_even = even_in_terms s (even_is x ok.usable (no_is some))

    pub worst_least : least_worst x ≡ worst_step bytes job (even_table x)
    worst_least = sym (even_worst x ok.usable (no_is some)) ∙ worst_same s is_even.allowed.within

  -- ---- what comes of it

  module _ {before words : List ℕ} (enough : Enough before words) (g : GoesOn bytes job) where
    job_outcome : EvenOutcome bytes before words (even_over x before) (even_values (outcome_answer (outcome_of x)))
    unfolding even_over outcome_of
    job_outcome =
        by (has_no_table x)
        (λ e. simp e (none enough g (none_within e)))
        (λ e. simp e (rw (s.values, worst_least e) (made enough g (is_even e))))

  -- the answer is "no table" exactly when the test passes
  none_told : outcome_answer (outcome_of x) ≡ Err NoTable → has_no_table x ≡ true
  unfolding outcome_of
  none_told e = grind arith

  none_answers : has_no_table x ≡ true → outcome_answer (outcome_of x) ≡ Err NoTable
  unfolding outcome_of
  none_answers e = simp e

  -- else it is a table
  table_answers : has_no_table x ≡ false → outcome_answer (outcome_of x) ≡ Ok (record { worst = least_worst x })
  unfolding outcome_of
  table_answers e = simp e

  record Answered (figures : EvenFigures) : Type 0 where
    pub some : has_no_table x ≡ false
    pub figure : figures.worst ≡ least_worst x

  answered : {figures : EvenFigures} → Ok figures ≡ outcome_answer (outcome_of x) → Answered figures
  unfolding outcome_of
  answered e = grind arith

  front : (before : List ℕ) → has_no_table x ≡ false → take 256 (even_over x before) ≡ even_table x
  unfolding even_over
  front before e =
      let n : length (even_table x) ≡ 256 = (is_even e).allowed.within.size in
      simp e (rw (← n) (take-append_seam (even_table x) _))

-- ---- test 1

pub lent_enough : {before words : List ℕ} → too_little (length before) (length words) ≡ false → Enough before words
lent_enough e = grind arith

-- and back
pub short_lent : (entries words : ℕ) → (entries < 256) ⊎ (words < 8192) → too_little entries words ≡ true
short_lent entries words h = grind arith

pub enough_lent : {before words : List ℕ} → Enough before words → too_little (length before) (length words) ≡ false
enough_lent n = grind arith

-- ---- any record

module _ (bytes before words : List ℕ) where
  long_outcome : (y : Result SoundJob Refusal) → Enough before words → Standing bytes y → EvenOutcome bytes before words (even_entries y before) (even_values (even_of y))
  long_outcome _ enough (returned {r = r} b) = back enough b
  long_outcome _ enough (stands g) = job_outcome (workable (known g)) (spells g) enough g

  pub some_even : EvenOutcome bytes before words (even_lent bytes before (length words)) (even_values (even_answer bytes (length before) (length words)))
  unfolding even_answer even_lent
  some_even =
      by (too_little (length before) (length words))
      (λ e. simp e (short (grind arith)))
      (λ e. simp e (long_outcome _ (lent_enough e) (standing bytes)))

  module _ {job : Job} (enough : Enough before words) (g : GoesOn bytes job) where
    pub answer_is : even_answer bytes (length before) (length words) ≡ outcome_answer (outcome_of (given_by (made_by bytes job)))
    unfolding even_answer
    answer_is = simp (enough_lent enough, went_on g)

    pub entries_are : even_lent bytes before (length words) ≡ even_over (given_by (made_by bytes job)) before
    unfolding even_lent
    entries_are = simp (enough_lent enough, went_on g)

  -- a table is made only where enough is lent
  made_enough : {figures : EvenFigures} → Ok figures ≡ even_answer bytes (length before) (length words) → Enough before words
  unfolding even_answer
  made_enough e = by (too_little (length before) (length words)) (λ f. cc (simp f at e)) lent_enough

  -- ---- the promise by its equations

  module _ {after : List ℕ} {answer : Result EvenFigures Refusal} (a : answer ≡ even_answer bytes (length before) (length words)) (e : after ≡ even_lent bytes before (length words)) where
    -- what demand 3 asks of the entries
    record Delivered (job : Job) (figures : EvenFigures) : Type 0 where
      pub even : IsEvenTable bytes job (take 256 after)
      pub figure : figures.worst ≡ worst_step bytes job (take 256 after)

    delivered : {job : Job} → (m : MadeFor bytes job answer) → Delivered job m.figures
    delivered {job} m =
        let enough = made_enough (sym m.is ∙ a) in
        let ok = workable (known m.goes_on) in
        let s = spells m.goes_on in
        let told = answered ok s (sym m.is ∙ a ∙ answer_is enough m.goes_on) in
        let entries : take 256 after ≡ even_table (given_by (made_by bytes job)) = ap (take 256) (e ∙ entries_are enough m.goes_on) ∙ front ok s before told.some in
        record {
          even = subst (IsEvenTable bytes job) (sym entries) (is_even ok s told.some);
          figure = told.figure ∙ worst_least ok s told.some ∙ ap (worst_step bytes job) (sym entries);
        }

    exactly : {job : Job} → Enough before words → GoesOn bytes job → (answer ≡ Err NoTable) ↔ ((levels : List ℕ) → WithinError bytes job levels → ⊥)
    exactly enough g =
        let ok = workable (known g) in
        let s = spells g in (
          λ r. none_within ok s (none_told ok s (sym (answer_is enough g) ∙ sym a ∙ r)),
          λ h. a ∙ answer_is enough g ∙ none_answers ok s (no_level_lem ok s h),
        )

    otherwise_made : {job : Job} → Enough before words → GoesOn bytes job → (answer ≡ Err NoTable → ⊥) → MadeFor bytes job answer
    otherwise_made {job} enough g h =
        by (has_no_table (given_by (made_by bytes job)))
        (λ n. absurd (h (a ∙ answer_is enough g ∙ none_answers (workable (known g)) (spells g) n)))
        (λ n. record {
          goes_on = g;
          figures = record { worst = least_worst (given_by (made_by bytes job)) };
          is = a ∙ answer_is enough g ∙ table_answers (workable (known g)) (spells g) n;
        })

    -- with what is kept of the words
    pub promised : {words_after : List ℕ} → length words_after ≡ length words → ((i : ℕ) → 8192 ≤ i → get_or words_after i 0 ≡ get_or words i 0)
        → ((r : Refusal) → answer ≡ Err r → words_after ≡ words) → EvenPromise bytes before after words words_after answer
    promised {words_after} n later all = record {
      answers = a;
      table = e;
      words_size = n;
      words_later = later;
      words_refused = λ f. all _ f;
      outcome = rw (a, e) some_even;
      no_table = exactly;
      otherwise = otherwise_made;
      even = λ m. (delivered m).even;
      never_falls = λ m. (delivered m).even.allowed.never_falls;
      within = λ m. (delivered m).even.allowed.within;
      least = λ m other v f. (delivered m).even.least other (record { within = v; never_falls = f });
      lower = λ m other v f. (delivered m).even.lower other (record { within = v; never_falls = f });
      worst_is = λ m. (delivered m).figure;
    }
