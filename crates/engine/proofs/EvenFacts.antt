-- What follows from the promise of the even table.
-- Assumes nothing.
use native.Mathlib.Omega.{arith}
use mathlib.Core.Path.{◌≡◌, refl}
use mathlib.Core.List.{List, ◌++◌}
use Prim.Native.Nat.{ℕ}
use lib.ListN.{drop}
use Rattle.std.specs.Prelude.{Err}
use Rattle.laws.proofs.Cases.{by, no_is}
use Rattle.record.specs.declared.Refusal.{Refusal}
use Rattle.record.specs.declared.Job.{Job}
use Rattle.even.specs.Even as lists
use Rattle.even.specs.Table.{has_no_table, even_table}
use Rattle.even.specs.Filled.{outcome_of, even_over, Workable}
use Rattle.even.proofs.Even.{even_is, even_unique}
use Rattle.engine.specs.Conditions.{GoesOn}
use Rattle.engine.specs.Even.{outcome_answer, even_answer, even_lent, WithinError, worst_step, IsEvenTable, EvenValues, worst, number, even_values, EvenOutcome, short, back, none, made, EvenPromise}
use Rattle.engine.specs.EvenFacts.{EvenSettled}
use Rattle.engine.proofs.Conditions.{sent}
use Rattle.engine.proofs.EvenTerms.{workable, known, Spells, spells, even_in_lists}
use Rattle.engine.proofs.EvenOutcomes.{enough_lent, short_lent, none_within, no_level_lem, worst_least, answer_is, entries_are}

-- no two lists are the even table of one job
pub only_even : {bytes : List ℕ} {job : Job} → GoesOn bytes job → (a b : List ℕ) → IsEvenTable bytes job a → IsEvenTable bytes job b → a ≡ b
only_even g a b v w = even_unique _ a b (even_in_lists (spells g) v) (even_in_lists (spells g) w)

module _ {bytes : List ℕ} {job : Job} {x : lists.Given} (ok : Workable x) (s : Spells bytes job x) (before : List ℕ) where
  -- the entries and the values are those that are computed
  record Computed (after : List ℕ) (v : EvenValues) : Type 0 where
    pub entries : after ≡ even_over x before
    pub values_are : v ≡ even_values (outcome_answer (outcome_of x))

  none_computed : ((levels : List ℕ) → WithinError bytes job levels → ⊥) → Computed before (number 11)
  unfolding even_over outcome_of
  none_computed h = let e = no_level_lem ok s h in record { entries = simp e; values_are = simp e }

  made_computed : (table : List ℕ) → IsEvenTable bytes job table → Computed (table ++ drop 256 before) (worst (worst_step bytes job table))
  unfolding even_over outcome_of
  made_computed table v =
      by (has_no_table x)
      (λ e. absurd (none_within ok s e table v.allowed.within))
      (λ e.
      let same : table ≡ even_table x = even_unique x table (even_table x) (even_in_lists s v) (even_is x ok.usable (no_is e)) in
      record { entries = simp e (rw (same, s.values)); values_are = simp e (rw (worst_least ok s e, same)) })

-- an outcome settles the answer and the entries, so no two outcomes of one record and the same slices differ
pub even_settles : {bytes before words after : List ℕ} {v : EvenValues} → EvenOutcome bytes before words after v → EvenSettled bytes before words after v
unfolding even_answer even_lent
even_settles (short h) = grind (arith, short_lent)
even_settles (back enough b) = let u = sent b in grind (arith, enough_lent enough)
even_settles {bytes = bytes} {before = before} {words = words} (none enough g h) =
    let c = none_computed (workable (known g)) (spells g) before h in
    grind (arith, entries_are bytes before words enough g, answer_is bytes before words enough g)
even_settles {bytes = bytes} {before = before} {words = words} (made {table = table} enough g v) =
    let c = made_computed (workable (known g)) (spells g) before table v in
    grind (arith, entries_are bytes before words enough g, answer_is bytes before words enough g)

-- a number comes with the entries as they were
abbrev Kept : (before after : List ℕ) → EvenValues → Type 0
Kept before after (worst k) = Unit {0}
Kept before after (number n) = after ≡ before

outcome_keeps : {bytes before words after : List ℕ} {v : EvenValues} → EvenOutcome bytes before words after v → Kept before after v
outcome_keeps (short h) = refl
outcome_keeps (back enough b) = refl
outcome_keeps (none enough g h) = refl
outcome_keeps (made enough g v) = tt

-- a refusal changes no entry and no word
pub even_refused_keeps : {bytes before after words words_after : List ℕ} {r : Refusal} → EvenPromise bytes before after words words_after (Err r)
    → (after ≡ before) × (words_after ≡ words)
even_refused_keeps h = (outcome_keeps h.outcome, h.words_refused refl)
