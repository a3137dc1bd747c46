-- What follows from the promise of the nearest table.
-- Assumes nothing.
use mathlib.Core.Path.{◌≡◌, refl, ◌∙◌}
use mathlib.Core.List.{List, ◌++◌}
use Prim.Native.Nat.{ℕ, ◌+◌, ◌-◌, ◌≤◌, ◌<◌}
use native.Mathlib.Omega.{arith}
use lib.ListN.{length, get_or, drop, length-append, length-drop, get_or-append}
use lib.Seq.{get_or-drop}
use Rattle.std.proofs.lemmas.List.{get_or-append_right}
use borrow.Author.Tests.{le-ltb}
use Rattle.std.specs.Prelude.{Ok, Err}
use Rattle.laws.proofs.Numbers.{max_at, max_le}
use Rattle.record.specs.declared.Refusal.{Refusal}
use Rattle.nearest.specs.Nearest.{nearest_level, largest_error}
use Rattle.nearest.proofs.Laws.{nearest_inside, nearest_least, nearest_first, table_length, table_at, table_never_falls}
use Rattle.engine.specs.Sound.{SoundJob, soundness, IsSound}
use Rattle.engine.specs.Nearest.{nearest_figures, nearest_entries, nearest_answer, nearest_lent, NearestValues, nearest_values, number, NearestOutcome, short, back, made, NearestPromise}
use Rattle.engine.specs.NearestFacts.{MadeTable}
use Rattle.engine.specs.declared.NearestFigures.{NearestFigures}
use Rattle.engine.proofs.Conditions.{went_on}
use Rattle.engine.proofs.EvenTerms.{known}
use Rattle.engine.proofs.Nearest.{targets_keep}

-- the entries after a table was made
module _ (before : List ℕ) {after : List ℕ} {job : SoundJob} (known : IsSound job) (is : after ≡ nearest_entries job ++ drop (length job.targets) before) where
  size : length (nearest_entries job) ≡ 256
  size = table_length job.curve job.targets ∙ known.values

  in_front : (p : ℕ) → p < 256 → get_or after p 0 ≡ get_or (nearest_entries job) p 0
  in_front p h = rw is (get_or-append (nearest_entries job) _ 0 p (rw size h))

  entry_is : (p : ℕ) → p < 256 → get_or after p 0 ≡ nearest_level job.curve (get_or job.targets p 0)
  entry_is p h = in_front p h ∙ table_at _ _ p (omega arith)

  made_of : {bytes : List ℕ} {figures : NearestFigures} → 256 ≤ length before → soundness bytes ≡ Ok job → figures ≡ nearest_figures job → MadeTable bytes before after figures
  unfolding largest_error
  made_of long e f = record {
    job = job;
    is = e;
    known = known;
    indices = rw f;
    mark = rw f;
    size = rw (is, length-append, length-drop) (omega (arith, size));
    entries = entry_is;
    levels = λ p h. rw (entry_is p h) (nearest_inside _ _ (omega arith));
    least = λ p d h l. rw (entry_is p h) (nearest_least _ _ d l);
    first = λ p d h l. rw (entry_is p h) (nearest_first _ _ d (rw (entry_is p h) at l));
    keeps = λ p q h l.
        rw (in_front p (omega arith), in_front q l)
        ((table_never_falls _ _ known.curve_keeps (targets_keep known)).keeps p q h (rw size l));
    later = λ i h.
        let e : length job.targets + (i - 256) ≡ i = omega arith in
        rw (is, get_or-append_right (nearest_entries job) _ 256 i 0 size h, get_or-drop, e);
    largest = λ p h.
        rw (in_front p h, f) (max_at _ (length job.targets) p (omega arith));
    no_larger = λ b h.
        rw f (max_le _ (length job.targets) b (λ p l. let k : p < 256 = omega arith in rw (← in_front p k) (h p k)));
  }

-- an outcome with values has a table that was made
made_with : {bytes before after : List ℕ} {figures : NearestFigures} {v : NearestValues} → NearestOutcome bytes before after v → v ≡ nearest_values (Ok figures)
    → NearestPromise bytes before after (Ok figures) → MadeTable bytes before after figures
unfolding nearest_answer nearest_lent
made_with (short l) e h = cc
made_with (back l b) e h = cc
made_with {before = before} (made l g) e h =
    made_of before (known g) (simp (le-ltb _ _ l, went_on g) at h.table) l (went_on g) (cc (simp (le-ltb _ _ l, went_on g) at h.answers))

-- an outcome with a number leaves the entries as they were
told : {bytes before after : List ℕ} {v : NearestValues} {n : ℕ} → NearestOutcome bytes before after v → v ≡ number n → after ≡ before
told (short h) e = refl
told (back l b) e = refl
told (made l g) e = cc

module _ {bytes before after : List ℕ} where
  -- a table that was made
  pub made_table : {figures : NearestFigures} → NearestPromise bytes before after (Ok figures) → MadeTable bytes before after figures
  made_table h = made_with h.outcome refl h

  -- a refusal changes no entry
  pub refused_keeps : {r : Refusal} → NearestPromise bytes before after (Err r) → after ≡ before
  refused_keeps h = told h.outcome refl
