-- The nearest table in document 01's numbers and conditions.
-- Assumes nothing.
use mathlib.Core.Path.{◌≡◌}
use mathlib.Core.List.{List}
use mathlib.Core.Logic.{⊎_elim}
use Prim.Native.Nat.{ℕ, ◌≤◌, ◌<◌}
use native.Mathlib.Omega.{arith}
use lib.ListN.{length}
use borrow.Author.Tests.{le-ltb, lt-ltb}
use Rattle.std.specs.Prelude.{Result}
use Rattle.laws.proofs.Cases.{le_or_lt}
use Rattle.target.specs.Target.{range_of}
use Rattle.target.proofs.Laws.{targets_length}
use Rattle.record.specs.declared.Refusal.{Refusal}
use Rattle.engine.specs.declared.NearestFigures.{NearestFigures}
use Rattle.engine.specs.Sound.{SoundJob}
use Rattle.engine.specs.Conditions.{made_by, Standing, stands, returned}
use Rattle.engine.specs.Nearest.{nearest_of, nearest_answer, entries_over, nearest_lent, NearestValues, nearest_values, NearestOutcome, short, back, made, NearestPromise}
use Rattle.engine.specs.NearestFacts.{Settled}
use Rattle.engine.proofs.Conditions.{standing, sent, went_on}

module _ (bytes before : List ℕ) where
  long_outcome : (x : Result SoundJob Refusal) → 256 ≤ length before → Standing bytes x → NearestOutcome bytes before (entries_over x before) (nearest_values (nearest_of x))
  unfolding made_by range_of
  long_outcome _ long (returned b) = back long b
  long_outcome _ long (stands g) = rw targets_length (made long g)

  pub some_outcome : NearestOutcome bytes before (nearest_lent bytes before) (nearest_values (nearest_answer bytes (length before)))
  unfolding nearest_answer nearest_lent
  some_outcome =
      ⊎_elim
      (λ (long : 256 ≤ length before). simp (le-ltb _ _ long) (long_outcome _ long (standing bytes)))
      (λ (under : length before < 256). simp (lt-ltb _ _ under) (short under))
      (le_or_lt 256 (length before))

  -- the two equations are the whole promise
  pub promised : (after : List ℕ) (answer : Result NearestFigures Refusal) → answer ≡ nearest_answer bytes (length before) → after ≡ nearest_lent bytes before → NearestPromise bytes before after answer
  promised after answer e f = record { answers = e; table = f; outcome = rw (e, f) some_outcome }

-- an outcome settles the answer and the entries, so no two outcomes of one record and one slice differ
pub settles : {bytes before after : List ℕ} {v : NearestValues} → NearestOutcome bytes before after v → Settled bytes before after v
unfolding nearest_answer nearest_lent made_by range_of
settles (short h) = grind arith
settles (back long b) = let u = sent b in grind arith
settles (made long g) = grind (arith, went_on g, targets_length)
