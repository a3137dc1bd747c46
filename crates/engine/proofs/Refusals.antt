-- Which refusals an operation gives.
-- Assumes nothing.
use mathlib.Core.Path.{◌≡◌}
use mathlib.Core.List.{List}
use Prim.Native.Nat.{ℕ}
use native.Mathlib.Omega.{arith}
use lib.IntN.{ℤ}
use lib.ListN.{length}
use Rattle.std.specs.Prelude.{Err}
use Rattle.even.specs.Filled.{outcome_of}
use Rattle.contrast.specs.Check.{contrast_of, verdict_of}
use Rattle.record.specs.Refusals.{refusal_number}
use Rattle.record.specs.Sections.{count_of, layout_of, sections}
use Rattle.record.specs.Tests.{judged, answer_of}
use Rattle.record.specs.declared.Refusal.{Refusal}
use Rattle.engine.specs.Sound.{range_tests, measured, soundness}
use Rattle.engine.specs.Nearest.{nearest_answer}
use Rattle.engine.specs.NearestFacts.{Numbered}
use Rattle.engine.specs.Even.{even_answer}
use Rattle.engine.specs.Check.{check_of, check_answer}
use Rattle.engine.specs.CheckFacts.{CheckNumber}

-- reading a record gives 2 to 7
read_number : (s : List ℕ) (r : Refusal) → answer_of s ≡ Err r → Numbered 2 7 r
unfolding answer_of sections layout_of count_of judged
read_number s r e = grind arith

-- the part up to test 10 gives 2 to 10: tests 8, 9 and 10 give 8 to 10
pub unsound_number : (bytes : List ℕ) (r : Refusal) → soundness bytes ≡ Err r → Numbered 2 10 r
unfolding soundness measured range_tests
unsound_number bytes r e = grind (arith, read_number)

-- the nearest table gives 1 to 10
pub nearest_number : (bytes : List ℕ) (lent : ℕ) (r : Refusal) → nearest_answer bytes lent ≡ Err r → Numbered 1 10 r
unfolding nearest_answer
nearest_number bytes lent r e = grind (arith, unsound_number)

-- the even table gives 1 to 11
pub even_number : (bytes before words : List ℕ) (r : Refusal) → even_answer bytes (length before) (length words) ≡ Err r → Numbered 1 11 r
unfolding even_answer outcome_of
even_number bytes before words r e = grind (arith, unsound_number)

-- the check gives 1 to 10, 12 or 13
pub check_number : (bytes : List ℕ) (before : List ℤ) (r : Refusal) → check_answer bytes (length before) ≡ Err r → CheckNumber (refusal_number r)
unfolding check_answer check_of contrast_of verdict_of
check_number bytes before r e = grind (arith, unsound_number)
