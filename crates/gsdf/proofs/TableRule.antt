-- Neighbouring entries of Table B-1 differ by at least 47: one test over the whole table, and the rule at every JND.
-- Assumes nothing.
use mathlib.Core.Path.{◌≡◌, refl}
use Prim.Native.Nat.{ℕ, suc, ◌+◌, ◌*◌, ◌≤◌, ◌<◌}
use native.Mathlib.Numerals.{add-one}
use native.Mathlib.Omega.{arith}
use lib.ListN.{length, get_or}
use Rattle.std.specs.List.Sorted.{IsNonDecreasingBy}
use Rattle.std.proofs.lemmas.List.Sorted.{IsNonDecreasingBy-from_default}
use Rattle.laws.specs.Rises.{rises_from, rises_by}
use Rattle.laws.proofs.Numbers.{Grows, grows_by, never_falls}
use Rattle.laws.proofs.Rises.{rises_at, keeps_by_steps}
use Rattle.gsdf.specs.Table.{table_b1}
use Rattle.gsdf.specs.DisplayFunction.{jnd_luminance}

-- the test holds by computation
neighbours : (i : ℕ) → i < 1022 → get_or table_b1 i 0 + 47 ≤ get_or table_b1 (suc i) 0
unfolding table_b1 rises_from rises_by
neighbours i h = rises_at 47 table_b1 tt i (omega arith)

pub table_b1_length : length table_b1 ≡ 1023
unfolding table_b1
table_b1_length = refl

-- so no entry is below an earlier one
pub table_b1_never_falls : IsNonDecreasingBy (λ (x : ℕ). x) table_b1
table_b1_never_falls =
    IsNonDecreasingBy-from_default (λ (x : ℕ). x) table_b1 0
    (keeps_by_steps table_b1 (λ i h. rw add-one (omega (arith, neighbours i (omega (arith, table_b1_length)))))).keeps

pub jnd_grows : Grows jnd_luminance 47 1 1023
unfolding jnd_luminance
jnd_grows = grind (arith, neighbours)

pub jnd_rises : (j : ℕ) → 1 ≤ j → j < 1023 → jnd_luminance j + 47 ≤ jnd_luminance (j + 1)
jnd_rises j l h = jnd_grows.step j l h

-- 47 is reached, so no larger number is the rule
pub jnd_least : jnd_luminance 1 + 47 ≡ jnd_luminance 2
unfolding jnd_luminance table_b1
jnd_least = refl

pub jnd_first : jnd_luminance 1 ≡ 500
unfolding jnd_luminance table_b1
jnd_first = refl

pub jnd_200 : jnd_luminance 200 ≡ 82179
unfolding jnd_luminance table_b1
jnd_200 = refl

pub jnd_300 : jnd_luminance 300 ≡ 233990
unfolding jnd_luminance table_b1
jnd_300 = refl

pub jnd_last : jnd_luminance 1023 ≡ 39934040
unfolding jnd_luminance table_b1
jnd_last = refl

-- JNDs that are n apart differ by at least 47 × n
pub jnd_far : (j n : ℕ) → 1 ≤ j → j + n ≤ 1023 → jnd_luminance j + 47 * n ≤ jnd_luminance (j + n)
jnd_far j n l h = grows_by jnd_grows n j l h

pub jnd_mono : (i j : ℕ) → 1 ≤ i → i ≤ j → j ≤ 1023 → jnd_luminance i ≤ jnd_luminance j
jnd_mono i j l ij h = never_falls jnd_grows i j l ij h

pub jnd_strict : (i j : ℕ) → 1 ≤ i → i < j → j ≤ 1023 → jnd_luminance i < jnd_luminance j
jnd_strict i j l ij h = omega (arith, jnd_rises i, jnd_mono (i + 1) j)

-- each is at most T(1023)
pub jnd_high : (j : ℕ) → 1 ≤ j → j ≤ 1023 → jnd_luminance j ≤ 39934040
jnd_high j l h = omega (arith, jnd_last, jnd_mono j 1023)
