-- 100 × the display function before its rounding: a line through each JND and the next, that grows by at least 47 from an index to the next.
-- Assumes nothing.
use mathlib.Core.Path.{◌≡◌, refl}
use mathlib.Core.Logic.{⊎_elim}
use Prim.Native.Nat.{ℕ, ◌+◌, ◌-◌, ◌*◌, ◌/◌, ◌%◌, ◌≤◌, ◌<◌}
use native.Mathlib.Nat.{eq-or-lt_of_le}
use native.Mathlib.Omega.{arith}
use Rattle.laws.proofs.Numbers.{Grows}
use Rattle.gsdf.specs.DisplayFunction.{jnd_luminance, luminance_after, luminance_of}
use Rattle.gsdf.proofs.TableRule.{jnd_rises}

unfoldable pub unrounded : ℕ → ℕ
unrounded k = 100 * jnd_luminance (k / 100) + (jnd_luminance (k / 100 + 1) - jnd_luminance (k / 100)) * (k % 100)

pub luminance_rounds : (k : ℕ) → luminance_of k ≡ unrounded k / 100
unfolding luminance_of luminance_after unrounded
luminance_rounds k = omega arith

pub unrounded_at : (j r k : ℕ) → k / 100 ≡ j → k % 100 ≡ r → unrounded k ≡ 100 * jnd_luminance j + (jnd_luminance (j + 1) - jnd_luminance j) * r
unfolding unrounded
unrounded_at j r k a b = rw (a, b)

-- one index on
pub unrounded_next : (k : ℕ) → 100 ≤ k → k < 102300 → unrounded (k + 1) ≡ unrounded k + (jnd_luminance (k / 100 + 1) - jnd_luminance (k / 100))
unrounded_next k l h =
    let j = k / 100 in
    let r = k % 100 in
    let here = unrounded_at j r k refl refl in
    let m : r ≤ 99 = omega arith in
    ⊎_elim
    (λ (e : r ≡ 99).
    let next : unrounded (k + 1) ≡ 100 * jnd_luminance (j + 1) + (jnd_luminance (j + 1 + 1) - jnd_luminance (j + 1)) * 0 =
    unrounded_at (j + 1) 0 (k + 1) (omega arith) (omega arith) in
    let full : unrounded k ≡ 100 * jnd_luminance j + (jnd_luminance (j + 1) - jnd_luminance j) * 99 = unrounded_at j 99 k refl e in
    omega (arith, next, full, jnd_rises j (omega arith) (omega arith)))
    (λ (u : r < 99).
    let next : unrounded (k + 1) ≡ 100 * jnd_luminance j + (jnd_luminance (j + 1) - jnd_luminance j) * (r + 1) =
    unrounded_at j (r + 1) (k + 1) (omega arith) (omega arith) in
    omega (arith, here, next))
    (eq-or-lt_of_le m)

pub unrounded_grows : Grows unrounded 47 100 102300
unfolding unrounded
unrounded_grows = record { step = λ k l h. grind (arith, jnd_rises (k / 100)) }
