-- Tests taken apart into their cases. `mir.Facts` has those of `&&`, `||`, `leb`, `ltb` and `eqb`.
-- Assumes nothing.
use mathlib.Core.Path.{◌≡◌, refl, ap, ◌∙◌}
use mathlib.Core.Bool.{Bool, true, false, not, ◌||◌}
use mathlib.Core.Logic.{◌⊎◌}
use Prim.Native.Nat.{ℕ, ◌≤◌, ◌<◌}
use native.Mathlib.Omega.{arith}
use lib.Dec.{T}
use Rattle.std.specs.Prelude.{Result, Err}
use Rattle.std.specs.Result.{IsErrAnd}
use Rattle.std.proofs.lemmas.Result.{err_from_is_err_and}
pub use lib.Ieee.Bits.{is_true as is_yes, is_false as is_no}

-- by the outcome of a test
pub by {ℓ} : {X : Type ℓ} (b : Bool) → (b ≡ true → X) → (b ≡ false → X) → X
by true f g = f refl
by false f g = g refl

-- a test by its outcome, where the goal names the test
pub yes_is : {b : Bool} → b ≡ true → T b
yes_is e = rw e tt

pub no_is : {b : Bool} → b ≡ false → T (not b)
no_is e = rw e tt

-- two tests that pass for each other have one outcome
pub same_outcome : (a b : Bool) → (T a → T b) → (T b → T a) → a ≡ b
same_outcome a b f g = grind arith

pub le_or_lt : (a b : ℕ) → (a ≤ b) ⊎ (b < a)
le_or_lt a b = grind arith

pub yes_or : (a b : Bool) → T a ⊎ T b → T (a || b)
yes_or a b h = grind arith

-- where `?` meets an error, that error is what is returned
pub err_returned : {T E : Type 0} {r : Result T E} {e : E} → IsErrAnd r (λ d. d ≡ e) → r ≡ Err e
err_returned {r = r} h = let (d, was, same) = err_from_is_err_and r h in was ∙ ap Err same
