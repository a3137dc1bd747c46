-- Assumes nothing.
use mathlib.Core.Path.{refl}
use native.Mathlib.Omega.{arith}
use Rattle.contrast.specs.Check.{shown}
use Rattle.contrast.proofs.Patches.shown.Goals as goal

pub overflow_add-result : goal.overflow_add-result
unfolding shown
overflow_add-result c = omega (arith, c.requires.1.high)

pub returns : goal.returns
unfolding shown
returns c = refl
