-- The definition itself, with the case of a whole JND apart: the last one has no next. Assumes nothing.
use native.Mathlib.Omega.{arith}
use Rattle.gsdf.specs.DisplayFunction.{luminance_after, luminance_of}
use Rattle.gsdf.proofs.TableRule.{jnd_rises, jnd_high}
use Rattle.gsdf.proofs.Laws.{luminance_whole}
use Rattle.gsdf.proofs.luminance_of.Goals as goal

pub returns-then-hundredths-eq0 : goal.returns-then-hundredths-eq0
returns-then-hundredths-eq0 c = grind (arith, luminance_whole)

pub overflow_sub-difference : goal.overflow_sub-difference
overflow_sub-difference c = omega (arith, jnd_rises)

pub overflow_mul-product : goal.overflow_mul-product
overflow_mul-product c = grind (arith, jnd_rises, jnd_high)

pub returns : goal.returns
unfolding luminance_of luminance_after
returns c = rw (c.jnd_luminance-low.ensures, c.jnd_luminance-high.ensures)
