-- The hundredths after the last JND at or below l are one quotient. Assumes nothing.
use native.Mathlib.Omega.{arith}
use Rattle.gsdf.proofs.TableRule.{jnd_last}
use Rattle.gsdf.proofs.Laws.{index_last, index_between}
use Rattle.gsdf.proofs.index_of.Goals as goal

pub returns-then-j-eq1023 : goal.returns-then-j-eq1023
returns-then-j-eq1023 c = grind (arith, index_last, jnd_last)

pub returns : goal.returns
returns c = index_between (grind arith)
