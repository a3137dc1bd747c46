-- The constant is the list of specs/. Assumes nothing.
use mathlib.Core.Path.{refl}
use Rattle.gsdf.specs.Table.{table_b1}
use Rattle.gsdf.proofs.entries.Goals as goal

pub returns : goal.returns
unfolding table_b1
returns c = refl
