-- Entry j − 1 of the table. Assumes nothing.
use mathlib.Core.Path.{ap}
use mathlib.Core.List.{List}
use Prim.Native.Nat.{ℕ, ◌-◌}
use lib.ListN.{get_or}
use Rattle.gsdf.specs.DisplayFunction.{jnd_luminance}
use Rattle.gsdf.proofs.jnd_luminance.Goals as goal

pub returns : goal.returns
unfolding jnd_luminance
returns c = ap (λ (xs : List ℕ). get_or xs (c.args.j - 1) 0) c.entries.ensures
