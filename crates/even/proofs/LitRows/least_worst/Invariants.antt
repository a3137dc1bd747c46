-- Between low and high lies the least worst step. Assumes nothing.
use Prim.Native.Nat.{◌-◌}
use mathlib.Core.Path.{◌≡◌}
use Rattle.even.specs.Problems.{given_of}
use Rattle.even.proofs.Halving.{Halving}
use Rattle.even.proofs.LitRows.least_worst.Given as goal

abbrev pub invariant-loop-low : goal.invariant-loop-low
invariant-loop-low l =
    (l.self.words.ghost_name ≡ l.fn.self.words.ghost_name)
    × (l.self.found ≡ l.fn.self.found)
    × Halving (given_of l.fn.self.found.problem) l.fn.self.words.now l.self.words.now l.low l.high l.ready

abbrev pub decreases-loop-low : goal.decreases-loop-low
decreases-loop-low l = l.high - l.low
