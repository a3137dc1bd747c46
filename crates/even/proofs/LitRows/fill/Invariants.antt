-- From the last row down. Assumes nothing.
use mathlib.Core.Path.{◌≡◌}
use Rattle.even.specs.Problems.{given_of}
use Rattle.even.proofs.Filling.{RowsSoFar}
use Rattle.even.proofs.LitRows.fill.Given as goal

abbrev pub invariant-loop-p : goal.invariant-loop-p
invariant-loop-p l =
    (l.self.words.ghost_name ≡ l.fn.self.words.ghost_name)
    × (l.self.found ≡ l.fn.self.found)
    × RowsSoFar (given_of l.fn.self.found.problem) l.k l.fn.self.words.now l.self.words.now l.p
