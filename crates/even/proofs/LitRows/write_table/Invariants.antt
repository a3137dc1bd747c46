-- From the first row up. Assumes nothing.
use Rattle.even.specs.Problems.{given_of}
use Rattle.even.proofs.Writing.{Writing}
use Rattle.even.proofs.LitRows.write_table.Given as goal

abbrev pub invariant-loop-p : goal.invariant-loop-p
invariant-loop-p l = Writing (given_of l.self.found.problem) l.k l.fn.table l.table l.p l.d
