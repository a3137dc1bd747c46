-- One walk over the P-values. Assumes nothing.
use Rattle.even.specs.Problems.{given_of}
use Rattle.even.proofs.Bound.{Finding}
use Rattle.even.proofs.Problem.find_runs.Given as goal

abbrev pub invariant-loop-p : goal.invariant-loop-p
invariant-loop-p l = Finding (given_of l.self) l.fn.starts l.fn.ends l.starts l.ends l.p l.run l.worst
