-- The loop's invariant is the record `Lighting`. Assumes nothing.
use Rattle.reach.proofs.Runs.{Lighting}
use Rattle.reach.proofs.light_run.Given as goal

abbrev pub invariant-loop-d : goal.invariant-loop-d
invariant-loop-d l = Lighting l.initial.words l.words l.fn.run.p l.fn.run.from l.d
