-- The loop goes from level to level along the line: its invariant is the record `Drawn`. Assumes nothing.
use Rattle.curve.proofs.Walk.{Drawn}
use Rattle.curve.proofs.fill_between.Given as goal

abbrev pub invariant-loop-level : goal.invariant-loop-level
invariant-loop-level l = Drawn l.fn.l1.0 l.fn.l2.0 l.initial.levels l.levels l.level-index l.line
