-- The loop's invariant is the record `Filling`. Assumes nothing.
use Rattle.nearest.proofs.Filling.{Filling}
use Rattle.nearest.proofs.fill_table.Given as goal

abbrev pub invariant-loop-p : goal.invariant-loop-p
invariant-loop-p l = Filling l.curve l.targets l.initial.table l.table l.largest.0 l.place l.p
