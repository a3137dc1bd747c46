-- The loop's invariant is the record `Filling`. Assumes nothing.
use Rattle.reach.proofs.Filling.{Filling}
use Rattle.reach.proofs.fill_row.Given as goal

abbrev pub invariant-loop-i : goal.invariant-loop-i
invariant-loop-i l =
    Filling l.curve l.initial.words l.words l.run l.next l.span l.gathered l.i l.q
