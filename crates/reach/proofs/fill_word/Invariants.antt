-- The loop's invariant is the record `Gathering`. Assumes nothing.
use Rattle.reach.proofs.Words.{Gathering}
use Rattle.reach.proofs.fill_word.Given as goal

abbrev pub invariant-loop-d : goal.invariant-loop-d
invariant-loop-d l =
    Gathering l.curve l.words l.fn.run l.next l.span l.bits l.d l.q
