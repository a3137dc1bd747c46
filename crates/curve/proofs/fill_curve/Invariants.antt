-- The loop goes from reading to reading: its invariant is the record `Traced`. Assumes nothing.
use Rattle.std.proofs.Common.{◌-◌}
use Rattle.curve.proofs.Walk.{Traced}
use Rattle.curve.proofs.fill_curve.Given as goal

abbrev pub invariant-loop-i : goal.invariant-loop-i
invariant-loop-i g l = let s = g.S.Sweep in Traced l.added.0 (s.ddls l.sweep) (s.luminances l.sweep) l.initial.curve l.curve (l.i - 1) l.last
