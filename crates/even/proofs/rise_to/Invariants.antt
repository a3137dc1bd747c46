-- The levels passed are darker. Assumes nothing.
use Prim.Native.Nat.{◌≤◌}
use Rattle.even.specs.Runs.{reaching}
use Rattle.even.proofs.rise_to.Given as goal

abbrev pub invariant-loop-d : goal.invariant-loop-d
invariant-loop-d l = l.d ≤ reaching l.curve l.l.0
