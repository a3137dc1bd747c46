-- What was read so far is the front of what the input had.
use Rattle.std.proofs.Common.{◌≡◌, ◌-◌, ◌≤◌, length, take}
use Rattle.std.specs.Io.KnownBytes.{Consumes}
use Rattle.calibrate.proofs.Front.read.Given as goal

abbrev pub invariant-loop-self : goal.invariant-loop-self
invariant-loop-self g l = record {
  whole : length l.self-inside.bytes ≡ 6251;
  fits : l.self-inside.size ≤ 6251;
  taken : Consumes (g.R.Read.remaining l.initial.input) (g.R.Read.remaining l.input) (take l.self-inside.size l.self-inside.bytes);
}

abbrev pub decreases-loop-self : goal.decreases-loop-self
decreases-loop-self g l = 6251 - l.self-inside.size
