-- Assumes nothing.
use Rattle.contrast.specs.Check.{shown}
use Rattle.contrast.proofs.Filling.{Filling}
use Rattle.contrast.proofs.Patches.fill_deviations.Given as goal

abbrev pub invariant-loop-i : goal.invariant-loop-i
invariant-loop-i l =
    Filling l.limit (shown l.self.added.0 l.self.readings.now) l.indices l.pairs.0 l.initial.deviation-items l.deviation-items l.kept l.here.0 l.low.0 l.i
