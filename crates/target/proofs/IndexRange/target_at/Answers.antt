-- Assumes nothing.
use Rattle.target.specs.Target.{index_at, target_at}
use Rattle.target.proofs.IndexRange.target_at.Goals as goal

pub returns : goal.returns
unfolding target_at index_at
returns c = rw (← c.from.ensures, ← c.from-2.ensures) c.luminance_of.ensures
