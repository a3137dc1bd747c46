-- Assumes nothing.
use Rattle.target.specs.Target.{range_of}
use Rattle.target.proofs.index_range.Goals as goal

pub returns : goal.returns
unfolding range_of
returns c = rw (c.saturating_sub.ensures, c.index_of-low.ensures, c.index_of-high.ensures)
