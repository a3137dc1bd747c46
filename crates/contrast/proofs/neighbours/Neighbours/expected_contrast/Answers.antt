-- Assumes nothing.
use mathlib.Core.Path.{refl}
use Rattle.contrast.specs.Deviation.{expected_contrast}
use Rattle.contrast.proofs.neighbours.Neighbours.expected_contrast.Goals as goal

pub returns : goal.returns
unfolding expected_contrast
returns c = rw (c.from-rise.ensures, c.from.ensures, c.from-2.ensures) refl
