use Rattle.std.proofs.Common.{refl}
use Rattle.curve.proofs.ReadingsSweep.len.Goals as goal

pub returns : goal.returns
returns c = refl
