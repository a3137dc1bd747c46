use Rattle.std.proofs.Common.{refl}
use Rattle.curve.proofs.ReadingsSweep.reading.Goals as goal

pub returns-clause-ddl : goal.returns-clause-ddl
returns-clause-ddl c = refl

pub returns-clause-luminance : goal.returns-clause-luminance
returns-clause-luminance c = refl
