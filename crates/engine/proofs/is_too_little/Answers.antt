use Rattle.std.proofs.Common.{refl}
use Rattle.engine.proofs.is_too_little.Goals as goal

pub returns : goal.returns
returns c = refl
