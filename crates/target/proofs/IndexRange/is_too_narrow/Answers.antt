use mathlib.Core.Path.{refl}
use Rattle.target.proofs.IndexRange.is_too_narrow.Goals as goal

pub returns : goal.returns
returns c = refl
