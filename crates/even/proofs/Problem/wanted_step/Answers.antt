use Rattle.std.proofs.Common.{add-one, refl}
use Rattle.even.proofs.Problem.wanted_step.Goals as goal

pub returns : goal.returns
returns c = rw add-one refl
