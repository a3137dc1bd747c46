use Rattle.std.proofs.Common.{refl}
use Rattle.even.proofs.Problem.band.Goals as goal

pub returns-clause-dark : goal.returns-clause-dark
returns-clause-dark c = rw (c.from.ensures, c.from-2.ensures) refl

pub returns-clause-bright : goal.returns-clause-bright
returns-clause-bright c = rw (c.from.ensures, c.from-2.ensures) refl
