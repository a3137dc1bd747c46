-- A problem as the code holds it.
use Rattle.even.specs.Even.{Given}
use Rattle.even.specs.Filled.{given}
use Rattle.even.specs.declared.Problem.{Problem}

-- what it gives
abbrev pub given_of : Problem → Given
given_of p = given p.curve.now p.targets.now p.tolerance
