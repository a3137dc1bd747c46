-- What follows from the promise of the even table.
use Rattle.std.specs.Prelude.{ℕ, ◌≡◌, List, length}
use Rattle.engine.specs.Even.{EvenValues, even_values, even_answer, even_lent}

-- the entries and the values are those of the equations
pub record EvenSettled (bytes before work after : List ℕ) (v : EvenValues) : Type 0 where
  pub entries : after ≡ even_lent bytes before (length work)
  pub values_are : v ≡ even_values (even_answer bytes (length before) (length work))
