-- What the parts of the report's code ask of one another.
use Rattle.std.specs.Prelude.{ℕ, ◌+◌, ◌≤◌, List, length}

-- there is room for a piece behind what a report holds
abbrev pub HasRoom : (held piece : List ℕ) → Type 0
HasRoom held piece = length held + length piece ≤ 4694
