-- The counts and the lists of a record by their parts, in the record's order.
use Rattle.std.specs.Prelude.{ℕ, List}
use Rattle.record.specs.Sections.{Counts, Lists}

abbrev pub counts : (a b c d : ℕ) → Counts
counts a b c d = record { settings = a; lamps = b; sweep = c; check = d }

abbrev pub lists : (settings lamps ddls luminances check : List ℕ) → Lists
lists st la dd lu ch = record { settings = st; lamps = la; ddls = dd; luminances = lu; check = ch }
