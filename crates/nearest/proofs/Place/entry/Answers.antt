-- Of the two levels around the target the lower one, unless the other is nearer. Assumes nothing.
use Rattle.std.proofs.Common.{arith}
use Rattle.nearest.proofs.Places.{entry_below, entry_above}
use Rattle.nearest.proofs.Place.entry.Goals as goal

pub returns : goal.returns
returns c = grind (arith, entry_below c.args.self.walkable c.requires, entry_above c.args.self.walkable c.requires)
