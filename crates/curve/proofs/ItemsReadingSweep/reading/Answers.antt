-- The view's item is the reading at the place. Assumes nothing.
use Rattle.record.proofs.Climbing.{ddl_at, luminance_at}
use Rattle.curve.proofs.Viewed.{readings, place_in}
use Rattle.curve.proofs.ItemsReadingSweep.reading.Goals as goal

pub returns-clause-ddl : goal.returns-clause-ddl
returns-clause-ddl c = ddl_at _ c.args.i (place_in c.args.self.now c.requires.0) c.get.ensures 0

pub returns-clause-luminance : goal.returns-clause-luminance
returns-clause-luminance c = luminance_at _ c.args.i (place_in c.args.self.now c.requires.0) c.get.ensures 0
