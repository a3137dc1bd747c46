use Rattle.std.proofs.Common.{arith, []}
use Rattle.std.proofs.lemmas.Grind.{common_steps}
use Rattle.record.specs.Bytes.{word, long}
use Rattle.record.proofs.Fields.{map_at}
use Rattle.record.proofs.Items+Reading.steps_up.Goals as goal

pub returns : goal.returns
returns c = grind (arith, common_steps, map_at (word 0) c.args.self.now.raw.now, map_at (long 2) c.args.self.now.raw.now, c.get-below.ensures [], c.get-reading.ensures [])
