use Rattle.std.proofs.Common.{arith, []}
use Rattle.std.proofs.lemmas.Grind.{common_steps}
use Rattle.record.specs.Bytes.{word}
use Rattle.record.proofs.Fields.{map_at}
use Rattle.record.proofs.Items+Reading.ends_span.Goals as goal

pub returns : goal.returns
returns c = grind (arith, common_steps, map_at (word 0) c.args.self.now.raw.now, c.get.ensures [], c.get-2.ensures [])
