use Rattle.std.proofs.Common.{arith}
use Rattle.record.proofs.items.U16Field.read.Goals as goal

pub returns : goal.returns
returns c = omega arith
