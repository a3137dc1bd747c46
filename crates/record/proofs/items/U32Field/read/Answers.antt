use Rattle.std.proofs.Common.{arith}
use Rattle.record.proofs.items.U32Field.read.Goals as goal

pub returns : goal.returns
returns c = omega arith
