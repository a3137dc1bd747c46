use Rattle.std.proofs.Common.{arith}
use Rattle.record.proofs.ClassTryFromU16.try_from.Goals as goal

pub returns-in-1 : goal.returns-in-1
returns-in-1 c = rw c.in-1.is

pub returns-in-2 : goal.returns-in-2
returns-in-2 c = grind arith
