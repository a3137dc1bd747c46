use Rattle.std.proofs.Common.{arith}
use Rattle.record.proofs.MeterTryFromU16.try_from.Goals as goal

pub returns-in-0 : goal.returns-in-0
returns-in-0 c = rw c.in-0.is

pub returns-in-1 : goal.returns-in-1
returns-in-1 c = grind arith
