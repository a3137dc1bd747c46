use Rattle.std.proofs.Common.{arith}
use Rattle.std.proofs.Math.Pow.{pow_mono}
use Rattle.record.proofs.max_ddl.Goals as goal

pub returns : goal.returns
returns c = omega (arith, pow_mono c.requires.1)
