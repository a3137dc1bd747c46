use Rattle.std.proofs.Common.{arith}
use Rattle.std.proofs.lemmas.Grind.{common_steps}
use Rattle.record.proofs.permits.Goals as goal

pub returns-in-Settings : goal.returns-in-Settings
returns-in-Settings c = rw c.in-Settings.is

pub returns-in-Lamps : goal.returns-in-Lamps
returns-in-Lamps c = rw c.in-Lamps.is

pub returns-in-Sweep : goal.returns-in-Sweep
returns-in-Sweep c = rw c.in-Sweep.is (grind (arith, common_steps))

pub returns-in-Check : goal.returns-in-Check
returns-in-Check c = rw c.in-Check.is
