use Rattle.std.proofs.Common.{arith, []}
use Rattle.std.proofs.lemmas.Grind.{common_steps}
use Rattle.laws.proofs.Cases.{err_returned}
use Rattle.record.specs.Bytes.{word}
use Rattle.record.specs.Tests.{settings_in_range, settings_of}
use Rattle.record.proofs.Fields.{map_at}
use Rattle.record.proofs.job_settings.Goals as goal

pub returns-in_err-meter : goal.returns-in_err-meter
unfolding settings_in_range
returns-in_err-meter c = grind (arith, err_returned c.from_residual.ensures.1, map_at (word 0) c.args.settings.now.raw.now, c.get.ensures [])

pub returns-in_err-class : goal.returns-in_err-class
unfolding settings_in_range
returns-in_err-class c = grind (arith, err_returned c.from_residual-in_err-class.ensures.1, map_at (word 0) c.args.settings.now.raw.now, c.get-depth.ensures [], c.get.ensures [], c.get-2.ensures [])

pub returns-then-not-in_range : goal.returns-then-not-in_range
unfolding settings_in_range
returns-then-not-in_range c = grind (arith, common_steps, map_at (word 0) c.args.settings.now.raw.now, c.get-depth.ensures [], c.get.ensures [], c.get-2.ensures [], c.get-reflectance.ensures [], c.get-tolerance.ensures [])

pub returns : goal.returns
unfolding settings_in_range settings_of
returns c = grind (arith, common_steps, map_at (word 0) c.args.settings.now.raw.now, c.get-depth.ensures [], c.get.ensures [], c.get-2.ensures [], c.get-reflectance.ensures [], c.get-tolerance.ensures [])
