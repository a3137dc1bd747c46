-- The end of the table is its entry. Assumes nothing.
use Rattle.gsdf.specs.Ends.{above_table}
use Rattle.gsdf.proofs.TableRule.{jnd_last}
use Rattle.gsdf.proofs.is_above_table.Goals as goal

pub returns : goal.returns
unfolding above_table
returns c = rw (c.from.ensures, c.from-2.ensures, jnd_last)
