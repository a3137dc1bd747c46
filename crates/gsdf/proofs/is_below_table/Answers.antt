-- The end of the table is its entry. Assumes nothing.
use Rattle.gsdf.specs.Ends.{below_table}
use Rattle.gsdf.proofs.TableRule.{jnd_first}
use Rattle.gsdf.proofs.is_below_table.Goals as goal

pub returns : goal.returns
unfolding below_table
returns c = rw (c.from.ensures, c.from-2.ensures, jnd_first)
