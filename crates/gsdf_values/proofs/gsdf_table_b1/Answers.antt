-- A search, which names no step: where the table is not the one that the call returns, there is no such step.
use Rattle.std.proofs.Common.{rules}
use Rattle.gsdf_values.proofs.gsdf_table_b1.Goals as goal

pub returns : goal.returns
returns c = search rules
