use Rattle.std.proofs.Common.{arith}
use Rattle.record.proofs.items.ItemsIterator.size_hint.Goals as goal

pub returns-clause-upper : goal.returns-clause-upper
returns-clause-upper g c = (tt, omega arith)

pub returns-clause-exact : goal.returns-clause-exact
returns-clause-exact g c = (omega arith, cc)
