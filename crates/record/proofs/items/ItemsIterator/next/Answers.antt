use Rattle.std.proofs.Common.{refl}
use Rattle.record.proofs.items.ItemsIterator.next.Goals as goal

pub returns-clause-steps : goal.returns-clause-steps
returns-clause-steps g c = rw (c.in_ok-first.ensures.cases.0, c.read.ensures) refl
