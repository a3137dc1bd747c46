use Rattle.std.proofs.Common.{rules}
use Rattle.record.proofs.items.ItemsClone.clone.Goals as goal

pub returns : goal.returns
returns g c = search rules
