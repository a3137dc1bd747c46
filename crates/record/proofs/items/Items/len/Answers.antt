use Rattle.std.proofs.Common.{refl}
use Rattle.record.proofs.items.Items.len.Goals as goal

pub returns : goal.returns
returns g c = refl
