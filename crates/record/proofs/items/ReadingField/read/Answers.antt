use Rattle.std.proofs.Common.{refl}
use Rattle.record.proofs.items.ReadingField.read.Goals as goal

pub returns : goal.returns
returns c = rw (c.read.ensures, c.read-2.ensures) refl
