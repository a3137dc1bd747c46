use Rattle.std.proofs.Common.{ap}
use Rattle.std.proofs.lemmas.List.{get_or_default}
use Rattle.record.proofs.items.Items.get.Goals as goal

pub returns : goal.returns
returns g c = λ d. rw c.read.ensures (ap g.F.Field.held (get_or_default c.args.self.now.raw.now c.args.i _ d c.requires))
