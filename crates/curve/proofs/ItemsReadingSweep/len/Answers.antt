-- As many levels as the view has items. Assumes nothing.
use Rattle.std.proofs.Common.{◌∙◌}
use Rattle.curve.proofs.Viewed.{readings}
use Rattle.curve.proofs.ItemsReadingSweep.len.Goals as goal

pub returns : goal.returns
returns c = c.len.ensures ∙ readings c.args.self.now
