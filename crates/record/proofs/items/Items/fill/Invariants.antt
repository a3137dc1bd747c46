use Rattle.std.proofs.Common.{map}
use Rattle.laws.proofs.Fill.{Copied}
use Rattle.record.proofs.items.Items.fill.Given as goal

abbrev pub invariant-loop-i : goal.invariant-loop-i
invariant-loop-i g l = Copied (map g.F.Field.held l.self.raw.now) l.initial.item-items l.item-items l.i
