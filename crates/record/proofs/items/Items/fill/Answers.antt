use Rattle.std.proofs.Common.{arith, refl, sym}
use Rattle.std.proofs.lemmas.List.{length-map}
use lib.Seq.{length-take-le}
use Rattle.laws.proofs.Fill.{copied_more}
use Rattle.record.proofs.Fields.{held_at}
use Rattle.record.proofs.items.Items.fill.Goals as goal

pub loop-i-preserved : goal.loop-i-preserved
loop-i-preserved g c =
    let n = length-take-le c.len.result c.args.array.now (omega (arith, c.requires, c.len.ensures)) in
    copied_more _ _ _ c.loop-i.i _ c.loop-i.invariant (rw length-map (omega (arith, n, c.len.ensures))) (omega (arith, n)) (held_at _ _ c.loop-i.i _ (omega (arith, n, c.len.ensures)) c.get.ensures)

pub slice_bounds-item-items-end : goal.slice_bounds-item-items-end
slice_bounds-item-items-end g c = rw c.len.ensures c.requires

pub slice_bounds-item-items-end-2 : goal.slice_bounds-item-items-end-2
slice_bounds-item-items-end-2 g c = sym (length-take-le c.len.result c.args.array.now (rw c.len.ensures c.requires))

pub loop-i-init : goal.loop-i-init
loop-i-init g c = record { is = refl }
