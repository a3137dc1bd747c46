use Rattle.std.proofs.Common.{arith, refl}
use Rattle.laws.proofs.Fill.{copied_more}
use Rattle.std.proofs.lemmas.List.{length-map}
use Rattle.record.proofs.Climbing.{ddl_at, luminance_at}
use Rattle.record.proofs.Items+Reading.fill_sweep.Goals as goal

pub loop-i-preserved : goal.loop-i-preserved
loop-i-preserved c = (
  copied_more _ _ _ c.loop-i.i _ c.loop-i.invariant.0 (rw length-map (omega arith)) (omega arith) (ddl_at _ c.loop-i.i (omega arith) c.get-reading.ensures _),
  copied_more _ _ _ c.loop-i.i _ c.loop-i.invariant.1 (rw length-map (omega arith)) (omega arith) (luminance_at _ c.loop-i.i (omega arith) c.get-reading.ensures _),
)

pub loop-i-init : goal.loop-i-init
loop-i-init c = (record { is = refl }, record { is = refl })
