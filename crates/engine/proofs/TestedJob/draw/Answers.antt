use native.Mathlib.Omega.{arith}
use Rattle.engine.proofs.Measuring.{aims}
use Rattle.engine.proofs.Drawing.{highest, job_drawable, ends_in, range_drawn, job_drawn}
use Rattle.engine.proofs.Reading.{measurable}
use Rattle.engine.proofs.TestedJob.draw.Goals as goal

pub max_ddl-top-requires : goal.max_ddl-top-requires
max_ddl-top-requires c = ((measurable _ c.requires.1.accepted).depth_low, (measurable _ c.requires.1.accepted).depth_high)

pub fill_curve-requires : goal.fill_curve-requires
fill_curve-requires c = job_drawable c.requires.1 _ c.max_ddl-top.ensures _ c.told-levels

pub bounds-levels-last : goal.bounds-levels-last
bounds-levels-last c = omega (arith, c.from-last.ensures, highest c.requires.1 _ c.max_ddl-top.ensures)

pub index_range-indices-requires : goal.index_range-indices-requires
index_range-indices-requires c = rw c.from-last.ensures (ends_in c.requires.1 _ c.max_ddl-top.ensures _ c.fill_curve.ensures)

pub fill_targets-requires : goal.fill_targets-requires
fill_targets-requires c =
    rw (range_drawn c.requires.1 _ c.max_ddl-top.ensures _ c.fill_curve.ensures (rw c.from-last.ensures at c.index_range-indices.ensures))
    (aims (measurable _ c.requires.1.accepted) _ c.requires.1.wide, omega arith)

pub shared_ref_as_front-result : goal.shared_ref_as_front-result
shared_ref_as_front-result c = omega (arith, c.from-last.ensures, highest c.requires.1 _ c.max_ddl-top.ensures)

pub returns : goal.returns
returns c = λ bytes p.
    rw c.from-last.ensures (job_drawn p _ c.max_ddl-top.ensures _ c.fill_curve.ensures _ (rw c.from-last.ensures at c.index_range-indices.ensures) c.fill_targets.ensures c.told-targets)
