-- The loop goes from reading to reading: its invariant is the record `Traced`. Assumes nothing.
use Rattle.std.proofs.Common.{arith, ◌∙◌, length-set}
use Rattle.curve.proofs.Walk.{traced_none, traced_top, follows, levels_between, traced_more, traced_all}
use Rattle.curve.proofs.fill_curve.Goals as goal

pub loop-i-init : goal.loop-i-init
loop-i-init g c = traced_none c.requires c.lit_reading-last.ensures

pub bounds-curve-from : goal.bounds-curve-from
bounds-curve-from g c = omega (arith, traced_top c.requires c.loop-i.invariant, c.requires.fits, c.loop-i.invariant.filled.len)

pub slice_bounds-fill_between-end : goal.slice_bounds-fill_between-end
slice_bounds-fill_between-end g c =
    let next = follows c.requires c.loop-i.invariant c.lit_reading-next.ensures (omega arith) (omega (arith, c.len-i-end.ensures)) in
    omega (arith, length-set c.loop-i.curve c.from-from.result c.loop-i.last.luminance.0, next.at_most, c.requires.fits, c.loop-i.invariant.filled.len)

pub loop-i-preserved : goal.loop-i-preserved
loop-i-preserved g c =
    let levels = levels_between c.requires c.loop-i.invariant c.lit_reading-next.ensures (omega arith) (omega (arith, c.len-i-end.ensures)) in
    rw (c.from-from.ensures, c.from-to.ensures)
    (traced_more c.requires c.loop-i.invariant c.lit_reading-next.ensures (omega arith) (omega (arith, c.len-i-end.ensures)) _ (omega arith)
    (rw (c.from-from.ensures, c.from-to.ensures) at c.fill_between.ensures ∙ rw levels))

pub returns : goal.returns
returns g c = rw c.from.ensures (traced_all c.requires c.loop-i.invariant (omega (arith, c.len-i-end.ensures)))
