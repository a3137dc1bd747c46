-- A row has room where all of them have it. Assumes nothing.
use mathlib.Core.Path.{sym, ap}
use mathlib.Core.List.{append_assoc, append-nil}
use lib.ListN.{length, length-append}
use native.Mathlib.Numerals.{add-one}
use native.Mathlib.Omega.{arith}
use Rattle.report.specs.Report.{rows}
use Rattle.report.proofs.Putting.{row_fits}
use Rattle.report.proofs.Pairs.{all_left, next_left}
use Rattle.report.proofs.Report.put_rows.Goals as goal

pub loop-p-init : goal.loop-p-init
unfolding rows
loop-p-init c =
    let a =
    all_left c.into_iter-p-iterator.ensures.into_iter_gives c.enumerate-p-items.ensures.source c.enumerate-p-items.ensures.count c.zip.ensures.first
    c.iter.ensures.rest c.zip.ensures.second.0
    in
    (a.0, rw a.1 (sym (append-nil _)))

pub put_row-requires : goal.put_row-requires
put_row-requires c =
    let n = next_left c.told-nearest c.told-even c.loop-p.invariant.0 c.next.new.self (c.in-Some.p, (c.in-Some.nearest, c.in-Some.even)) c.in-Some.ensures.steps in
    let held = ap length c.loop-p.invariant.1 in
    let fits = row_fits c.args.nearest.now c.args.even.now c.loop-p.p-iterator.count n.2 in
    rw (n.1, n.3, n.4) (simp length-append (omega (arith, simp length-append at held, simp length-append at fits, c.requires)))

pub loop-p-preserved : goal.loop-p-preserved
unfolding rows
loop-p-preserved c =
    let n = next_left c.told-nearest c.told-even c.loop-p.invariant.0 c.next.new.self (c.in-Some.p, (c.in-Some.nearest, c.in-Some.even)) c.in-Some.ensures.steps in (
      n.0,
      rw (c.put_row.ensures, c.loop-p.invariant.1, n.1, n.3, n.4, n.5, add-one) (append_assoc _ (rows c.args.nearest.now c.args.even.now c.loop-p.p-iterator.count) _),
    )
