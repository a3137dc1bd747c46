-- All lines have room. Assumes nothing.
use lib.ListN.{length-append}
use borrow.Author.Rules.{rules}
use native.Mathlib.Omega.{arith}
use Rattle.report.proofs.Putting.{lines_fit}
use Rattle.report.proofs.Report.of_lines.Goals as goal

pub put_range-requires : goal.put_range-requires
put_range-requires c =
    let fit = lines_fit c.args.made.figures c.args.made.worst_step c.args.made.check c.args.made.nearest c.args.made.even (search rules) (search rules) (search rules) (search rules) (search rules) (search rules) in
    rw c.new-report.ensures (simp length-append (omega (arith, simp length-append at fit)))

pub put_text-requires : goal.put_text-requires
put_text-requires c =
    let fit = lines_fit c.args.made.figures c.args.made.worst_step c.args.made.check c.args.made.nearest c.args.made.even (search rules) (search rules) (search rules) (search rules) (search rules) (search rules) in
    rw (c.room_text.ensures, c.put_range.ensures, c.new-report.ensures) (simp length-append (omega (arith, simp length-append at fit)))

pub put_even-requires : goal.put_even-requires
put_even-requires c =
    let fit = lines_fit c.args.made.figures c.args.made.worst_step c.args.made.check c.args.made.nearest c.args.made.even (search rules) (search rules) (search rules) (search rules) (search rules) (search rules) in
    rw (c.put_text.ensures, c.room_text.ensures, c.put_range.ensures, c.new-report.ensures) (simp length-append (omega (arith, simp length-append at fit)))

pub put_text-requires-2 : goal.put_text-requires-2
put_text-requires-2 c =
    let fit = lines_fit c.args.made.figures c.args.made.worst_step c.args.made.check c.args.made.nearest c.args.made.even (search (rules, c.well_formed)) (search (rules, c.well_formed)) (search (rules, c.well_formed)) (search (rules, c.well_formed)) (search (rules, c.well_formed)) (search (rules, c.well_formed)) in
    rw (c.check_text.ensures, c.put_even.ensures, c.put_text.ensures, c.room_text.ensures, c.put_range.ensures, c.new-report.ensures) (simp length-append (omega (arith, simp length-append at fit)))

pub put_rows-requires : goal.put_rows-requires
put_rows-requires c =
    let fit = lines_fit c.args.made.figures c.args.made.worst_step c.args.made.check c.args.made.nearest c.args.made.even (search (rules, c.well_formed)) (search (rules, c.well_formed)) (search (rules, c.well_formed)) (search (rules, c.well_formed)) (search (rules, c.well_formed)) (search (rules, c.well_formed)) in
    rw (c.put_text-2.ensures, c.check_text.ensures, c.put_even.ensures, c.put_text.ensures, c.room_text.ensures, c.put_range.ensures, c.new-report.ensures) (simp length-append (omega (arith, simp length-append at fit)))

pub returns-clause-fits : goal.returns-clause-fits
returns-clause-fits c =
    let fit = lines_fit c.args.made.figures c.args.made.worst_step c.args.made.check c.args.made.nearest c.args.made.even (search (rules, c.well_formed)) (search (rules, c.well_formed)) (search (rules, c.well_formed)) (search (rules, c.well_formed)) (search (rules, c.well_formed)) (search (rules, c.well_formed)) in
    rw (c.put_rows.ensures, c.put_text-2.ensures, c.check_text.ensures, c.put_even.ensures, c.put_text.ensures, c.room_text.ensures, c.put_range.ensures, c.new-report.ensures) (simp length-append (omega (arith, simp length-append at fit)))
