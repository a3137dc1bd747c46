-- The number has ten digits at most. Assumes nothing.
use lib.ListN.{length-append}
use native.Mathlib.Omega.{arith}
use Rattle.report.proofs.Decimal.{decimal_fits}
use Rattle.report.proofs.Report.of_refusal.Goals as goal

pub put_number-requires : goal.put_number-requires
put_number-requires c = rw (c.put_text.ensures, c.new-report.ensures) (simp length-append (omega (arith, decimal_fits 9 c.from-2.result (omega arith))))

pub returns-clause-fits : goal.returns-clause-fits
returns-clause-fits c = rw (c.put_number.ensures, c.put_text.ensures, c.new-report.ensures) (simp length-append (omega (arith, decimal_fits 9 c.from-2.result (omega arith))))

pub returns-clause-line : goal.returns-clause-line
returns-clause-line c = rw (c.put_number.ensures, c.from-2.ensures, c.from.ensures, c.put_text.ensures, c.new-report.ensures)
