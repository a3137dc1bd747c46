-- What the library prints of a number is its digits. Assumes nothing.
use mathlib.Core.List.{append_assoc}
use lib.ListN.{length-append}
use native.Mathlib.Omega.{arith}
use Rattle.report.specs.Text.{decimal}
use Rattle.report.proofs.Decimal.{printed_decimal}
use Rattle.report.proofs.Report.put_number.Goals as goal

pub put_text-requires : goal.put_text-requires
put_text-requires c =
    rw (c.format.ensures.text, printed_decimal c.args.n c.ranges.n.fits) (omega (arith, simp length-append at c.requires))

pub put_text-requires-2 : goal.put_text-requires-2
put_text-requires-2 c =
    rw (c.put_text.ensures, c.format.ensures.text, printed_decimal c.args.n c.ranges.n.fits) (simp length-append (omega (arith, simp length-append at c.requires)))

pub returns : goal.returns
returns c =
    rw (c.put_text-2.ensures, c.put_text.ensures, c.format.ensures.text, printed_decimal c.args.n c.ranges.n.fits) (append_assoc c.args.self.now (decimal c.args.n) c.args.after.now)
