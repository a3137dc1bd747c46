use mathlib.Core.List.{append_assoc}
use lib.ListN.{length-append}
use native.Mathlib.Omega.{arith}
use Rattle.report.proofs.Report.put_row.Goals as goal

pub put_number-requires : goal.put_number-requires
put_number-requires c = rw c.from.ensures (simp length-append (omega (arith, simp length-append at c.requires)))

pub put_number-requires-2 : goal.put_number-requires-2
put_number-requires-2 c = rw (c.put_number.ensures, c.from.ensures, c.from-2.ensures) (simp length-append (omega (arith, simp length-append at c.requires)))

pub put_number-requires-3 : goal.put_number-requires-3
put_number-requires-3 c =
    rw (c.put_number-2.ensures, c.put_number.ensures, c.from.ensures, c.from-2.ensures, c.from-3.ensures) (simp length-append (omega (arith, simp length-append at c.requires)))

pub returns : goal.returns
returns c = rw (c.put_number-3.ensures, c.put_number-2.ensures, c.put_number.ensures, c.from.ensures, c.from-2.ensures, c.from-3.ensures) (simp append_assoc)
