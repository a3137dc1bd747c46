-- A row for each pair that is counted is there, and the others are left. Assumes nothing.
use mathlib.Core.Path.{◌≡◌}
use mathlib.Core.List.{◌++◌}
use Rattle.report.specs.Report.{rows}
use Rattle.report.proofs.Pairs.{Left}
use Rattle.report.proofs.Report.put_rows.Given as goal

abbrev pub invariant-loop-p : goal.invariant-loop-p
invariant-loop-p l = Left l.nearest l.even l.p-iterator × (l.self ≡ l.initial.self ++ rows l.nearest l.even l.p-iterator.count)
