use Rattle.laws.proofs.Fill.{Copied}
use Rattle.record.specs.Reader.{ddls_of, luminances_of}
use Rattle.record.proofs.Items+Reading.fill_sweep.Given as goal

abbrev pub invariant-loop-i : goal.invariant-loop-i
invariant-loop-i l = Copied (ddls_of l.self) l.initial.ddls l.ddls l.i × Copied (luminances_of l.self) l.initial.luminances l.luminances l.i
