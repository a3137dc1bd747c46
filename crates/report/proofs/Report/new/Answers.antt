use Rattle.report.proofs.Report.new.Goals as goal

pub returns : goal.returns
returns c = c.new.ensures
