use Rattle.std.proofs.Common.{◌∙◌}
use Rattle.report.proofs.Report.text.Goals as goal

pub returns : goal.returns
returns c = c.as_bytes.ensures.value ∙ (c.as_str.ensures.value ∙ c.self.view_is)
