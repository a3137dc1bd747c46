-- Both make the report. Assumes nothing.
use mathlib.Core.Path.{◌∙◌}
use Rattle.report.proofs.Reporting.{reported}
use Rattle.report.proofs.report_on.Goals as goal

pub returns-in-Ok-clause-report_promise : goal.returns-in-Ok-clause-report_promise
returns-in-Ok-clause-report_promise c = reported c.of_lines.ensures.fits (c.of_lines.ensures.lines ∙ c.in-Ok.ensures.lines)

pub returns-in-Err-clause-report_promise : goal.returns-in-Err-clause-report_promise
returns-in-Err-clause-report_promise c = reported c.of_refusal.ensures.fits (c.of_refusal.ensures.line ∙ c.in-Err.ensures.refusal)
