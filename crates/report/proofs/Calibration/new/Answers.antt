-- The first refusal is returned. Assumes nothing.
use Rattle.laws.proofs.Cases.{err_returned}
use Rattle.report.specs.Report.{entries}
use Rattle.report.proofs.Reporting.{nearest_refuses, even_refuses, check_refuses, all_made, kept}
use Rattle.report.proofs.Calibration.new.Goals as goal

pub returns-in_err-figures-clause-refusal : goal.returns-in_err-figures-clause-refusal
returns-in_err-figures-clause-refusal c =
    rw (err_returned c.from_residual.ensures.1) (nearest_refuses _ _ c.in_err-figures.ensures.answers)

pub returns-in_err-made-clause-refusal : goal.returns-in_err-made-clause-refusal
returns-in_err-made-clause-refusal c =
    rw (err_returned c.from_residual-in_err-made.ensures.1) (even_refuses _ _ c.in_ok-figures.ensures.answers c.in_err-made.ensures.answers)

pub returns-in_err-check-clause-refusal : goal.returns-in_err-check-clause-refusal
returns-in_err-check-clause-refusal c =
    rw (err_returned c.from_residual-in_err-check.ensures.1) (check_refuses _ _ c.in_ok-figures.ensures.answers c.in_ok-made.ensures.answers c.in_err-check.ensures.answers)

pub returns-clause-lines : goal.returns-clause-lines
unfolding entries
returns-clause-lines c =
    all_made _ _ c.in_ok-figures.ensures.answers c.in_ok-made.ensures.answers c.in_ok-check.ensures.answers c.in_ok-figures.ensures.table c.in_ok-made.ensures.table

pub returns-in_err-check-clause-words_kept : goal.returns-in_err-check-clause-words_kept
unfolding entries
returns-in_err-check-clause-words_kept c = kept c.even_table.ensures

pub returns-clause-words_kept : goal.returns-clause-words_kept
unfolding entries
returns-clause-words_kept c = kept c.even_table.ensures
