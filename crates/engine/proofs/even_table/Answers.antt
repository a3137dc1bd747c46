use mathlib.Core.Path.{sym, ◌∙◌}
use native.Mathlib.Omega.{arith}
use Rattle.laws.proofs.Cases.{err_returned}
use Rattle.engine.proofs.Even.{outcome_refused, outcome_made, too_little_lem, even_back, error_high, curve_workable, even_filled}
use Rattle.engine.proofs.even_table.Goals as goal

pub returns-then-is_too_little : goal.returns-then-is_too_little
returns-then-is_too_little c = too_little_lem _ _ _ (sym c.is_too_little.ensures ∙ c.if-is_too_little.true)

pub returns-in_err-tested : goal.returns-in_err-tested
returns-in_err-tested c =
    rw (err_returned c.from_residual.ensures.1) (even_back _ _ _ (sym c.is_too_little.ensures ∙ c.if-is_too_little.false) _ c.in_err-tested.ensures)

pub invariant_of-problem : goal.invariant_of-problem
invariant_of-problem c =
    let drawn = c.draw.ensures _ c.in_ok-tested.ensures in
    record { workable = curve_workable drawn _ (omega (arith, error_high drawn)) }

pub returns-in_err-worst : goal.returns-in_err-worst
returns-in_err-worst c =
    rw (err_returned c.from_residual-in_err-worst.ensures.1) (even_filled _ _ _ (sym c.is_too_little.ensures ∙ c.if-is_too_little.false) (c.draw.ensures _ c.in_ok-tested.ensures) c.fill_table.ensures (outcome_refused _ c.ok_or.ensures.value c.in_err-worst.was))

pub returns : goal.returns
returns c = even_filled _ _ _ (sym c.is_too_little.ensures ∙ c.if-is_too_little.false) (c.draw.ensures _ c.in_ok-tested.ensures) c.fill_table.ensures (outcome_made _ c.ok_or.ensures.value c.in_ok-worst.was)
