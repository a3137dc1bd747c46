use mathlib.Core.Path.{refl}
use native.Mathlib.Omega.{arith}
use Rattle.laws.proofs.Cases.{err_returned}
use Rattle.engine.proofs.Check.{check_short, check_back, check_none, check_made}
use Rattle.engine.proofs.contrast_check.Goals as goal

pub returns-then-deviations-lt17 : goal.returns-then-deviations-lt17
returns-then-deviations-lt17 c = check_short _ _ (omega arith)

pub returns-in_err-tested : goal.returns-in_err-tested
returns-in_err-tested c =
    rw (err_returned c.from_residual.ensures.1) (check_back _ _ (omega arith) _ c.in_err-tested.ensures)

pub returns-then-patches-eq0 : goal.returns-then-patches-eq0
returns-then-patches-eq0 c = check_none _ _ (omega arith) c.in_ok-tested.ensures (omega arith)

pub returns-in_err-verdict : goal.returns-in_err-verdict
returns-in_err-verdict c =
    rw (err_returned c.from_residual-in_err-verdict.ensures.1) (check_made _ _ (omega arith) c.in_ok-tested.ensures _ (omega arith) refl c.fill.ensures c.into-limit.ensures c.check.ensures (rw c.in_err-verdict.was))

pub returns : goal.returns
returns c = check_made _ _ (omega arith) c.in_ok-tested.ensures _ (omega arith) refl c.fill.ensures c.into-limit.ensures c.check.ensures (rw c.in_ok-verdict.was)
