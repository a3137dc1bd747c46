use Prim.Native.Nat.{◌-◌}
use native.Mathlib.Omega.{arith}
use Rattle.laws.proofs.Cases.{err_returned}
use Rattle.record.proofs.Climbing.{luminance_at}
use Rattle.engine.specs.Sound.{soundness}
use Rattle.engine.proofs.Reading.{in_order, sent_back, passed_tests}
use Rattle.engine.proofs.test_record.Goals as goal

pub returns-in_err-found : goal.returns-in_err-found
unfolding soundness
returns-in_err-found c =
    rw (err_returned c.from_residual.ensures.1, ← c.in_err-found.ensures.answer)

pub returns-in_err-job : goal.returns-in_err-job
unfolding soundness
returns-in_err-job c =
    rw (err_returned c.from_residual-in_err-job.ensures.1, ← c.in_ok-found.ensures.answer, c.in_err-job.was)

pub test_range-requires : goal.test_range-requires
test_range-requires c = in_order c.in_ok-found.ensures _ c.in_ok-job.was _ c.get-first.ensures c.get-last.ensures (omega (arith, c.in_ok-found.found.some, c.len.ensures))

pub returns-in_err-test_range : goal.returns-in_err-test_range
returns-in_err-test_range c =
    let some = c.in_ok-found.found.some in
    let first = luminance_at _ 0 (omega (arith, some)) c.get-first.ensures 0 in
    let last = luminance_at _ (c.len.result - 1) (omega (arith, some, c.len.ensures)) c.get-last.ensures 0 in
    rw (err_returned c.from_residual-in_err-test_range.ensures.1) (sent_back c.in_ok-found.ensures _ c.in_ok-job.was c.len.ensures first last c.light_of-light.ensures _ c.in_err-test_range.ensures)

pub returns : goal.returns
returns c =
    let some = c.in_ok-found.found.some in
    let first = luminance_at _ 0 (omega (arith, some)) c.get-first.ensures 0 in
    let last = luminance_at _ (c.len.result - 1) (omega (arith, some, c.len.ensures)) c.get-last.ensures 0 in
    passed_tests c.in_ok-found.ensures _ c.in_ok-job.was c.len.ensures first last c.light_of-light.ensures c.in_ok-test_range.ensures
