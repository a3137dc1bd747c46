use native.Mathlib.Omega.{arith}
use Rattle.laws.proofs.Cases.{err_returned}
use Rattle.record.proofs.Climbing.{luminance_at}
use Rattle.engine.proofs.Reading.{mark_is}
use Rattle.engine.proofs.Nearest.{too_short, back, fillable, filled}
use Rattle.engine.proofs.nearest_table.Goals as goal

pub returns-then-table-lt256 : goal.returns-then-table-lt256
returns-then-table-lt256 c = too_short _ _ (omega arith)

pub returns-in_err-tested : goal.returns-in_err-tested
returns-in_err-tested c =
    rw (err_returned c.from_residual.ensures.1) (back _ _ (omega arith) _ c.in_err-tested.ensures)

pub fill_table-error-requires : goal.fill_table-error-requires
fill_table-error-requires c = fillable _ _ (omega (arith, c.if-table-lt256.false)) (c.draw.ensures _ c.in_ok-tested.ensures)

pub returns : goal.returns
returns c = filled _ _ (omega (arith, c.if-table-lt256.false)) (c.draw.ensures _ c.in_ok-tested.ensures) _ _ (mark_is c.in_ok-tested.ensures (luminance_at _ 0 (omega (arith, c.in_ok-tested.tested.found.some)) c.get-first.ensures 0) c.room_mark-mark.ensures) c.fill_table-error.ensures
