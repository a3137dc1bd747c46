use native.Mathlib.Omega.{arith}
use Rattle.engine.proofs.Tests.{clear_passes, fault_8, fault_9, fault_10, in_table, all_passed}
use Rattle.engine.proofs.test_range.Goals as goal

pub returns-then-is_clearly_wide : goal.returns-then-is_clearly_wide
returns-then-is_clearly_wide c = clear_passes _ _ c.is_clearly_wide.ensures c.if-is_clearly_wide.true

pub returns-then-is_below_table : goal.returns-then-is_below_table
returns-then-is_below_table c = fault_8 _ _ c.is_below_table.ensures c.if-is_below_table.true

pub returns-then-is_above_table : goal.returns-then-is_above_table
returns-then-is_above_table c = fault_9 _ _ c.is_below_table.ensures c.if-is_below_table.false c.is_above_table.ensures c.if-is_above_table.true

pub overflow_add-black : goal.overflow_add-black
overflow_add-black c =
    omega (arith, (in_table _ _ c.is_below_table.ensures c.if-is_below_table.false c.is_above_table.ensures c.if-is_above_table.false (omega arith)).0.high)

pub overflow_add-white : goal.overflow_add-white
overflow_add-white c =
    omega (arith, (in_table _ _ c.is_below_table.ensures c.if-is_below_table.false c.is_above_table.ensures c.if-is_above_table.false (omega arith)).1.high)

pub index_range-requires : goal.index_range-requires
index_range-requires c = in_table _ _ c.is_below_table.ensures c.if-is_below_table.false c.is_above_table.ensures c.if-is_above_table.false (omega arith)

pub returns-then-is_too_narrow : goal.returns-then-is_too_narrow
returns-then-is_too_narrow c =
    fault_10 _ _ c.is_below_table.ensures c.if-is_below_table.false c.is_above_table.ensures c.if-is_above_table.false c.index_range.ensures c.is_too_narrow.ensures c.if-is_too_narrow.true

pub returns : goal.returns
returns c =
    all_passed _ _ c.is_below_table.ensures c.if-is_below_table.false c.is_above_table.ensures c.if-is_above_table.false c.index_range.ensures c.is_too_narrow.ensures c.if-is_too_narrow.false
