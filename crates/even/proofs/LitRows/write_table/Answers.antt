-- From the first row up. Assumes nothing.
use Prim.Native.Nat.{◌+◌}
use native.Mathlib.Omega.{arith}
use Rattle.even.proofs.Writing.{row_there, start_some, start_fits, writing_first, level_small, after_some, after_fits, writing_more, writing_all}
use Rattle.even.proofs.LitRows.write_table.Goals as goal

pub first_lit-requires : goal.first_lit-requires
first_lit-requires c = row_there c.args.self.now.found.problem.workable c.args.self.now.last_lit 0 c.args.self.now.found.problem.workable.usable.some_target c.run_at.ensures _

pub unwrap-d-requires : goal.unwrap-d-requires
unwrap-d-requires c = start_some c.args.self.now.found.problem.workable c.requires c.run_at.ensures _ c.first_lit.ensures

pub overflow_cast-table : goal.overflow_cast-table
overflow_cast-table c = omega (arith, start_fits c.args.self.now.found.problem.workable c.requires c.run_at.ensures _ c.first_lit.ensures c.unwrap-d.ensures)

pub loop-p-init : goal.loop-p-init
loop-p-init c = writing_first c.args.self.now.found.problem.workable c.requires c.run_at.ensures _ c.first_lit.ensures c.unwrap-d.ensures

pub offset_bounds-curve-d : goal.offset_bounds-curve-d
offset_bounds-curve-d c = omega (arith, level_small c.args.self.now.found.problem.workable c.requires c.loop-p.invariant, c.args.self.now.found.problem.workable.levels)

pub bounds-curve-d : goal.bounds-curve-d
bounds-curve-d c = level_small c.args.self.now.found.problem.workable c.requires c.loop-p.invariant

pub first_lit-requires-in-loop-p : goal.first_lit-requires-in-loop-p
first_lit-requires-in-loop-p c = row_there c.args.self.now.found.problem.workable c.args.self.now.last_lit (c.loop-p.p + 1) (omega arith) c.run_at-run.ensures _

pub unwrap-d-requires-in-loop-p : goal.unwrap-d-requires-in-loop-p
unwrap-d-requires-in-loop-p c = after_some c.args.self.now.found.problem.workable c.requires c.loop-p.invariant c.loop-p-test.true c.run_at-run.ensures c.span.ensures _ (omega (arith, c.from.ensures)) _ (rw c.max.ensures at c.first_lit-in-loop-p.ensures)

pub overflow_cast-table-in-loop-p : goal.overflow_cast-table-in-loop-p
overflow_cast-table-in-loop-p c = omega (arith, after_fits c.args.self.now.found.problem.workable c.requires c.loop-p.invariant c.loop-p-test.true c.run_at-run.ensures c.span.ensures _ (omega (arith, c.from.ensures)) _ (rw c.max.ensures at c.first_lit-in-loop-p.ensures) c.unwrap-d-in-loop-p.ensures)

pub loop-p-preserved : goal.loop-p-preserved
loop-p-preserved c = writing_more c.args.self.now.found.problem.workable c.requires c.loop-p.invariant c.loop-p-test.true c.run_at-run.ensures c.span.ensures _ (rw (c.max.ensures, c.from.ensures) at c.first_lit-in-loop-p.ensures) c.unwrap-d-in-loop-p.ensures

pub span-requires : goal.span-requires
span-requires c = (c.requires.small, omega arith)

pub returns : goal.returns
returns c = writing_all c.args.self.now.found.problem.workable c.requires c.loop-p.invariant c.loop-p-test.false
