-- From the last row down. Assumes nothing.
use mathlib.Core.Path.{refl}
use Rattle.even.proofs.Filling.{rows_first, rows_all, row_asks, rows_kept, rows_none, rows_next}
use Rattle.even.proofs.Rows.{last_kept}
use Rattle.even.proofs.LitRows.fill.Goals as goal

pub loop-p-init : goal.loop-p-init
loop-p-init c = (refl, refl, rows_first c.args.self.now.found.problem.workable c.args.self.now.last_lit c.args.self.now.found.some_table)

pub fill_row-requires : goal.fill_row-requires
fill_row-requires c =
    row_asks c.args.self.now.found.problem.workable c.args.self.now.last_lit c.requires c.loop-p-test.true c.loop-p.invariant.2 c.span-span.ensures c.run_at.ensures c.run_at-in-loop-p.ensures

pub invariant_of-self : goal.invariant_of-self
invariant_of-self c = record { last_lit = rw c.loop-p.invariant.1 (last_kept c.args.self.now.found.problem.workable (rows_kept c.args.self.now.found.problem.workable c.args.self.now.last_lit c.requires c.loop-p-test.true c.loop-p.invariant.2 c.span-span.ensures c.run_at.ensures c.run_at-in-loop-p.ensures c.fill_row.ensures) c.args.self.now.last_lit) }

pub returns-then-not-fill_row-clause-filled : goal.returns-then-not-fill_row-clause-filled
returns-then-not-fill_row-clause-filled c =
    rows_none c.args.self.now.found.problem.workable c.args.self.now.last_lit c.requires c.loop-p-test.true c.loop-p.invariant.2 c.span-span.ensures c.run_at.ensures c.run_at-in-loop-p.ensures c.fill_row.ensures c.if-not-fill_row.true

pub loop-p-preserved : goal.loop-p-preserved
loop-p-preserved c = (
  c.loop-p.invariant.0,
  c.loop-p.invariant.1,
  rows_next c.args.self.now.found.problem.workable c.args.self.now.last_lit c.requires c.loop-p-test.true c.loop-p.invariant.2 c.span-span.ensures c.run_at.ensures c.run_at-in-loop-p.ensures c.fill_row.ensures c.if-not-fill_row.false,
)

pub returns-clause-filled : goal.returns-clause-filled
returns-clause-filled c = rows_all c.args.self.now.found.problem.workable c.args.self.now.last_lit c.loop-p.invariant.2 c.loop-p-test.false
