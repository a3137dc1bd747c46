-- Between low and high lies the least worst step. Assumes nothing.
use mathlib.Core.Path.{refl, ◌∙◌}
use native.Mathlib.Omega.{arith}
use Rattle.even.proofs.Halving.{halving_first, tried_small, halving_no, filled_again, filled_already}
use Rattle.even.proofs.LitRows.least_worst.Goals as goal

pub loop-low-init : goal.loop-low-init
loop-low-init c = (refl, refl, halving_first c.args.self.now.found.problem.workable c.args.self.now.found.some_table c.requires _)

pub fill-ready-requires : goal.fill-ready-requires
fill-ready-requires c = tried_small c.args.self.now.found.problem.workable c.args.self.now.found.some_table c.requires c.loop-low.invariant.2 _ (omega arith)

pub loop-low-preserved : goal.loop-low-preserved
loop-low-preserved c = (
  c.fill-ready.ensures.same_words ∙ c.loop-low.invariant.0,
  c.fill-ready.ensures.same_problem ∙ c.loop-low.invariant.1,
  halving_no c.args.self.now.found.problem.workable c.args.self.now.found.some_table c.requires c.loop-low.invariant.2 (rw c.loop-low.invariant.1 at c.fill-ready.ensures.filled) (omega arith) c.if-ready.false,
)

pub fill-requires : goal.fill-requires
fill-requires c = tried_small c.args.self.now.found.problem.workable c.args.self.now.found.some_table c.requires c.loop-low.invariant.2 _ c.loop-low.invariant.2.left

pub returns-then-not-ready-clause-searched : goal.returns-then-not-ready-clause-searched
returns-then-not-ready-clause-searched c = filled_again c.args.self.now.found.problem.workable c.args.self.now.found.some_table c.requires c.loop-low.invariant.2 (rw c.loop-low.invariant.1 at c.fill.ensures.filled) refl c.loop-low-test.false

pub returns-else-not-ready-clause-searched : goal.returns-else-not-ready-clause-searched
returns-else-not-ready-clause-searched c = filled_already c.args.self.now.found.problem.workable c.args.self.now.found.some_table c.requires c.loop-low.invariant.2 c.loop-low-test.false c.if-not-ready.false
