-- The loop goes from level to level along the line: its invariant is the record `Drawn`. Assumes nothing.
use Rattle.std.proofs.Common.{arith, rules}
use Rattle.laws.proofs.Fill.{filled_none, filled_more, filled_all}
use Rattle.curve.specs.Walk.{between}
use Rattle.curve.proofs.Steps.{line_next, line_steps, line_is}
use Rattle.curve.proofs.Walk.{between_none}
use Rattle.curve.proofs.fill_between.Goals as goal

pub returns-then-is_empty : goal.returns-then-is_empty
returns-then-is_empty c = between_none _ _ _ (search rules)

pub loop-level-init : goal.loop-level-init
loop-level-init c = grind (arith, filled_none)

pub step-requires : goal.step-requires
step-requires c = line_steps c.loop-level.invariant.line_at (omega arith) (omega arith)

pub loop-level-preserved : goal.loop-level-preserved
loop-level-preserved c =
    let p = line_next c.loop-level.invariant.line_at c.step.ensures in
    record { line_at = p; filled = filled_more _ _ _ _ _ c.loop-level.invariant.filled (omega arith) (grind (arith, line_is p)) }

pub returns : goal.returns
unfolding between
returns c = grind (arith, filled_all)
