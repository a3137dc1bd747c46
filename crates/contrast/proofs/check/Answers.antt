-- Assumes nothing.
use native.Mathlib.Omega.{arith}
use Rattle.contrast.specs.Check.{shown, contrast_of, deviations_over, verdict_of}
use Rattle.contrast.proofs.Laws.{all_inside, narrow_is, covers}
use Rattle.contrast.proofs.check.Goals as goal

pub returns-then-some_outside : goal.returns-then-some_outside
unfolding contrast_of deviations_over
returns-then-some_outside c = grind arith

pub shown-black-requires : goal.shown-black-requires
shown-black-requires c = grind (arith, all_inside (shown c.args.added.0 c.args.readings.now))

pub shown-white-requires : goal.shown-white-requires
shown-white-requires c = grind (arith, all_inside (shown c.args.added.0 c.args.readings.now))

pub index_range-indices-requires : goal.index_range-indices-requires
index_range-indices-requires c = grind (arith, all_inside (shown c.args.added.0 c.args.readings.now))

pub returns-then-is_too_narrow : goal.returns-then-is_too_narrow
unfolding contrast_of deviations_over
returns-then-is_too_narrow c = grind (arith, narrow_is)

pub fill_deviations-requires : goal.fill_deviations-requires
fill_deviations-requires c = grind (arith, narrow_is, covers)

pub returns-then-fill_deviations : goal.returns-then-fill_deviations
unfolding contrast_of deviations_over verdict_of
returns-then-fill_deviations c = grind (arith, narrow_is)

pub returns-else-fill_deviations : goal.returns-else-fill_deviations
unfolding contrast_of deviations_over verdict_of
returns-else-fill_deviations c = grind (arith, narrow_is)
