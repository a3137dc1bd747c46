-- The loop's invariant is the record `Filling`. Assumes nothing.
use Rattle.std.proofs.Common.{refl, ◌∙◌, arith}
use Rattle.laws.specs.Fill.{tab}
use Rattle.laws.specs.Numbers.{max_of}
use Rattle.laws.proofs.Numbers.{max_next, max_same}
use Rattle.nearest.specs.Nearest.{nearest_table, largest_error}
use Rattle.nearest.proofs.Filling.{entry_more}
use Rattle.nearest.proofs.Laws.{table_at}
use Rattle.nearest.proofs.Places.{not_past_later}
use Rattle.nearest.proofs.fill_table.Goals as goal

pub loop-p-init : goal.loop-p-init
unfolding tab max_of
loop-p-init c = record {
  inside = omega arith;
  of_curve = c.start-place.ensures.0;
  table_is = refl;
  largest_is = refl;
  ahead = λ q a b. c.start-place.ensures.1 _;
}

pub loop-p-preserved : goal.loop-p-preserved
loop-p-preserved c =
    let (same, place) = c.advance-place.ensures in
    let filling = c.loop-p.invariant in
    let not_past = rw filling.of_curve at place.not_past in
    let entry = rw (same, filling.of_curve) at c.entry-entry.ensures in
    record {
      inside = omega arith;
      of_curve = same ∙ filling.of_curve;
      table_is = entry_more _ _ _ filling.table_is entry.level_is (omega arith);
      largest_is = grind (arith, max_next);
      ahead = λ q a b. not_past_later not_past _ (c.requires.targets_keep.keeps _ q (omega arith) b);
    }

pub returns : goal.returns
unfolding nearest_table largest_error
returns c = grind (arith, max_same, table_at)
