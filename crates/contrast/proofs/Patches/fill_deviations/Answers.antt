-- Assumes nothing.
use native.Mathlib.Omega.{arith}
use lib.IntN.{ℤ}
use lib.ListN.{length-take}
use mir.ValLaws.{to_z-of_z}
use Rattle.laws.specs.Search.{all}
use Rattle.laws.proofs.Search.{all_next}
use Rattle.laws.proofs.Fill.{filled_none, filled_more, filled_all}
use Rattle.contrast.specs.Check.{at_pair, deviations_of}
use Rattle.contrast.proofs.Laws.{aims, expected_is, pair_of, deviation_fits}
use Rattle.contrast.proofs.Patches.fill_deviations.Goals as goal

pub target_at-low-requires : goal.target_at-low-requires
target_at-low-requires c = (aims c.requires.1 (omega arith) (omega arith), omega arith)

pub loop-i-init : goal.loop-i-init
unfolding all
loop-i-init c = grind (arith, filled_none)

pub target_at-high-requires : goal.target_at-high-requires
target_at-high-requires c = (aims c.requires.1 (omega arith) (omega arith), omega (arith, length-take {A = ℤ}))

-- Before the pair's bounds, which hold with other luminances expected too: an edit that changes these is refused here.
pub loop-i-preserved : goal.loop-i-preserved
unfolding at_pair
loop-i-preserved c = record {
  shown_is = c.shown-next.ensures;
  target_is = c.target_at-high.ensures;
  filled =
      filled_more _ _ _ _ _ c.loop-i.invariant.filled c.loop-i-test.true
      (grind (arith, length-take {A = ℤ}, to_z-of_z, deviation_fits c.requires.1 c.loop-i.i, expected_is c.requires.1));
  kept_is = grind (arith, all_next, expected_is c.requires.1);
}

pub invariant_of-pair : goal.invariant_of-pair
invariant_of-pair c = record {
  bounded =
      rw (c.loop-i.invariant.shown_is, c.shown-next.ensures, c.loop-i.invariant.target_is, c.target_at-high.ensures)
      (pair_of c.requires.1 _ (omega (arith, length-take {A = ℤ})));
}

pub returns : goal.returns
unfolding deviations_of
returns c = grind (arith, filled_all, length-take {A = ℤ})
