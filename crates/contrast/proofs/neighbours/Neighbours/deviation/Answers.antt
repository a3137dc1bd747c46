-- Assumes nothing.
use mathlib.Core.Path.{◌≡◌}
use native.Mathlib.Omega.{arith}
use mir.ValLaws.{to_z-of_z}
use Rattle.contrast.specs.Deviation.{deviation_of}
use Rattle.contrast.proofs.Bounds.{expected_top, expected_pos, excess_fits, thousand_fits, per_mille_fits}
use Rattle.contrast.proofs.neighbours.Neighbours.deviation.Goals as goal

-- what floor_div answers
floored : (c : goal.After-floor_div) → c.floor_div.result ≡ deviation_of c.args.self.here.0 c.args.self.next.0 c.args.self.low.0 c.args.self.high.0
unfolding deviation_of
floored c = grind (arith, to_z-of_z, excess_fits c.args.self.bounded, thousand_fits c.args.self.bounded)

pub overflow_mul-excess : goal.overflow_mul-excess
overflow_mul-excess c = grind (arith, to_z-of_z, excess_fits c.args.self.bounded, thousand_fits c.args.self.bounded)

pub floor_div-requires : goal.floor_div-requires
floor_div-requires c = grind (arith, expected_pos c.args.self.bounded, expected_top c.args.self.bounded)

pub overflow_cast-result : goal.overflow_cast-result
overflow_cast-result c = grind (arith, floored c, per_mille_fits c.args.self.bounded)

pub returns : goal.returns
returns c = grind (arith, to_z-of_z, floored c, per_mille_fits c.args.self.bounded)
