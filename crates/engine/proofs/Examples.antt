-- The one theorem of the marked examples.
-- Assumes nothing.
use mathlib.Core.Path.{◌≡◌, refl}
use mathlib.Core.Bool.{◌&&◌}
use Prim.Native.Nat.{ℕ, ◌+◌}
use lib.Dec.{T, leb, ltb}
use mir.Facts.{and_yes, leb_yes, ltb_yes}
use Rattle.gsdf.specs.Table.{table_b1}
use Rattle.gsdf.specs.DisplayFunction.{jnd_luminance, luminance_after, luminance_of, index_of}
use Rattle.gsdf.proofs.Laws.{index_is}
use Rattle.curve.proofs.Examples.{first_third, second_third}
use Rattle.nearest.proofs.Examples.{tie_low, past_tie, tie_plateau}
use Rattle.even.proofs.Examples.{rounded_up, no_step}
use Rattle.contrast.proofs.Examples.{tenth_deviates, tenth_passes, past_tenth_deviates, past_tenth_fails, fall_deviates}
use Rattle.engine.specs.MarkedExamples.{MarkedExamples}

-- an index by a test that antt computes
index_by : (l k : ℕ) → T ((leb 100 k && ltb k 102300) && (leb (luminance_of k) l && ltb l (luminance_of (k + 1)))) → index_of l ≡ k
index_by l k t =
    let (range, around) = and_yes (leb 100 k && ltb k 102300) _ t in
    let (low, high) = and_yes (leb 100 k) _ range in
    let (at_most, above) = and_yes (leb (luminance_of k) l) _ around in
    index_is l k (leb_yes low) (ltb_yes high) (leb_yes at_most) (ltb_yes above)

pub marked_examples : MarkedExamples
unfolding luminance_of luminance_after jnd_luminance table_b1
marked_examples = record {
  index_500 = index_by _ _ tt;
  index_501 = index_by _ _ tt;
  index_546 = index_by _ _ tt;
  index_547 = index_by _ _ tt;
  index_12400 = index_by _ _ tt;
  luminance_150 = refl;
  curve_1 = first_third;
  curve_2 = second_third;
  nearest_15 = tie_low;
  nearest_16 = past_tie;
  nearest_25 = tie_plateau;
  step_22_21 = rounded_up;
  step_0_17 = no_step;
  deviation_9_31 = tenth_deviates;
  limit_9_31 = tenth_passes;
  deviation_900_3101 = past_tenth_deviates;
  limit_900_3101 = past_tenth_fails;
  deviation_11000_10999 = fall_deviates;
}
