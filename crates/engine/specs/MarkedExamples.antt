-- The marked examples of document 01. `index_of` is its J, `luminance_of` its G, `curve_at` its F; `step_deviation` takes f and g;
-- `deviation_of` and `keeps_limit` take p, s, c and h.
use Rattle.std.specs.Prelude.{◌≡◌, true, false, [], ◌∷◌, pos, neg_ℤ}
use Rattle.gsdf.specs.DisplayFunction.{luminance_of, index_of}
use Rattle.curve.specs.Curve.{curve_at}
use Rattle.nearest.specs.Nearest.{nearest_level}
use Rattle.even.specs.Even.{step_deviation}
use Rattle.contrast.specs.Deviation.{deviation_of, keeps_limit}
use Rattle.contrast.specs.Check.{limit_of, limit_parts}
use Rattle.record.specs.declared.Class.TheVariants.{Primary}

pub record MarkedExamples : Type 0 where
  pub index_500 : index_of 500 ≡ 102
  pub index_501 : index_of 501 ≡ 104
  pub index_546 : index_of 546 ≡ 199
  pub index_547 : index_of 547 ≡ 202
  pub index_12400 : index_of 12400 ≡ 8072
  pub luminance_150 : luminance_of 150 ≡ 523
  pub curve_1 : curve_at 0 (0 ∷ 3 ∷ []) (1000 ∷ 1010 ∷ []) 1 ≡ 1003
  pub curve_2 : curve_at 0 (0 ∷ 3 ∷ []) (1000 ∷ 1010 ∷ []) 2 ≡ 1006
  pub nearest_15 : nearest_level (10 ∷ 20 ∷ 20 ∷ 30 ∷ []) 15 ≡ 0
  pub nearest_16 : nearest_level (10 ∷ 20 ∷ 20 ∷ 30 ∷ []) 16 ≡ 1
  pub nearest_25 : nearest_level (10 ∷ 20 ∷ 20 ∷ 30 ∷ []) 25 ≡ 1
  pub step_22_21 : step_deviation 22 21 ≡ 48
  pub step_0_17 : step_deviation 0 17 ≡ 1000
  pub deviation_9_31 : deviation_of 9 31 1 3 ≡ pos 100
  pub limit_9_31 : keeps_limit (limit_parts (limit_of Primary)) 9 31 1 3 ≡ true
  pub deviation_900_3101 : deviation_of 900 3101 1 3 ≡ pos 100
  pub limit_900_3101 : keeps_limit (limit_parts (limit_of Primary)) 900 3101 1 3 ≡ false
  pub deviation_11000_10999 : deviation_of 11000 10999 10123 10370 ≡ neg_ℤ (pos 1004)
