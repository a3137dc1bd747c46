-- Tests 8, 9 and 10, one after another.
-- Assumes nothing.
use native.Mathlib.Omega.{arith}
use mathlib.Core.Path.{◌≡◌, ap, sym, ◌∙◌}
use mathlib.Core.Bool.{Bool, true, false}
use Prim.Native.Nat.{ℕ, ◌≤◌}
use Rattle.std.specs.Prelude.{Err}
use Rattle.record.specs.declared.Refusal.TheVariants.{BlackBelowTable, WhiteAboveTable, RangeTooNarrow}
use Rattle.gsdf.specs.DisplayFunction.{InTable}
use Rattle.gsdf.specs.Ends.{below_table, above_table}
use Rattle.gsdf.proofs.Ends.{not_below, not_above}
use Rattle.target.specs.Target.{range_of, too_narrow, clearly_wide}
use Rattle.target.specs.declared.IndexRange.{IndexRange}
use Rattle.target.proofs.Ranges.{is_clear}
use Rattle.engine.specs.Sound.{range_tests, InRange}

module _ (black white : ℕ) {x : Bool} (ex : x ≡ below_table black) where
  pub fault_8 : x ≡ true → range_tests black white ≡ Err BlackBelowTable
  unfolding range_tests
  fault_8 a = simp (sym ex ∙ a)

  module _ (a : x ≡ false) {y : Bool} (ey : y ≡ above_table white) where
    pub fault_9 : y ≡ true → range_tests black white ≡ Err WhiteAboveTable
    unfolding range_tests
    fault_9 b = simp (sym ex ∙ a, sym ey ∙ b)

    module _ (b : y ≡ false) where
      pub in_table : black ≤ white → InTable black × InTable white
      in_table order = grind (arith, not_below black (sym ex ∙ a), not_above white (sym ey ∙ b))

      module _ {indices : IndexRange} (ei : indices ≡ range_of black white) {z : Bool} (ez : z ≡ too_narrow indices.range.0) where
        pub fault_10 : z ≡ true → range_tests black white ≡ Err RangeTooNarrow
        unfolding range_tests
        fault_10 n = simp (sym ex ∙ a, sym ey ∙ b, sym (ez ∙ ap (λ (i : IndexRange). too_narrow i.range.0) ei) ∙ n)

        pub all_passed : z ≡ false → InRange black white
        unfolding range_tests
        all_passed n = simp (sym ex ∙ a, sym ey ∙ b, sym (ez ∙ ap (λ (i : IndexRange). too_narrow i.range.0) ei) ∙ n)

-- a clearly wide display passes them
pub clear_passes : (black white : ℕ) {w : Bool} → w ≡ clearly_wide black white → w ≡ true → InRange black white
unfolding range_tests
clear_passes black white e t = let h = is_clear black white (sym e ∙ t) in simp (h.from_first, h.to_last, h.wide)
