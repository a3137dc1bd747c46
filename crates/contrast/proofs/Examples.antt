-- The marked examples of document 01 for the contrast check.
-- Assumes nothing.
use mathlib.Core.Path.{◌≡◌, refl}
use mathlib.Core.Bool.{true, false}
use lib.IntN.{pos, negsuc}
use Rattle.contrast.specs.Deviation.{shown_contrast, expected_contrast, excess, deviation_of, keeps_limit}

-- X is 88 and Y is 80: an excess of exactly a tenth
pub tenth_deviates : deviation_of 9 31 1 3 ≡ pos 100
unfolding deviation_of excess shown_contrast expected_contrast
tenth_deviates = refl

pub tenth_passes : keeps_limit 10 9 31 1 3 ≡ true
unfolding keeps_limit deviation_of excess shown_contrast expected_contrast
tenth_passes = refl

-- X is 8,804 and Y is 8,002: 100 as well by the deviation, and more than a tenth
pub past_tenth_deviates : deviation_of 900 3101 1 3 ≡ pos 100
unfolding deviation_of excess shown_contrast expected_contrast
past_tenth_deviates = refl

pub past_tenth_fails : keeps_limit 10 900 3101 1 3 ≡ false
unfolding keeps_limit deviation_of excess shown_contrast expected_contrast
past_tenth_fails = refl

-- the contrast shown falls: −1,004, rounded down
pub fall_deviates : deviation_of 11000 10999 10123 10370 ≡ negsuc 1003
unfolding deviation_of excess shown_contrast expected_contrast
fall_deviates = refl
