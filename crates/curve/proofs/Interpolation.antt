-- The value between two readings: it is theirs at both ends, never falls, and never leaves what lies between them.
-- Assumes nothing.
use Rattle.std.proofs.Common.{◌≡◌, ap, ℕ, ◌+◌, ◌-◌, ◌*◌, ◌/◌, ◌≤◌, ◌<◌, arith}
use Rattle.std.proofs.Math.Nat.{sub-zero, mul-add-div_right, div-eq_of_lt}
use Rattle.curve.specs.Curve.{interpolate}
use Rattle.curve.specs.Walk.{PointAt}

module _ (d1 l1 d2 l2 : ℕ) where
  pub interpolate_first : interpolate d1 l1 d2 l2 d1 ≡ l1
  unfolding interpolate
  interpolate_first = grind arith

  pub interpolate_low : (d : ℕ) → l1 ≤ interpolate d1 l1 d2 l2 d
  unfolding interpolate
  interpolate_low d = omega arith

  -- it depends on distances alone
  pub interpolate_distance : (d : ℕ) → interpolate d1 l1 d2 l2 d ≡ interpolate 0 l1 (d2 - d1) l2 (d - d1)
  unfolding interpolate
  interpolate_distance d = simp sub-zero

  -- light that is added to both readings is added to what lies between
  pub interpolate_lit : (added d : ℕ) → interpolate d1 (added + l1) d2 (added + l2) d ≡ added + interpolate d1 l1 d2 l2 d
  unfolding interpolate
  interpolate_lit added d = grind arith

  module _ (rise : d1 < d2) where
    pub interpolate_mono : (d e : ℕ) → d ≤ e → interpolate d1 l1 d2 l2 d ≤ interpolate d1 l1 d2 l2 e
    unfolding interpolate
    interpolate_mono d e h = grind arith

    module _ (keep : l1 ≤ l2) where
      pub interpolate_last : interpolate d1 l1 d2 l2 d2 ≡ l2
      unfolding interpolate
      interpolate_last = grind arith

      pub interpolate_high : (d : ℕ) → d ≤ d2 → interpolate d1 l1 d2 l2 d ≤ l2
      unfolding interpolate
      interpolate_high d h = grind arith

-- ---- the points of the line between two readings

pub point_first : (l1 rise width part : ℕ) → 0 < width → part ≡ 0 → PointAt l1 rise width 0 l1 part
point_first l1 rise width part pos none = record { below = omega arith; is = omega arith }

-- one level on, by the rise of a level in whole units and a rest
pub point_next : {l1 rise width k l part : ℕ} (whole rest next left : ℕ) → whole * width + rest ≡ rise → PointAt l1 rise width k l part
    → left < width → next * width + left ≡ (l + whole) * width + (part + rest) → PointAt l1 rise width (k + 1) next left
point_next whole rest next left slope p below is = record { below = below; is = omega (arith, p.is) }

-- the luminance of a point is the value between the readings
pub point_is : {l1 rise width k l part : ℕ} → PointAt l1 rise width k l part → l ≡ interpolate 0 l1 width (l1 + rise) k
unfolding interpolate
point_is {l1} {rise} {width} {k} {l} {part} p =
    let pos : 0 < width = omega (arith, p.below) in
    let e : l1 + rise - l1 ≡ rise = omega arith in
    let a : (l * width + part) / width ≡ l + part / width = mul-add-div_right pos l part in
    let b : (l1 * width + rise * k) / width ≡ l1 + rise * k / width = mul-add-div_right pos l1 (rise * k) in
    let c : part / width ≡ 0 = div-eq_of_lt p.below in
    simp (sub-zero, e) (omega (arith, a, b, c, ap (λ (n : ℕ). n / width) p.is))
