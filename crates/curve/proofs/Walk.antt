-- The curve, from reading to reading.
-- Assumes nothing.
use Rattle.std.proofs.Common.{◌≡◌, refl, List, [], ◌∷◌, ◌++◌, ℕ, ◌+◌, ◌-◌, ◌≤◌, ◌<◌, arith, length, take, drop, set, get_or, length-drop, length-set}
use Rattle.std.proofs.Math.Seq.{length-take-le}
use Rattle.laws.specs.Fill.{tab}
use Rattle.laws.proofs.Fill.{Filled, filled_none, filled_more, filled_part, tab_same}
use Rattle.curve.specs.Curve.{interpolate, by_pair, curve_at, curve_of}
use Rattle.curve.specs.Line.{LineAt}
use Rattle.curve.specs.Walk.{between, LitReading, Drawable}
use Rattle.record.specs.declared.items.Reading.{Reading}
use Rattle.curve.specs.declared.Line.{Line}
use Rattle.curve.proofs.Laws.{ddl_top, curve_between, curve_reading}
use Rattle.curve.proofs.Interpolation.{interpolate_distance, interpolate_lit}

-- ---- the levels strictly between two readings

pub between_none : (l1 l2 : ℕ) (xs : List ℕ) → length xs ≡ 0 → xs ≡ between l1 l2 (length xs)
unfolding between tab
between_none l1 l2 [] h = refl
between_none l1 l2 (x ∷ xs) h = absurd (omega arith)

-- the first i of them are filled, and the line is at the last of these; at the reading l1 where i is 0
pub record Drawn (l1 l2 : ℕ) (before now : List ℕ) (i : ℕ) (line : Line) : Type 0 where
  pub line_at : LineAt l1 (l2 - l1) (length before + 1) i line
  pub filled : Filled (λ i. interpolate 0 l1 (length before + 1) l2 (i + 1)) before now i

-- ---- from reading to reading

-- the curve is filled below the reading at place i
pub record Traced (added : ℕ) (ddls luminances before now : List ℕ) (i : ℕ) (last : Reading) : Type 0 where
  pub inside : i < length ddls
  pub reading : LitReading ddls luminances added i last
  pub filled : Filled (curve_at added ddls luminances) before now last.ddl.0

-- the reading that follows a reading
pub record Follows (last next : Reading) (top : ℕ) : Type 0 where
  pub above : last.ddl.0 + 1 ≤ next.ddl.0
  pub at_most : next.ddl.0 ≤ top
  pub keeps : last.luminance.0 ≤ next.luminance.0

module _ {ddls luminances before : List ℕ} {top added : ℕ} (a : Drawable ddls luminances top added before) where
  pub traced_none : {first : Reading} → LitReading ddls luminances added 0 first → Traced added ddls luminances before before 0 first
  traced_none r = grind (arith, filled_none (curve_at added ddls luminances) before)

  module _ {now : List ℕ} {i : ℕ} {last : Reading} (t : Traced added ddls luminances before now i last) where
    pub traced_top : last.ddl.0 ≤ top
    traced_top = omega (arith, t.reading.level, ddl_top a.sweep i t.inside)

    -- with the reading itself
    pub traced_reading : Filled (curve_at added ddls luminances) before (set now last.ddl.0 last.luminance.0) (last.ddl.0 + 1)
    traced_reading =
        filled_more _ before now _ _ t.filled (omega (arith, traced_top, a.fits)) (grind (arith, curve_reading a.sweep added i))

    -- the last reading is at the top
    pub traced_all : i ≡ length ddls - 1 → set now top last.luminance.0 ≡ curve_of added ddls luminances top ++ drop (top + 1) before
    unfolding curve_of
    traced_all end = grind (arith, traced_reading, a.sweep.last)

    -- and with what lies between it and the next one, at place n
    module _ {n : ℕ} {next : Reading} (r : LitReading ddls luminances added n next) (after : i + 1 ≡ n) (more : n < length ddls) where
      pub follows : Follows last next top
      follows = grind (arith, ddl_top a.sweep n, a.sweep.rise i, a.sweep.keep.keeps i n, a.sweep.pairs)

      pub levels_between : length (take (next.ddl.0 - (last.ddl.0 + 1)) (drop (last.ddl.0 + 1) (set now last.ddl.0 last.luminance.0)))
          ≡ next.ddl.0 - (last.ddl.0 + 1)
      levels_between = grind (arith, length-take-le, length-drop, length-set, t.filled.len, a.fits, follows.at_most)

      level_is : (k : ℕ) → k < next.ddl.0 - (last.ddl.0 + 1)
          → interpolate 0 last.luminance.0 (next.ddl.0 - (last.ddl.0 + 1) + 1) next.luminance.0 (k + 1) ≡ curve_at added ddls luminances (last.ddl.0 + 1 + k)
      unfolding by_pair
      level_is k h =
          let d = last.ddl.0 + 1 + k in
          let apart = interpolate_distance last.ddl.0 last.luminance.0 next.ddl.0 next.luminance.0 d in
          let lit = interpolate_lit (get_or ddls i 0) (get_or luminances i 0) (get_or ddls n 0) (get_or luminances n 0) added d in
          grind (arith, follows, apart, lit, curve_between a.sweep added i d)

      pub traced_more : {m : ℕ} (ys : List ℕ) → m ≡ n → ys ≡ between last.luminance.0 next.luminance.0 (next.ddl.0 - (last.ddl.0 + 1))
          → Traced added ddls luminances before
          (take (last.ddl.0 + 1) (set now last.ddl.0 last.luminance.0) ++ (ys ++ drop (next.ddl.0 - (last.ddl.0 + 1)) (drop (last.ddl.0 + 1) (set now last.ddl.0 last.luminance.0))))
          m next
      unfolding between
      traced_more ys e is =
          let k = next.ddl.0 - (last.ddl.0 + 1) in
          let s : last.ddl.0 + 1 + k ≡ next.ddl.0 = omega (arith, follows.above) in
          let p =
          filled_part _ before _ (last.ddl.0 + 1) k ys traced_reading (omega (arith, follows.at_most, a.fits)) (rw is (tab_same _ _ k level_is)) in
          record { inside = omega arith; reading = rw e r; filled = rw s at p }
