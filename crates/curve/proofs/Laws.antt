-- The laws of the characteristic curve.
-- Assumes nothing.
use Rattle.std.proofs.Common.{◌≡◌, Bool, List, ℕ, suc, zero, ◌+◌, ◌-◌, ◌≤◌, ◌<◌, add-one, arith, length, get_or}
use Rattle.std.proofs.Math.Dec.{leb}
use Rattle.std.proofs.Math.Facts.{leb_yes, yes_leb, clash}
use Rattle.laws.specs.Rises.{NeverFalls}
use Rattle.laws.proofs.Rises.{keeps_by_steps, tab_keeps}
use Rattle.laws.proofs.Search.{any_intro, lowest_passes, lowest_le, lowest_is}
use Rattle.laws.proofs.Fill.{length_tab, get_or_tab}
use Rattle.curve.specs.Curve.{pair_at, by_pair, curve_at, curve_of, Sweep}
use Rattle.curve.proofs.Interpolation.{interpolate_first, interpolate_last, interpolate_low, interpolate_high, interpolate_mono}

-- the pair of neighbours of level d is the one that ends at d or above, where those before it end below d
pub pair_is : (ddls : List ℕ) (i d : ℕ) → i + 1 < length ddls → d ≤ get_or ddls (i + 1) 0 → ((j : ℕ) → j < i → get_or ddls (j + 1) 0 < d) → pair_at ddls d ≡ i
unfolding pair_at
pair_is ddls i d inside to passed = lowest_is _ _ i (omega arith) (yes_leb to) (λ j h t. clash (passed j h) (leb_yes t))

module _ {ddls luminances : List ℕ} {top : ℕ} (s : Sweep ddls luminances top) where
  -- levels never fall along the sweep, and none is above the top
  ddls_keep : NeverFalls ddls
  ddls_keep = keeps_by_steps ddls (λ i h. omega (arith, s.rise i))

  pub ddl_top : (i : ℕ) → i < length ddls → get_or ddls i 0 ≤ top
  ddl_top i h = omega (arith, s.last, ddls_keep.keeps i (length ddls - 1))

  module _ (d : ℕ) (h : d ≤ top) where
    -- the pair of neighbours of a level is one of the sweep's, and the level lies between them
    pub pair_inside : pair_at ddls d + 1 < length ddls
    unfolding pair_at
    pair_inside = grind (arith, lowest_le (λ i. leb d (get_or ddls (i + 1) 0)) (length ddls - 1) (length ddls - 2))

    pub pair_to : d ≤ get_or ddls (pair_at ddls d + 1) 0
    unfolding pair_at
    pair_to =
        let p : ℕ → Bool = λ i. leb d (get_or ddls (i + 1) 0) in
        grind (arith, lowest_passes p (length ddls - 1), any_intro p (length ddls - 1) (length ddls - 2))

    pub pair_passed : (j : ℕ) → j < pair_at ddls d → get_or ddls (j + 1) 0 < d
    unfolding pair_at
    pair_passed j l = grind (arith, lowest_le (λ i. leb d (get_or ddls (i + 1) 0)) (length ddls - 1) j)

  -- ---- F

  module _ (added : ℕ) where
    -- F never falls
    pub curve_mono : (d e : ℕ) → d ≤ e → e ≤ top → curve_at added ddls luminances d ≤ curve_at added ddls luminances e
    unfolding curve_at by_pair
    curve_mono d e h l =
        let i = pair_at ddls d in
        let k = pair_at ddls e in
        grind (
          arith,
          pair_inside d,
          pair_inside e,
          pair_to d,
          pair_to e,
          pair_passed d,
          interpolate_low,
          interpolate_high,
          interpolate_mono,
          s.rise i,
          s.rise k,
          s.keep.keeps i (i + 1),
          s.keep.keeps (i + 1) k,
        )

    -- F above one reading, up to the next
    pub curve_between : (i d : ℕ) → i + 1 < length ddls → get_or ddls i 0 < d → d ≤ get_or ddls (i + 1) 0
        → curve_at added ddls luminances d ≡ added + by_pair ddls luminances i d
    unfolding curve_at
    curve_between i d inside from to = rw (pair_is ddls i d inside to (λ j l. omega (arith, ddls_keep.keeps (j + 1) i)))

    -- F at the level of a reading
    pub curve_reading : (i : ℕ) → i < length ddls → curve_at added ddls luminances (get_or ddls i 0) ≡ added + get_or luminances i 0
    unfolding curve_at by_pair
    curve_reading zero h = grind (arith, pair_is ddls 0 (get_or ddls 0 0), interpolate_first)
    curve_reading (suc i) h = grind (arith, add-one, curve_between i (get_or ddls (i + 1) 0), interpolate_last, s.rise i, s.keep.keeps i (i + 1))

    pub curve_first : curve_at added ddls luminances 0 ≡ added + get_or luminances 0 0
    curve_first = grind (arith, curve_reading 0)

    pub curve_last : curve_at added ddls luminances top ≡ added + get_or luminances (length ddls - 1) 0
    curve_last = grind (arith, curve_reading (length ddls - 1))

    pub curve_low : (d : ℕ) → d ≤ top → added + get_or luminances 0 0 ≤ curve_at added ddls luminances d
    curve_low d h = omega (arith, curve_first, curve_mono 0 d)

    pub curve_high : (d : ℕ) → d ≤ top → curve_at added ddls luminances d ≤ added + get_or luminances (length ddls - 1) 0
    curve_high d h = omega (arith, curve_last, curve_mono d top)

    -- ---- F(0) to F(top) as a list

    pub curve_length : length (curve_of added ddls luminances top) ≡ top + 1
    unfolding curve_of
    curve_length = length_tab (curve_at added ddls luminances) (top + 1)

    pub curve_level : (d x : ℕ) → d ≤ top → get_or (curve_of added ddls luminances top) d x ≡ curve_at added ddls luminances d
    unfolding curve_of
    curve_level d x h = get_or_tab (curve_at added ddls luminances) (top + 1) d x (omega arith)

    pub curve_keeps : NeverFalls (curve_of added ddls luminances top)
    unfolding curve_of
    curve_keeps = tab_keeps _ (top + 1) (λ i k ik l. omega (arith, curve_mono i k))
