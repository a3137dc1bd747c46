-- The laws of the nearest level and of the nearest table.
-- Assumes nothing.
use Rattle.std.proofs.Common.{◌≡◌, List, not, ℕ, ◌-◌, ◌≤◌, ◌<◌, arith, length, get_or}
use Rattle.laws.specs.Search.{any}
use Rattle.laws.specs.Rises.{NeverFalls}
use Rattle.laws.proofs.Search.{any_intro, any_none, lowest_is, lowest_top}
use Rattle.laws.proofs.Rises.{tab_keeps}
use Rattle.laws.proofs.Fill.{length_tab, get_or_tab}
use Rattle.nearest.specs.Nearest.{error_at, nearer, nearest_level, nearest_table}
use Rattle.nearest.proofs.Numbers.{LowestLeast, some_least}

-- ---- the nearest level

module _ (curve : List ℕ) (t : ℕ) where
  -- the lowest level with the least error is the nearest level
  pub nearest_is : {d : ℕ} → LowestLeast (error_at curve t) (length curve) d → nearest_level curve t ≡ d
  unfolding nearest_level
  nearest_is {d} h =
      grind (
        arith,
        lowest_is (λ d. not (any (nearer curve t d) (length curve))) (length curve) d,
        any_none (nearer curve t d) (length curve),
        λ (e : ℕ). any_intro (nearer curve t e) (length curve) d,
      )

  -- and it is that level
  nearest_has : 1 ≤ length curve → LowestLeast (error_at curve t) (length curve) (nearest_level curve t)
  nearest_has some =
      let s = some_least (error_at curve t) (length curve - 1) in
      grind (arith, s.is, nearest_is {d = s.at})

  nearest_top : nearest_level curve t ≤ length curve
  unfolding nearest_level
  nearest_top = lowest_top _ (length curve)

  pub nearest_inside : 1 ≤ length curve → nearest_level curve t < length curve
  nearest_inside some = (nearest_has some).inside

  -- no level is nearer
  pub nearest_least : (d : ℕ) → d < length curve → error_at curve t (nearest_level curve t) ≤ error_at curve t d
  nearest_least d h = (nearest_has (omega arith)).least d h

  -- and a lower level is farther
  pub nearest_first : (d : ℕ) → d < nearest_level curve t → error_at curve t (nearest_level curve t) < error_at curve t d
  nearest_first d h = (nearest_has (omega (arith, nearest_top))).first d h

-- on a curve that never falls, the nearest level never falls with the target
pub nearest_mono : (curve : List ℕ) → NeverFalls curve → (t u : ℕ) → t ≤ u → nearest_level curve t ≤ nearest_level curve u
nearest_mono curve keeps t u h =
    let d = nearest_level curve t in
    let e = nearest_level curve u in
    grind (arith, keeps.keeps e d, nearest_top curve t, nearest_inside curve t, nearest_first curve t e, nearest_least curve u d)

-- ---- the nearest table

module _ (curve targets : List ℕ) where
  pub table_length : length (nearest_table curve targets) ≡ length targets
  unfolding nearest_table
  table_length = length_tab _ (length targets)

  pub table_at : (p : ℕ) → p < length targets → get_or (nearest_table curve targets) p 0 ≡ nearest_level curve (get_or targets p 0)
  unfolding nearest_table
  table_at p h = get_or_tab _ (length targets) p 0 h

  pub table_never_falls : NeverFalls curve → NeverFalls targets → NeverFalls (nearest_table curve targets)
  unfolding nearest_table
  table_never_falls c t = tab_keeps _ _ (λ i k ik l. nearest_mono curve c _ _ (t.keeps i k ik l))
