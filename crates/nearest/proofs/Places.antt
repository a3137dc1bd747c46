-- The walk along a curve, level by level, and what the place of a target says of the nearest level.
-- Assumes nothing.
use Rattle.std.proofs.Common.{sym, List, ℕ, ◌-◌, ◌≤◌, ◌<◌, arith, length, get_or}
use Rattle.laws.specs.Numbers.{distance}
use Rattle.nearest.specs.Nearest.{error_at, Walkable}
use Rattle.nearest.specs.Places.{NotPast, PlaceOf, EntryOf}
use Rattle.nearest.specs.declared.Place.{Place}
use Rattle.nearest.proofs.Laws.{nearest_is}

-- ---- the walk

module _ {curve : List ℕ} {t : ℕ} {place : Place} (h : NotPast curve t place) where
  -- not past a brighter target either
  pub not_past_later : (u : ℕ) → t ≤ u → NotPast curve u place
  not_past_later u l = grind arith

-- ---- the entry of a target, from its place

module _ {curve : List ℕ} {t : ℕ} {place : Place} (w : Walkable curve) (h : PlaceOf curve t place) where
  -- the levels under `below` are farther than it
  lower_farther : (d : ℕ) → d < place.below → error_at curve t place.below < error_at curve t d
  lower_farther d l = omega (arith, h.not_past.under place.below, h.not_past.darker d)

  pub entry_below : (place.above < length curve → distance place.dark.0 t ≤ get_or curve place.above 0 - t)
      → EntryOf curve t (record { level = record { 0 = place.below }; error = record { 0 = distance place.dark.0 t } })
  entry_below near = record {
    level_is =
        sym (nearest_is curve t record {
          inside = omega arith;
          least = λ d l. grind (arith, near, w.never_falls.keeps place.above d, h.not_past.equal d, lower_farther d);
          first = lower_farther;
        });
    error_is = omega arith;
  }

  pub entry_above : place.above < length curve → get_or curve place.above 0 - t < distance place.dark.0 t
      → EntryOf curve t (record { level = record { 0 = place.above }; error = record { 0 = get_or curve place.above 0 - t } })
  entry_above more near = record {
    level_is =
        sym (nearest_is curve t record {
          inside = more;
          least = λ d l. grind (arith, w.never_falls.keeps place.above d, h.not_past.equal d, lower_farther d);
          first = λ d l. grind (arith, h.not_past.equal d, lower_farther d);
        });
    error_is = omega (arith, h.over place.above);
  }
