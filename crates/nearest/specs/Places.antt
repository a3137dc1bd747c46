-- The walk along a curve: the place of a target on it, and the entry that follows from the place.
use Rattle.std.specs.Prelude.{ℕ, ◌-◌, ◌≤◌, ◌<◌, ◌≡◌, List, length, get_or}
use Rattle.nearest.specs.Nearest.{error_at, nearest_level}
use Rattle.nearest.specs.declared.Place.{Place}
use Rattle.nearest.specs.declared.Entry.{Entry}

-- a place that is not past t: the levels under `above` are darker than t, and `below` is the lowest of them that is as bright as the last;
-- it is 0 where there are none. `dark` is its luminance.
pub record NotPast (curve : List ℕ) (t : ℕ) (place : Place) : Type 0 where
  pub inside : place.above ≤ length curve
  pub order : place.below ≤ place.above - 1
  pub dark_is : place.dark.0 ≡ get_or curve place.below 0
  pub under : (d : ℕ) → d < place.above → get_or curve d 0 < t
  pub equal : (d : ℕ) → place.below ≤ d → d < place.above → get_or curve d 0 ≡ get_or curve place.below 0
  pub darker : (d : ℕ) → d < place.below → get_or curve d 0 < get_or curve place.below 0

-- the place of t: besides, no level from `above` on is darker than t
pub record PlaceOf (curve : List ℕ) (t : ℕ) (place : Place) : Type 0 where
  pub not_past : NotPast curve t place
  pub over : (d : ℕ) → place.above ≤ d → d < length curve → t ≤ get_or curve d 0

-- the entry of t, and its error
pub record EntryOf (curve : List ℕ) (t : ℕ) (entry : Entry) : Type 0 where
  pub level_is : entry.level.0 ≡ nearest_level curve t
  pub error_is : entry.error.0 ≡ error_at curve t entry.level.0
