-- The sweep of a record: levels that rise and luminances that do not fall.
-- Assumes nothing.
use Rattle.std.specs.Prelude.{Option, Some, None, MatchOption, MatchBool, is_none}
use Prim.Native.Nat.{ℕ, zero, suc, ◌+◌, ◌-◌, ◌≤◌, ◌<◌}
use mathlib.Core.Path.{◌≡◌, sym}
use mathlib.Core.List.{List, [], ◌∷◌, map}
use mathlib.Core.Bool.{Bool, true, false, ◌&&◌}
use lib.ListN.{length, get_or}
use native.Mathlib.Omega.{arith}
use Rattle.std.proofs.lemmas.List.{length-map}
use Rattle.std.proofs.lemmas.Bool.{false_from_ne_true}
use Rattle.std.proofs.lemmas.Float.{T_from_true}
use Rattle.laws.specs.Rises.{rises_from, rises_by}
use Rattle.laws.proofs.Rises.{rises_at}
use Rattle.record.specs.Bytes.{word, long}
use Rattle.record.specs.Reader.{steps_up, LevelsRise}
use Rattle.record.specs.declared.items.Reading.{Reading}
use Rattle.record.proofs.Fields.{map_at}

-- ---- readings, as they stand in a sweep of n items

module _ (xs : List (List ℕ)) where
  -- r is read at place i
  abbrev pub ReadAt : ℕ → Reading → Type 0
  ReadAt i r = (d : List ℕ) → r ≡ record { ddl = record { 0 = word 0 (get_or xs i d) }; luminance = record { 0 = long 2 (get_or xs i d) } }

  pub ddl_at : (i : ℕ) {r : Reading} → i < length xs → ReadAt i r → (x : ℕ) → r.ddl.0 ≡ get_or (map (word 0) xs) i x
  ddl_at i h e x = rw (e [], map_at (word 0) xs i x h)

  pub luminance_at : (i : ℕ) {r : Reading} → i < length xs → ReadAt i r → (x : ℕ) → r.luminance.0 ≡ get_or (map (long 2) xs) i x
  luminance_at i h e x = rw (e [], map_at (long 2) xs i x h)

-- ---- a list that rises, by its places

module _ (s : ℕ) where
  from_places : (x : ℕ) (ys : List ℕ) → ((k : ℕ) → k < length ys → get_or (x ∷ ys) k 0 + s ≤ get_or ys k 0) → rises_from s x ys ≡ true
  unfolding rises_from
  from_places x [] h = grind arith
  from_places x (y ∷ ys) h = grind (arith, h 0, from_places y ys (λ k l. h (suc k) (omega arith)))

  pub rises : (xs : List ℕ) → ((k : ℕ) → 1 ≤ k → k < length xs → get_or xs (k - 1) 0 + s ≤ get_or xs k 0) → rises_by s xs ≡ true
  unfolding rises_by
  rises [] h = grind arith
  rises (x ∷ xs) h = from_places x xs (λ k l. grind (arith, h (suc k)))

  pub rises_not : (xs : List ℕ) (k : ℕ) → 1 ≤ k → k < length xs → get_or xs k 0 < get_or xs (k - 1) 0 + s → rises_by s xs ≡ false
  rises_not xs zero a b c = absurd (omega arith)
  rises_not xs (suc k) a b c = false_from_ne_true _ (λ e. grind (arith, rises_at s xs (T_from_true _ e) k))

-- ---- what the two searches find

-- r is the first reading of n that does not step up
abbrev pub FirstFault : (dd lu : List ℕ) (n : ℕ) → Option ℕ → Type 0
FirstFault dd lu n r = MatchOption r ((k : ℕ) → 1 ≤ k → k < n → steps_up dd lu k ≡ true) (λ i. (1 ≤ i) × (i < n) × (steps_up dd lu i ≡ false) × ((k : ℕ) → 1 ≤ k → k < i → steps_up dd lu k ≡ true))

module _ (dd lu : List ℕ) {n : ℕ} (dds : length dd ≡ n) where
  pub all_step_up : length lu ≡ n → (r : Option ℕ) → FirstFault dd lu n r → is_none r ≡ (rises_by 1 dd && rises_by 0 lu)
  all_step_up lus None up = grind (arith, rises 1 dd (λ k a b. grind (arith, up k)), rises 0 lu (λ k a b. grind (arith, up k)))
  all_step_up lus (Some i) (a, b, c, up) = grind (arith, rises_not 1 dd i, rises_not 0 lu i)

-- the level of reading k, as it is read
abbrev pub level_at : List (List ℕ) → ℕ → ℕ
level_at xs k = word 0 (get_or xs k [])

pub rise_after : (xs : List (List ℕ)) {i : ℕ} → LevelsRise (map (word 0) xs) i → (r : Bool)
    → MatchBool r ((k : ℕ) → i ≤ k → k < length xs → level_at xs (k - 1) < level_at xs k) ((k : ℕ) × (i ≤ k) × (k < length xs) × (level_at xs k ≤ level_at xs (k - 1)))
    → r ≡ rises_by 1 (map (word 0) xs)
rise_after xs h true up = sym (rises 1 _ (λ k a b. grind (arith, h.is k, up k, length-map xs (word 0), map_at (word 0) xs)))
rise_after xs h false (k, a, b, c) = sym (rises_not 1 _ k (omega (arith, h.some)) (rw length-map b) (grind (arith, h.some, map_at (word 0) xs)))
