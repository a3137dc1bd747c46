-- The fields of a section's items, one by one.
-- Assumes nothing.
use Prim.Native.Nat.{ℕ, zero, suc, ◌<◌}
use mathlib.Core.Path.{◌≡◌, refl, sym, ap, ap₂, ◌∙◌}
use mathlib.Core.List.{List, [], ◌∷◌, map}
use lib.ListN.{length, get_or, take, drop}
use native.Mathlib.Omega.{arith}
use Rattle.std.proofs.lemmas.List.{get_or-map}
use Rattle.std.specs.Simd.{first_chunks}
use Rattle.record.specs.Bytes.{word, long, fields}
use Rattle.record.specs.declared.items.Reading.{Reading}

module _ {A : Type 0} (w : ℕ) (f : List ℕ → A) where
  pub fields_length : (n : ℕ) (s : List ℕ) → length (fields w f n s) ≡ n
  unfolding fields
  fields_length zero s = refl
  fields_length (suc n) s = ap suc (fields_length n (drop w s))

  pub fields_map : {B : Type 0} (g : A → B) (n : ℕ) (s : List ℕ) → map g (fields w f n s) ≡ fields w (λ x. g (f x)) n s
  unfolding fields
  fields_map g zero s = refl
  fields_map g (suc n) s = ap (λ xs. g (f s) ∷ xs) (fields_map g n (drop w s))

-- the chunks of some bytes, each read by itself
module _ {A : Type 0} (w : ℕ) (f : List ℕ → A) (front : (s : List ℕ) → f (take w s) ≡ f s) where
  pub chunks_are : (n : ℕ) (s : List ℕ) → map f (first_chunks w n s) ≡ fields w f n s
  unfolding fields
  chunks_are zero s = refl
  chunks_are (suc n) s = ap₂ (λ x xs. x ∷ xs) (front s) (chunks_are n (drop w s))

-- a field stands in the first bytes alone
pub word_front : (s : List ℕ) → word 0 (take 2 s) ≡ word 0 s
word_front [] = refl
word_front (a ∷ []) = refl
word_front (a ∷ b ∷ s) = refl

pub long_front : (s : List ℕ) → long 0 (take 4 s) ≡ long 0 s
long_front [] = refl
long_front (a ∷ []) = refl
long_front (a ∷ b ∷ []) = refl
long_front (a ∷ b ∷ c ∷ []) = refl
long_front (a ∷ b ∷ c ∷ d ∷ s) = refl

abbrev pub reading_of : List ℕ → Reading
reading_of s = record { ddl = record { 0 = word 0 s }; luminance = record { 0 = long 2 s } }

pub reading_front : (s : List ℕ) → reading_of (take 6 s) ≡ reading_of s
reading_front [] = refl
reading_front (a ∷ []) = refl
reading_front (a ∷ b ∷ []) = refl
reading_front (a ∷ b ∷ c ∷ []) = refl
reading_front (a ∷ b ∷ c ∷ d ∷ []) = refl
reading_front (a ∷ b ∷ c ∷ d ∷ e ∷ []) = refl
reading_front (a ∷ b ∷ c ∷ d ∷ e ∷ f ∷ s) = refl

-- what a view shows at a place
pub map_at : (f : List ℕ → ℕ) (xs : List (List ℕ)) (i x : ℕ) → i < length xs → get_or (map f xs) i x ≡ f (get_or xs i [])
map_at f xs i x h = get_or-map f xs i [] x h

pub held_at : {X Y : Type 0} (f : X → Y) (xs : List X) (i : ℕ) (y : Y) → i < length xs → ((d : X) → y ≡ f (get_or xs i d)) → y ≡ get_or (map f xs) i y
held_at f [] i y h e = absurd (omega arith)
held_at f (x ∷ xs) i y h e = e x ∙ sym (get_or-map f (x ∷ xs) i x y h)
