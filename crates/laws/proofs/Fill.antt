-- Lists filled from the front, place by place: with f 0, f 1, .., or with another list's elements.
-- Assumes nothing.
use mathlib.Core.Path.{◌≡◌, refl, ◌∙◌}
use mathlib.Core.List.{List, [], ◌∷◌, ◌++◌, append_assoc, append-nil}
use Prim.Native.Nat.{ℕ, zero, suc, ◌+◌, ◌≤◌, ◌<◌}
use mathlib.Core.Logic.{⊎_elim}
use native.Mathlib.Nat.{add-zero, add-suc, not-suc-le-zero, le_of_suc-le-suc, eq-or-lt_of_le}
use native.Mathlib.Numerals.{add-one}
use native.Mathlib.Omega.{arith}
use lib.ListN.{length, take, drop, set, get_or, length-set, length-append, get_or-append, length-drop, drop_of_length-le}
use lib.Seq.{drop-cons, drop-drop, set_at, get_or_at, take_at, drop_at, take-suc, length-take-le}
use Rattle.laws.specs.Fill.{tab}

module _ {ℓ} {A : Type ℓ} (f : ℕ → A) where
  pub length_tab : (n : ℕ) → length (tab f n) ≡ n
  unfolding tab
  length_tab zero = refl
  length_tab (suc n) = simp (length-append, length_tab n) (omega arith)

  -- one place more
  pub fill : (d : List A) (n : ℕ) → n < length d → set (tab f n ++ drop n d) n (f n) ≡ tab f (n + 1) ++ drop (n + 1) d
  unfolding tab
  fill d n h = rw (add-one, drop-cons d n (f n) h, set_at (tab f n) _ _ (f n) n (length_tab n), append_assoc)

  pub get_or_tab : (n i : ℕ) (x : A) → i < n → get_or (tab f n) i x ≡ f i
  unfolding tab
  get_or_tab zero i x h = absurd (not-suc-le-zero h)
  get_or_tab (suc n) i x h =
      ⊎_elim
      (λ e. rw e (get_or_at (tab f n) (f n) [] x n (length_tab n)))
      (λ l.
      let k : i < length (tab f n) = rw length_tab l in
      get_or-append (tab f n) (f n ∷ []) x i k ∙ get_or_tab n i x l)
      (eq-or-lt_of_le (le_of_suc-le-suc h))

  -- n places more
  pub tab_append : (a n : ℕ) → tab f (a + n) ≡ tab f a ++ tab (λ i. f (a + i)) n
  unfolding tab
  tab_append a zero = simp (add-zero, append-nil)
  tab_append a (suc n) = rw (add-suc, tab_append a n) (append_assoc (tab f a) (tab (λ i. f (a + i)) n) (f (a + n) ∷ []))

pub tab_same {ℓ} : {A : Type ℓ} (f g : ℕ → A) (n : ℕ) → ((i : ℕ) → i < n → f i ≡ g i) → tab f n ≡ tab g n
unfolding tab
tab_same f g zero h = refl
tab_same f g (suc n) h = rw (tab_same f g n (λ i l. h i (omega arith)), h n (omega arith)) refl

-- the first n places hold f 0, f 1, .., and the others what they held before
pub record Filled {ℓ} {A : Type ℓ} (f : ℕ → A) (before now : List A) (n : ℕ) : Type ℓ where
  pub is : now ≡ tab f n ++ drop n before
  pub len : length now ≡ length before

module _ {ℓ} {A : Type ℓ} (f : ℕ → A) (before : List A) where
  pub filled_none : Filled f before before 0
  unfolding tab
  filled_none = record { is = refl; len = refl }

  pub filled_more : (now : List A) (n : ℕ) (x : A) → Filled f before now n → n < length before → x ≡ f n → Filled f before (set now n x) (n + 1)
  filled_more now n x h l e = grind (arith, fill f before n l, length-set)

  -- n places more, filled as a part of the list
  pub filled_part : (now : List A) (a n : ℕ) (ys : List A) → Filled f before now a → a + n ≤ length before → ys ≡ tab (λ i. f (a + i)) n
      → Filled f before (take a now ++ (ys ++ drop n (drop a now))) (a + n)
  filled_part now a n ys h l e =
      let front : take a now ++ (ys ++ drop n (drop a now)) ≡ tab f (a + n) ++ drop (a + n) before =
      rw (h.is, e, take_at (tab f a) (drop a before) a (length_tab f a), drop_at (tab f a) (drop a before) a (length_tab f a), drop-drop n a before, tab_append f a n, append_assoc) in
      record { is = front; len = rw front (simp (length-append, length_tab, length-drop) (omega arith)) }

  pub filled_at : (now : List A) (n i : ℕ) (x : A) → Filled f before now n → i < n → get_or now i x ≡ f i
  filled_at now n i x h l = grind (arith, get_or-append, length_tab, get_or_tab)

-- once every place is written, the list is the one of f's values
pub filled_all {ℓ} : {A : Type ℓ} {f : ℕ → A} {before now : List A} {n : ℕ} → Filled f before now n → length before ≤ n → now ≡ tab f n
filled_all h l = rw (h.is, drop_of_length-le, append-nil)

-- ---- a list copied to the front of another, place by place

-- the first i elements of d are now those of xs
pub record Copied {ℓ} {A : Type ℓ} (xs d now : List A) (i : ℕ) : Type ℓ where
  pub is : now ≡ take i xs ++ drop i d

module _ {ℓ} {A : Type ℓ} (xs d : List A) where
  pub copied_more : (now : List A) (i : ℕ) (x : A) → Copied xs d now i → i < length xs → i < length d → x ≡ get_or xs i x → Copied xs d (set now i x) (i + 1)
  copied_more now i x h l k e = record {
    is = rw (add-one, h.is, drop-cons d i x k, set_at (take i xs) _ _ x i (length-take-le i xs (omega arith)), take-suc xs i x l, ← e, append_assoc);
  }
