-- What the even table's function asks, and what it leaves in table and work. What it leaves in the slices for the ends of the runs is free.
use Rattle.std.specs.Prelude.{ℕ, ◌*◌, ◌^◌, ◌≤◌, ◌<◌, ◌≡◌, true, cond, List, ◌++◌, Option, Some, None, length, get_or, drop}
use Rattle.even.specs.Even.{Given, F, t, Usable}
use Rattle.even.specs.Table.{has_no_table, least_worst, even_table}

abbrev pub given : (curve targets : List ℕ) (tolerance : ℕ) → Given
given curve targets tolerance = record { curve = curve; targets = targets; tolerance = tolerance }

-- a row has 1,024 bits, and what is computed of luminances below 2^26 fits 64 bits; so does the place of a bit where there are at most 65,536 P-values
pub record Workable (x : Given) : Type 0 where
  pub usable : Usable x
  pub levels : length x.curve ≤ 1024
  pub values : length x.targets ≤ 65536
  pub curve_small : (d : ℕ) → d < length x.curve → F x d < 2 ^ 26
  pub targets_small : (p : ℕ) → p < length x.targets → t x p < 2 ^ 26

-- what is lent has room: as many places for the ends of runs and as many entries as there are P-values, and 32 words for each
pub record Room (x : Given) (starts ends before words : List ℕ) : Type 0 where
  pub starts_fit : length x.targets ≤ length starts
  pub ends_fit : length x.targets ≤ length ends
  pub entries_fit : length x.targets ≤ length before
  pub rows_fit : 32 * length x.targets ≤ length words

-- what the table asks of all that it is given
pub record FillAsks (x : Given) (starts ends before words : List ℕ) : Type 0 where
  pub workable : Workable x
  pub room : Room x starts ends before words

-- words from the row of p on are as before
pub record KeptFrom (p : ℕ) (before after : List ℕ) : Type 0 where
  pub len : length after ≡ length before
  pub words : (i : ℕ) → 32 * p ≤ i → get_or after i 0 ≡ get_or before i 0

-- what comes of it: the worst step, or that there is no table
unfoldable pub outcome_of : Given → Option ℕ
outcome_of x = cond (has_no_table x) None (Some (least_worst x))

-- the lent entries afterwards: the even table and later ones as they were, or all as they were
unfoldable pub even_over : Given → (before : List ℕ) → List ℕ
even_over x before = cond (has_no_table x) before (even_table x ++ drop (length x.targets) before)

-- what the function leaves: the table, its worst step, the words after the rows as they were, and all of them where there is no table
pub record EvenFilled (x : Given) (before after words words_after : List ℕ) (outcome : Option ℕ) : Type 0 where
  pub answers : outcome ≡ outcome_of x
  pub table : after ≡ even_over x before
  pub later_words : KeptFrom (length x.targets) words words_after
  pub words_without_table : has_no_table x ≡ true → words_after ≡ words
