-- The Grayscale Standard Display Function in whole numbers: luminances in units of 0.0001 cd/m², indices in hundredths of a JND.
use Rattle.std.specs.Prelude.{ℕ, ◌+◌, ◌-◌, ◌*◌, ◌/◌, ◌%◌, ◌≤◌, leb, get_or}
use Rattle.laws.specs.Search.{largest}
use Rattle.gsdf.specs.Table.{table_b1}

-- T of document 01: the luminance of JND j, 1 to 1023, which is entry j − 1 of the list, counted from 0
unfoldable pub jnd_luminance : ℕ → ℕ
jnd_luminance j = get_or table_b1 (j - 1) 0

-- T(j) + floor((T(j + 1) − T(j)) × r / 100): the luminance r hundredths after JND j, r from 0 to 99
unfoldable pub luminance_after : ℕ → ℕ → ℕ
luminance_after j r = jnd_luminance j + (jnd_luminance (j + 1) - jnd_luminance j) * r / 100

-- G of document 01: the luminance of index k = 100 × j + r, from 100 to 102,300; at 102,300 r is 0, so it is T(1023)
unfoldable pub luminance_of : ℕ → ℕ
luminance_of k = luminance_after (k / 100) (k % 100)

-- J of document 01: the largest index, 100 to 102,300, whose luminance is at most l
unfoldable pub index_of : ℕ → ℕ
index_of l = largest (λ k. leb (luminance_of k) l) 100 102300

-- k is an index
pub record IsIndex (k : ℕ) : Type 0 where
  pub low : 100 ≤ k
  pub high : k ≤ 102300

-- l lies in the range of the table, from T(1) = 500 to T(1023) = 39,934,040
pub record InTable (l : ℕ) : Type 0 where
  pub low : 500 ≤ l
  pub high : l ≤ 39934040
