-- The index range of a display, and the target luminance of each P-value.
use Rattle.std.specs.Prelude.{ℕ, ◌+◌, ◌-◌, ◌*◌, ◌/◌, ◌≤◌, List, Bool, ◌&&◌, leb, ltb}
use Rattle.laws.specs.Fill.{tab}
use Rattle.gsdf.specs.DisplayFunction.{jnd_luminance, luminance_of, index_of}
use Rattle.target.specs.declared.IndexRange.{IndexRange}

-- Jlo, Jhi and N of document 01, by the luminances of black and white
unfoldable pub range_of : (black white : ℕ) → IndexRange
range_of black white = record {
  low = record { 0 = index_of black };
  high = record { 0 = index_of white };
  range = record { 0 = index_of white - index_of black };
}

-- N that test 10 refuses
abbrev pub too_narrow : (range : ℕ) → Bool
too_narrow range = ltb range 10000

-- black from T(1) to below T(200) and white from T(300) to T(1023): tests 8, 9 and 10 let them pass, for N is then above 10,000
unfoldable pub clearly_wide : (black white : ℕ) → Bool
clearly_wide black white =
    (leb (jnd_luminance 1) black && ltb black (jnd_luminance 200)) && (leb (jnd_luminance 300) white && leb white (jnd_luminance 1023))

-- the index of P-value p, of those from 0 to top, in a range that begins at low
unfoldable pub index_at : (low range top p : ℕ) → ℕ
index_at low range top p = low + range * p / top

-- t of document 01: the luminance of that index
unfoldable pub target_at : (low range top p : ℕ) → ℕ
target_at low range top p = luminance_of (index_at low range top p)

-- t(0) to t(top)
unfoldable pub targets_of : (low range top : ℕ) → List ℕ
targets_of low range top = tab (target_at low range top) (top + 1)

-- a range of indices, and P-values from 0 to at most 1,023
pub record Aims (low range top : ℕ) : Type 0 where
  pub first : 100 ≤ low
  pub last : low + range ≤ 102300
  pub some : 1 ≤ top
  pub most : top ≤ 1023
