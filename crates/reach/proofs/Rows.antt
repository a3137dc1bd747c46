-- The lit levels of a row, and what other rows keep.
-- Assumes nothing.
use mathlib.Core.Path.{◌≡◌, refl, fun_ext}
use mathlib.Core.Logic.{◌⊎◌}
use mathlib.Core.Bool.{true}
use mathlib.Core.List.{List}
use Prim.Native.Nat.{ℕ, ◌+◌, ◌*◌, ◌/◌, ◌%◌, ◌≤◌, ◌<◌}
use native.Mathlib.Omega.{arith}
use lib.Dec.{eqb}
use lib.ListN.{get_or, set, length-set}
use lib.Seq.{get_or-set_other}
use Rattle.reach.specs.declared.Run.{Run}
use Rattle.reach.specs.Bits.{digit, bit_at, marked}
use Rattle.reach.specs.Rows.{lit, RowKept}
use Rattle.reach.proofs.Bits.{bit_same, place_bit}

-- the levels of a run below n, and those from n on
abbrev pub up_to : Run → (n : ℕ) → Run
up_to run n = record { p = run.p; from = run.from; to = n }

abbrev pub on_from : Run → (n : ℕ) → Run
on_from run n = record { p = run.p; from = n; to = run.to }

-- what a lit level tells
pub record IsLit (words : List ℕ) (run : Run) (d : ℕ) : Type 0 where
  pub low : run.from ≤ d
  pub high : d < run.to
  pub bit : bit_at words (run.p * 1024 + d) ≡ true

module _ (words : List ℕ) (run : Run) (d : ℕ) where
  pub lit_is : lit words run d ≡ true → IsLit words run d
  unfolding lit
  lit_is e = grind arith

  pub is_lit : IsLit words run d → lit words run d ≡ true
  unfolding lit
  is_lit h = grind arith

  -- it is lit in a run that starts elsewhere too
  pub lit_moved : lit words run d ≡ true → (other : ℕ) → other ≤ d → lit words (on_from run other) d ≡ true
  unfolding lit
  lit_moved e other l = grind arith

-- ---- rows

pub row_bit : (words : List ℕ) (p d : ℕ) → bit_at words (p * 1024 + d) ≡ eqb (digit (get_or words (p * 32 + d / 32) 0) (d % 32)) 1
row_bit words p d = grind (arith, place_bit words (p * 32) d)

-- where two lists of words agree on a row, its lit levels are the same
pub lit_same : (a b : List ℕ) (run : Run) (d : ℕ) → d < 1024 → ((i : ℕ) → run.p * 32 ≤ i → i < run.p * 32 + 32 → get_or a i 0 ≡ get_or b i 0)
    → lit a run d ≡ lit b run d
unfolding lit
lit_same a b run d l e = grind (arith, bit_same a b (run.p * 1024 + d), e ((run.p * 1024 + d) / 32))

module _ {before after : List ℕ} {p : ℕ} (kept : RowKept before after p) (q : ℕ) (other : (q < p) ⊎ (p < q)) where
  pub bit_kept : (d : ℕ) → d < 1024 → bit_at after (q * 1024 + d) ≡ bit_at before (q * 1024 + d)
  bit_kept d l = bit_same after before (q * 1024 + d) (grind (arith, kept.words ((q * 1024 + d) / 32)))

  -- where the run ends in its row, at any d
  pub row_kept : (from to : ℕ) → to ≤ 1024 → lit after (record { p = q; from = from; to = to }) ≡ lit before (record { p = q; from = from; to = to })
  unfolding lit
  row_kept from to l = fun_ext (λ d. grind (arith, bit_kept d))

-- ---- words of row p changed

pub kept_none : (words : List ℕ) (p : ℕ) → RowKept words words p
kept_none words p = record { len = refl; words = λ i o. refl }

module _ {before words : List ℕ} {p : ℕ} (h : RowKept before words p) where
  pub kept_set : (i x : ℕ) → p * 32 ≤ i → i < p * 32 + 32 → RowKept before (set words i x) p
  kept_set i x l u = grind (arith, length-set {A = ℕ}, get_or-set_other {A = ℕ})

  pub kept_mark : (d : ℕ) → d < 1024 → RowKept before (marked words (p * 1024 + d)) p
  unfolding marked
  kept_mark d l = kept_set ((p * 1024 + d) / 32) _ (omega arith) (omega arith)
