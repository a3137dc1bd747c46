-- A run of levels lit level by level.
-- Assumes nothing.
use mathlib.Core.Path.{◌≡◌}
use mathlib.Core.Bool.{true}
use mathlib.Core.List.{List}
use Prim.Native.Nat.{ℕ, ◌+◌, ◌*◌, ◌≤◌, ◌<◌}
use native.Mathlib.Omega.{arith}
use lib.ListN.{length}
use Rattle.reach.specs.Bits.{bit_at, marked}
use Rattle.reach.specs.Rows.{lit, RowKept, RowThere, RunLit}
use Rattle.reach.proofs.Bits.{marked_here, marked_other}
use Rattle.reach.proofs.Rows.{kept_mark}

-- the run's levels below d are lit
pub record Lighting (before words : List ℕ) (p from d : ℕ) : Type 0 where
  pub kept : RowKept before words p
  pub set : (e : ℕ) → from ≤ e → e < d → bit_at words (p * 1024 + e) ≡ true

module _ {before words : List ℕ} {p from d : ℕ} (h : Lighting before words p from d) where
  pub lighting_more : {to : ℕ} → RowThere before (record { p = p; from = from; to = to }) → d < to → Lighting before (marked words (p * 1024 + d)) p from (d + 1)
  lighting_more there l =
      let inside : p * 1024 + d < 32 * length words = omega arith in
      let other = marked_other words (p * 1024 + d) inside in
      grind (arith, kept_mark h.kept d, marked_here words (p * 1024 + d) inside)

  pub lighting_all : (to : ℕ) → to ≤ d → RunLit before words (record { p = p; from = from; to = to })
  unfolding lit
  lighting_all to l = grind arith
