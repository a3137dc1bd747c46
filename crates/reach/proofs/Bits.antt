-- Bits in words of 32: read and set.
-- Assumes nothing.
use mathlib.Core.Path.{◌≡◌}
use mathlib.Core.Logic.{◌⊎◌, ◌≢◌}
use mathlib.Core.Bool.{true}
use mathlib.Core.List.{List}
use Prim.Native.Nat.{ℕ, ◌+◌, ◌*◌, ◌/◌, ◌%◌, ◌^◌, ◌<◌}
use native.Mathlib.Nat.{div-one, le_refl}
use native.Mathlib.Omega.{arith}
use lib.Dec.{eqb}
use lib.ListN.{length, get_or}
use lib.Seq.{get_or-set_same, get_or-set_other}
use lib.Bits.{bit_or, or_add_and}
use lib.Arith.{bin_ind}
use lib.Pow.{shr-shr, shr_le}
use mir.Facts.{clash}
use Rattle.laws.proofs.Cases.{by}
use mir.Syntax.{w32}
use Rattle.std.proofs.lemmas.Nat.{one_shl}
use Rattle.std.proofs.lemmas.Nat.Bits.{bit_at_set_same, bit_at_set_other}
use Rattle.reach.specs.Bits.{digit, bit_at, marked}

-- ---- digits

-- a word of 32 bits with digit b set
pub digit_set : (word b : ℕ) → b < 32 → digit (bit_or word (2 ^ b)) b ≡ 1
unfolding digit
digit_set word b h = let e = bit_at_set_same w32 word b h in rw (one_shl b 32 h) at e

pub digits_kept : (word b k : ℕ) → b < 32 → k ≢ b → digit (bit_or word (2 ^ b)) k ≡ digit word k
unfolding digit
digits_kept word b k h other = let e = bit_at_set_other w32 word b h k other in rw (one_shl b 32 h) at e

-- a word with a digit that is 1 is not zero
pub digit_pos : (word k : ℕ) → digit word k ≡ 1 → 0 < word
unfolding digit
digit_pos word k e = omega (arith, shr_le word k)

-- and one that is not zero has such a digit
pub some_digit {ℓ} : {X : Type ℓ} (word : ℕ) → 0 < word → ((k : ℕ) → digit word k ≡ 1 → X) → X
unfolding digit
some_digit {X} =
    bin_ind (λ (word : ℕ). 0 < word → ((k : ℕ) → digit word k ≡ 1 → X) → X) (λ h found. clash h (le_refl 0))
    (λ word half h found.
    by (eqb (word % 2) 1)
    (λ e. found 0 (grind (arith, div-one word)))
    (λ e. half (grind arith) (λ k d. found (1 + k) (grind (arith, shr-shr word 1 k)))))

-- two words together are zero where both are
pub or_either : (a b : ℕ) → 0 < bit_or a b → (0 < a) ⊎ (0 < b)
or_either a b h = grind (arith, or_add_and a b)

-- ---- places

-- the bit of level d in a row that starts at word `row`
pub place_bit : (words : List ℕ) (row d : ℕ) → bit_at words (row * 32 + d) ≡ eqb (digit (get_or words (row + d / 32) 0) (d % 32)) 1
unfolding bit_at
place_bit words row d = grind arith

-- a bit goes by its word
pub bit_same : (a b : List ℕ) (place : ℕ) → get_or a (place / 32) 0 ≡ get_or b (place / 32) 0 → bit_at a place ≡ bit_at b place
unfolding bit_at
bit_same a b place e = rw e

-- ---- a place marked

module _ (words : List ℕ) (place : ℕ) (inside : place < 32 * length words) where
  pub marked_here : bit_at (marked words place) place ≡ true
  unfolding bit_at marked
  marked_here = grind (arith, get_or-set_same {A = ℕ}, digit_set)

  pub marked_other : (other : ℕ) → other ≢ place → bit_at (marked words place) other ≡ bit_at words other
  unfolding bit_at marked
  marked_other other differs = grind (arith, get_or-set_same {A = ℕ}, get_or-set_other {A = ℕ}, digits_kept (get_or words (place / 32) 0) (place % 32) (other % 32))
