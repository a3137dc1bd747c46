-- Bits in words of 32: place n is bit n % 32 of word n / 32.
use Rattle.std.specs.Prelude.{ℕ, ◌/◌, ◌%◌, ◌^◌, Bool, List, eqb, get_or, set}
use Rattle.std.specs.Int.Bits.{bit_or}

-- binary digit k of a word
unfoldable pub digit : (word k : ℕ) → ℕ
digit word k = word / 2 ^ k % 2

-- the bit of a place is set
unfoldable pub bit_at : (words : List ℕ) (place : ℕ) → Bool
bit_at words place = eqb (digit (get_or words (place / 32) 0) (place % 32)) 1

-- the words with the bit of one place set
unfoldable pub marked : (words : List ℕ) (place : ℕ) → List ℕ
marked words place = set words (place / 32) (bit_or (get_or words (place / 32) 0) (2 ^ (place % 32)))
