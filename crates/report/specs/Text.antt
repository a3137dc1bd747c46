-- Numbers in decimal, as bytes.
use Rattle.std.specs.Prelude.{ℕ, zero, suc, ◌+◌, ◌-◌, ◌*◌, ◌/◌, ◌%◌, ◌≤◌, ◌<◌, cond, ◌≡◌, List, [], ◌∷◌, ◌++◌, ltb, length, get_or, codes}

-- the code of a digit, 0 to 9
abbrev pub digit : ℕ → ℕ
digit d = 48 + d

-- the decimal digits of n, each step taking off the last one
unfoldable pub digits_within : (steps : ℕ) → ℕ → List ℕ
digits_within zero n = []
digits_within (suc steps) n = cond (ltb n 10) (digit n ∷ []) (digits_within steps (n / 10) ++ (digit (n % 10) ∷ []))

-- a number in decimal, without leading zeros; n + 1 steps are always enough
unfoldable pub decimal : ℕ → List ℕ
decimal n = digits_within (suc n) n

-- ---- what is known of it

-- the number that digits stand for, after those of v
unfoldable pub number_of : (v : ℕ) → List ℕ → ℕ
number_of v [] = v
number_of v (x ∷ xs) = number_of (v * 10 + (x - 48)) xs

-- each of the codes is that of a digit
pub record Digits (xs : List ℕ) : Type 0 where
  pub low : (i : ℕ) → i < length xs → 48 ≤ get_or xs i 0
  pub high : (i : ℕ) → i < length xs → get_or xs i 0 ≤ 57

-- n in decimal: digits alone, which stand for n; the first is 0 only where n is, and then it is the only one
pub record Decimal (n : ℕ) : Type 0 where
  pub digits : Digits (decimal n)
  pub stands_for : number_of 0 (decimal n) ≡ n
  pub no_leading_zero : 0 < n → 48 < get_or (decimal n) 0 0
  pub zero_alone : n ≡ 0 → decimal n ≡ codes "0"
