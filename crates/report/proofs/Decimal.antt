-- The laws of numbers in decimal.
-- Assumes nothing.
use Prim.Native.Nat.{ℕ, zero, suc, ◌+◌, ◌-◌, ◌*◌, ◌/◌, ◌%◌, ◌^◌, ◌≤◌, ◌<◌}
use mathlib.Core.Path.{◌≡◌, refl, sym, ap, ◌∙◌}
use mathlib.Core.List.{List, [], ◌∷◌, ◌++◌}
use mathlib.Core.Logic.{⊎_elim}
use lib.ListN.{length, get_or, length-append, get_or-append}
use lib.Seq.{get_or-append_seam}
use native.Mathlib.Nat.{not-suc-le-zero}
use native.Mathlib.Omega.{arith}
use borrow.Author.Tests.{lt-ltb, le-ltb}
use Rattle.laws.proofs.Cases.{le_or_lt}
use Rattle.std.specs.Fmt.{decimal as printed}
use Rattle.std.proofs.lemmas.Fmt.{AppendsLastDigit, decimal_from_appends, length-decimal-le_succ}
use Rattle.report.specs.Text.{digit, digits_within, decimal, number_of, Digits, Decimal}

-- more steps than enough change nothing
same_digits : (f g n : ℕ) → n < f → n < g → digits_within f n ≡ digits_within g n
unfolding digits_within
same_digits zero g n p q = absurd (not-suc-le-zero p)
same_digits (suc f) zero n p q = absurd (not-suc-le-zero q)
same_digits (suc f) (suc g) n p q =
    ⊎_elim
    (λ h. simp (le-ltb n 10 h) (ap (λ (xs : List ℕ). xs ++ (digit (n % 10) ∷ [])) (same_digits f g (n / 10) (omega arith) (omega arith))))
    (λ h. simp (lt-ltb n 10 h))
    (le_or_lt 10 n)

pub decimal_one : (n : ℕ) → n < 10 → decimal n ≡ digit n ∷ []
unfolding decimal digits_within
decimal_one n h = simp (lt-ltb n 10 h)

pub decimal_more : (n : ℕ) → 10 ≤ n → decimal n ≡ decimal (n / 10) ++ (digit (n % 10) ∷ [])
unfolding decimal digits_within
decimal_more n h = simp (le-ltb n 10 h) (ap (λ (xs : List ℕ). xs ++ (digit (n % 10) ∷ [])) (same_digits n (suc (n / 10)) (n / 10) (omega arith) (omega arith)))

-- as many digits as its bound has zeros
pub decimal_fits : (k n : ℕ) → n < 10 ^ suc k → length (decimal n) ≤ suc k
decimal_fits zero n h = rw (decimal_one n h) (omega arith)
decimal_fits (suc k) n h =
    ⊎_elim
    (λ p. rw (decimal_more n p, length-append) (omega (arith, decimal_fits k (n / 10) (omega arith))))
    (λ p. rw (decimal_one n p) (omega arith))
    (le_or_lt 10 n)

pub decimal_some : (n : ℕ) → 0 < length (decimal n)
decimal_some n =
    ⊎_elim
    (λ p. rw (decimal_more n p, length-append) (omega arith))
    (λ p. rw (decimal_one n p) (omega arith))
    (le_or_lt 10 n)

-- what the library prints of a number
appends : AppendsLastDigit digits_within
unfolding digits_within
appends = record {
  one = λ k n h. simp (lt-ltb n 10 h);
  more = λ k n h. simp (le-ltb n 10 h);
}

pub printed_decimal : (n : ℕ) → n < 2 ^ 64 → printed n ≡ decimal n
unfolding decimal
printed_decimal n h = sym (decimal_from_appends digits_within appends (suc n) n h (omega (arith, length-decimal-le_succ n h)))

-- ---- what is known of every number

number_more : (v : ℕ) (xs : List ℕ) (x : ℕ) → number_of v (xs ++ (x ∷ [])) ≡ number_of v xs * 10 + (x - 48)
unfolding number_of
number_more v [] x = refl
number_more v (y ∷ ys) x = number_more (v * 10 + (y - 48)) ys x

no_digits : Digits []
no_digits = record { low = λ i l. absurd (not-suc-le-zero l); high = λ i l. absurd (not-suc-le-zero l) }

one_more : (xs : List ℕ) (x : ℕ) → Digits xs → 48 ≤ x → x ≤ 57 → Digits (xs ++ (x ∷ []))
one_more xs x d p q = record { low = λ i l. at (λ y. 48 ≤ y) i l (d.low i) p; high = λ i l. at (λ y. y ≤ 57) i l (d.high i) q }
  where
    at : (P : ℕ → Type 0) (i : ℕ) → i < length (xs ++ (x ∷ [])) → (i < length xs → P (get_or xs i 0)) → P x → P (get_or (xs ++ (x ∷ [])) i 0)
    at P i l f h =
        ⊎_elim
        (λ k. let e : i ≡ length xs = omega (arith, length-append xs (x ∷ [])) in rw (e, get_or-append_seam xs x [] 0) h)
        (λ k. rw (get_or-append xs (x ∷ []) 0 i k) (f k))
        (le_or_lt (length xs) i)

first_digit : (n : ℕ) → n < 10 → Decimal n
unfolding number_of
first_digit n h = record {
  digits = rw (decimal_one n h) (one_more [] (digit n) no_digits (omega arith) (omega arith));
  stands_for = rw (decimal_one n h) (omega arith);
  no_leading_zero = λ p. rw (decimal_one n h) (omega arith);
  zero_alone = λ e. rw (decimal_one n h, e) refl;
}

last_digit : (n : ℕ) → 10 ≤ n → Decimal (n / 10) → Decimal n
last_digit n h d = record {
  digits = rw (decimal_more n h) (one_more (decimal (n / 10)) (digit (n % 10)) d.digits (omega arith) (omega arith));
  stands_for = ap (number_of 0) (decimal_more n h) ∙ number_more 0 (decimal (n / 10)) (digit (n % 10)) ∙ rw d.stands_for (omega arith);
  no_leading_zero = λ p. rw (decimal_more n h, get_or-append (decimal (n / 10)) (digit (n % 10) ∷ []) 0 0 (decimal_some (n / 10))) (d.no_leading_zero (omega arith));
  zero_alone = λ e. absurd (omega arith);
}

decimal_within : (f n : ℕ) → n < f → Decimal n
decimal_within zero n h = absurd (not-suc-le-zero h)
decimal_within (suc f) n h = ⊎_elim (λ p. last_digit n p (decimal_within f (n / 10) (omega arith))) (first_digit n) (le_or_lt 10 n)

-- a number in decimal is what it should be
pub decimal_rule : (n : ℕ) → Decimal n
decimal_rule n = decimal_within (suc n) n (omega arith)
