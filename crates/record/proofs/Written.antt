-- Numbers and items, written and read, both ways.
-- Assumes nothing.
use Prim.Native.Nat.{ℕ, zero, suc, ◌+◌, ◌*◌, ◌/◌, ◌%◌, ◌≤◌}
use mathlib.Core.Path.{◌≡◌, refl}
use mathlib.Core.List.{List, [], ◌∷◌, ◌++◌}
use lib.ListN.{length, take, drop, length-drop, length-append}
use lib.Seq.{drop-drop, drop_at}
use lib.Dec.{T}
use native.Mathlib.Omega.{arith}
use Rattle.record.specs.Bytes.{word, long, fields, bytes16, bytes32}
use Rattle.record.specs.Tests.{all_up_to}
use Rattle.record.specs.Written.{run, run_sweep}
use Rattle.record.proofs.Scans.{up_to_at}

-- ---- a number

pub word_back : (x : ℕ) → x ≤ 65535 → x % 256 + 256 * (x / 256 % 256) ≡ x
word_back x h = omega arith

pub long_back : (x : ℕ) → x ≤ 4294967295 → x % 256 + 256 * (x / 256 % 256) + 65536 * (x / 65536 % 256 + 256 * (x / 65536 / 256 % 256)) ≡ x
long_back x h = grind arith

-- ---- items that are written and then read

-- numbers of one width
module _ (m w : ℕ) (f : List ℕ → ℕ) (g : ℕ → List ℕ) (size : (x : ℕ) → length (g x) ≡ w) where
  pub run_back : ((x : ℕ) → x ≤ m → (s : List ℕ) → f (g x ++ s) ≡ x) → (xs : List ℕ) → T (all_up_to m xs) → fields w f (length xs) (run g xs) ≡ xs
  unfolding fields run all_up_to
  run_back back [] t = refl
  run_back back (x ∷ xs) t = grind (arith, back x, drop_at (g x) (run g xs) w (size x), run_back back xs)

pub run_length : (w : ℕ) (g : ℕ → List ℕ) → ((x : ℕ) → length (g x) ≡ w) → (xs : List ℕ) → length (run g xs) ≡ length xs * w
unfolding run
run_length w g size [] = omega arith
run_length w g size (x ∷ xs) = omega (arith, size x, length-append (g x) (run g xs), run_length w g size xs)

pub ddls_back : (ds ls : List ℕ) → length ls ≡ length ds → T (all_up_to 65535 ds) → fields 6 (word 0) (length ds) (run_sweep ds ls) ≡ ds
unfolding fields run_sweep all_up_to
ddls_back [] ls e t = refl
ddls_back (d ∷ ds) [] e t = absurd (omega arith)
ddls_back (d ∷ ds) (l ∷ ls) e t = grind (arith, word_back d, ddls_back ds ls)

pub luminances_back : (ds ls : List ℕ) → length ls ≡ length ds → T (all_up_to 4294967295 ls) → fields 6 (long 2) (length ds) (run_sweep ds ls) ≡ ls
unfolding fields run_sweep all_up_to
luminances_back [] [] e t = refl
luminances_back [] (l ∷ ls) e t = absurd (omega arith)
luminances_back (d ∷ ds) [] e t = absurd (omega arith)
luminances_back (d ∷ ds) (l ∷ ls) e t = grind (arith, long_back l, luminances_back ds ls)

-- ---- how long they are

pub run_sweep_length : (ds ls : List ℕ) → length ls ≡ length ds → length (run_sweep ds ls) ≡ length ds * 6
unfolding run_sweep
run_sweep_length [] ls e = refl
run_sweep_length (d ∷ ds) [] e = absurd (omega arith)
run_sweep_length (d ∷ ds) (l ∷ ls) e = omega (arith, run_sweep_length ds ls (omega arith))

-- ---- bytes that are read as items and then written

pub word_fits : (i : ℕ) (s : List ℕ) → T (all_up_to 255 s) → word i s ≤ 65535
word_fits i s t = omega (arith, up_to_at 255 s i t, up_to_at 255 s (i + 1) t)

pub long_fits : (i : ℕ) (s : List ℕ) → T (all_up_to 255 s) → long i s ≤ 4294967295
long_fits i s t = omega (arith, word_fits i s t, word_fits (i + 2) s t)

pub up_to_drop : (m n : ℕ) (xs : List ℕ) → T (all_up_to m xs) → T (all_up_to m (drop n xs))
unfolding all_up_to
up_to_drop m zero xs t = t
up_to_drop m (suc n) [] t = t
up_to_drop m (suc n) (x ∷ xs) t = grind (arith, up_to_drop m n)

pub up_to_take : (m n : ℕ) (xs : List ℕ) → T (all_up_to m xs) → T (all_up_to m (take n xs))
unfolding all_up_to
up_to_take m zero xs t = tt
up_to_take m (suc n) [] t = t
up_to_take m (suc n) (x ∷ xs) t = grind (arith, up_to_take m n xs)

pub fields_fit : (m w : ℕ) (f : List ℕ → ℕ) → ((s : List ℕ) → T (all_up_to 255 s) → f s ≤ m) → (n : ℕ) (s : List ℕ) → T (all_up_to 255 s) → T (all_up_to m (fields w f n s))
unfolding fields all_up_to
fields_fit m w f h zero s t = tt
fields_fit m w f h (suc n) s t = grind (arith, h s t, fields_fit m w f h n (drop w s) (up_to_drop 255 w s t))

-- the first item, written, and then the others
pub word_front_again : (s : List ℕ) → T (all_up_to 255 s) → 2 ≤ length s → bytes16 (word 0 s) ++ drop 2 s ≡ s
unfolding all_up_to
word_front_again s t h = grind arith

pub long_front_again : (s : List ℕ) → T (all_up_to 255 s) → 4 ≤ length s → bytes32 (long 0 s) ++ drop 4 s ≡ s
unfolding all_up_to
long_front_again s t h = grind arith

-- s is n items of w bytes
pub record ItemBytes (w n : ℕ) (s : List ℕ) : Type 0 where
  pub bytes : T (all_up_to 255 s)
  pub all : length s ≡ n * w

others : (w n : ℕ) (s : List ℕ) → ItemBytes w (suc n) s → ItemBytes w n (drop w s)
others w n s h = grind (arith, up_to_drop, length-drop {A = ℕ})

none_left : {w : ℕ} (s : List ℕ) → ItemBytes w 0 s → [] ≡ s
none_left {w} [] h = refl
none_left {w} (x ∷ s) h = absurd (omega (arith, h.all))

-- numbers of one width
pub run_again : (w : ℕ) (f : List ℕ → ℕ) (g : ℕ → List ℕ) → ((s : List ℕ) → T (all_up_to 255 s) → w ≤ length s → g (f s) ++ drop w s ≡ s) → (n : ℕ) (s : List ℕ) → ItemBytes w n s → run g (fields w f n s) ≡ s
unfolding fields run
run_again w f g e zero s h = none_left s h
run_again w f g e (suc n) s h = grind (arith, run_again w f g e n (drop w s) (others w n s h), e s)

-- drive levels with their luminances
pub run_sweep_again : (n : ℕ) (s : List ℕ) → ItemBytes 6 n s → run_sweep (fields 6 (word 0) n s) (fields 6 (long 2) n s) ≡ s
unfolding fields run_sweep
run_sweep_again zero s h = none_left s h
run_sweep_again (suc n) s h = grind (arith, run_sweep_again n (drop 6 s) (others 6 n s h), long_front_again (drop 2 s) (up_to_drop 255 2 s h.bytes), word_front_again s h.bytes, length-drop 2 s, drop-drop 4 2 s)
