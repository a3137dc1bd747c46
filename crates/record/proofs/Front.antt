-- A record has 6,250 bytes at most: how a longer input is read does not depend on what follows its first 6,251 bytes.
-- Assumes nothing.
use Prim.Native.Nat.{ℕ, ◌+◌, ◌-◌, ◌*◌, ◌≤◌}
use mathlib.Core.Path.{◌≡◌, refl, ap}
use mathlib.Core.List.{List}
use mathlib.Core.Bool.{true}
use mathlib.Core.Logic.{⊎_elim}
use lib.ListN.{length, take, drop, length-drop}
use lib.Seq.{take_all, length-take-le, get_or-take}
use Rattle.std.proofs.lemmas.List.{drop-take}
use native.Mathlib.Omega.{arith}
use Rattle.std.specs.Prelude.{Result, Ok, Err}
use Rattle.laws.proofs.Cases.{le_or_lt}
use Rattle.record.specs.Bytes.{word}
use Rattle.record.specs.Sections.{Counts, permitted, width, count_of, rest, after, ended, layout_of, lists_at, sections}
use Rattle.record.specs.declared.Refusal.{Refusal}
use Rattle.record.specs.declared.Section.{Section}
use Rattle.record.specs.declared.Section.TheVariants.{Settings, Lamps, Sweep, Check}
use Rattle.record.proofs.Counted.{counted, most}
use Rattle.record.proofs.Placed.{layout_from_lamps, layout_from_sweep, layout_from_check, sizes}

-- the most bytes of a section
abbrev most_bytes : Section → ℕ
most_bytes k = 2 + most k * width k

within_most : (k : Section) (n : ℕ) → permitted k n ≡ true → 2 + n * width k ≤ most_bytes k
within_most y1 n h = grind arith

-- ---- one section, at the front of s and of its first m bytes

module _ (k : Section) (m : ℕ) (s : List ℕ) (h : most_bytes k ≤ m) (l : m ≤ length s) where
  long : length (take m s) ≡ m
  long = length-take-le m s l

  count_front : count_of k (take m s) ≡ count_of k s
  unfolding count_of
  count_front = grind (arith, long, get_or-take {A = ℕ}, within_most k (word 0 s))

  -- what follows the section is a front of what follows it in the whole
  read_front : (F : ℕ → List ℕ → Result Counts Refusal) → ((n j : ℕ) → j ≤ most_bytes k → F n (take (m - j) (drop j s)) ≡ F n (drop j s))
      → after (count_of k (take m s)) (λ n. F n (rest k n (take m s))) ≡ after (count_of k s) (λ n. F n (rest k n s))
  read_front F same = rw count_front (found (count_of k s) refl)
    where
      found : (x : Result ℕ Refusal) → count_of k s ≡ x → after x (λ n. F n (rest k n (take m s))) ≡ after x (λ n. F n (rest k n s))
      found (Err r) e = refl
      found (Ok n) e =
          let j = 2 + n * width k in
          let low = within_most k n (counted k s n e).may in
          let sum : j + (m - j) ≡ m = omega arith in
          rw (rw sum at (drop-take j (m - j) s)) (same n j low)

-- ---- the sections from the last to the first, with one byte more than they may have

ended_front : (a b c d m : ℕ) (s : List ℕ) → 1 ≤ m → m ≤ length s → ended a b c d (take m s) ≡ ended a b c d s
ended_front a b c d m s h l = grind arith

check_front : (a b c m : ℕ) (s : List ℕ) → 75 ≤ m → m ≤ length s → layout_from_check a b c (take m s) ≡ layout_from_check a b c s
check_front a b c m s h l =
    read_front Check m s (omega arith) l (ended a b c)
    (λ n j q. ended_front a b c n (m - j) (drop j s) (omega arith) (omega (arith, length-drop {A = ℕ})))

sweep_front : (a b m : ℕ) (s : List ℕ) → 6221 ≤ m → m ≤ length s → layout_from_sweep a b (take m s) ≡ layout_from_sweep a b s
sweep_front a b m s h l =
    read_front Sweep m s (omega arith) l (layout_from_check a b)
    (λ n j q. check_front a b n (m - j) (drop j s) (omega arith) (omega (arith, length-drop j s)))

lamps_front : (a m : ℕ) (s : List ℕ) → 6239 ≤ m → m ≤ length s → layout_from_lamps a (take m s) ≡ layout_from_lamps a s
lamps_front a m s h l =
    read_front Lamps m s (omega arith) l (layout_from_sweep a)
    (λ n j q. sweep_front a n (m - j) (drop j s) (omega arith) (omega (arith, length-drop j s)))

layout_front : (s : List ℕ) → 6251 ≤ length s → layout_of (take 6251 s) ≡ layout_of s
unfolding layout_of
layout_front s l =
    read_front Settings 6251 s (omega arith) l layout_from_lamps
    (λ n j q. lamps_front n (6251 - j) (drop j s) (omega arith) (omega (arith, length-drop {A = ℕ})))

-- ---- the whole

too_long : (s : List ℕ) → 6251 ≤ length s → sections (take 6251 s) ≡ sections s
unfolding sections
too_long s l = rw (layout_front s l) (broken (layout_of s) refl)
  where
    broken : (x : Result Counts Refusal) → layout_of s ≡ x → after x (λ n. Ok (lists_at (take 6251 s) n)) ≡ after x (λ n. Ok (lists_at s n))
    broken (Err r) e = refl
    broken (Ok n) e = grind (arith, sizes s n e)

-- the sections of any input are those of its first 6,251 bytes
pub sections_front : (s : List ℕ) → sections (take 6251 s) ≡ sections s
sections_front s = ⊎_elim (too_long s) (λ h. ap sections (take_all 6251 s (omega arith))) (le_or_lt 6251 (length s))
