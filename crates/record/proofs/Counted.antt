-- What reading one section finds.
-- Assumes nothing.
use Prim.Native.Nat.{ℕ, ◌+◌, ◌*◌, ◌≤◌}
use mathlib.Core.Path.{◌≡◌}
use mathlib.Core.List.{List}
use mathlib.Core.Bool.{true}
use lib.ListN.{length}
use native.Mathlib.Omega.{arith}
use Rattle.std.specs.Prelude.{Ok}
use Rattle.record.specs.Bytes.{word}
use Rattle.record.specs.Sections.{permitted, width, count_of}
use Rattle.record.specs.declared.Section.{Section}
use Rattle.record.specs.declared.Section.TheVariants.{Settings, Lamps, Sweep, Check}

-- the count is permitted, and its items are all there
pub record Counted (k : Section) (s : List ℕ) (n : ℕ) : Type 0 where
  pub is : n ≡ word 0 s
  pub may : permitted k n ≡ true
  pub fits : 2 + n * width k ≤ length s

pub counted : (k : Section) (s : List ℕ) (n : ℕ) → count_of k s ≡ Ok n → Counted k s n
unfolding count_of
counted k s n e = grind arith

-- the most items that a section may have
abbrev pub most : Section → ℕ
most Settings = 5
most Lamps = 8
most Sweep = 1024
most Check = 18

pub up_to_most : (k : Section) (n : ℕ) → permitted k n ≡ true → n ≤ most k
up_to_most y1 n h = grind arith

pub up_to_1024 : (k : Section) (n : ℕ) → permitted k n ≡ true → n ≤ 1024
up_to_1024 y1 n h = grind arith
