-- Rows of 1,024 bits, a bit for each drive level: the row of p is words 32p to 32p + 31.
-- A row has a run, the levels `from` to `to` − 1; only their bits count.
use Rattle.std.specs.Prelude.{ℕ, ◌+◌, ◌*◌, ◌^◌, max, ◌≤◌, ◌<◌, ◌≡◌, ◌⊎◌, Bool, true, ◌&&◌, List, Option, Some, None, leb, ltb, length, get_or}
use Rattle.laws.specs.Search.{any}
use Rattle.laws.specs.Rises.{NeverFalls}
use Rattle.reach.specs.declared.Run.{Run}
use Rattle.reach.specs.declared.Span.{Span}
use Rattle.reach.specs.Bits.{bit_at}

-- level d of a row is lit: it lies in the row's run and its bit is set
unfoldable pub lit : (words : List ℕ) (run : Run) (d : ℕ) → Bool
lit words run d = leb run.from d && (ltb d run.to && bit_at words (run.p * 1024 + d))

-- from level d to level q of the next row: q is not below d, and its luminance is higher by what the span allows
unfoldable pub step_fits : (curve : List ℕ) (span : Span) (d q : ℕ) → Bool
step_fits curve span d q = leb d q && (leb (get_or curve d 0 + span.least) (get_or curve q 0) && leb (get_or curve q 0) (get_or curve d 0 + span.most))

-- the step to some lit level of the next row fits
unfoldable pub reaches : (curve : List ℕ) (next : ℕ → Bool) (span : Span) (d : ℕ) → Bool
reaches curve next span d = any (λ q. next q && step_fits curve span d q) (length curve)

-- words other than those of row p are as before
pub record RowKept (before after : List ℕ) (p : ℕ) : Type 0 where
  pub len : length after ≡ length before
  pub words : (i : ℕ) → (i < p * 32) ⊎ (p * 32 + 32 ≤ i) → get_or after i 0 ≡ get_or before i 0

-- what a row asks: its words are there, and its run ends in it
pub record RowThere (words : List ℕ) (run : Run) : Type 0 where
  pub few : run.p ≤ 2 ^ 32
  pub inside : run.p * 32 + 32 ≤ length words
  pub levels : run.to ≤ 1024

-- every level of the run is lit
pub record RunLit (before after : List ℕ) (run : Run) : Type 0 where
  pub kept : RowKept before after run.p
  pub here : (d : ℕ) → lit after run d ≡ (leb run.from d && ltb d run.to)

-- r is the first level of a run with its bit set and a luminance of at least `least`; where there is none, it is the larger of the run's ends
pub record First (curve words : List ℕ) (run : Run) (least r : ℕ) : Type 0 where
  pub after : run.from ≤ r
  pub within : r ≤ max run.from run.to
  pub skipped : (q : ℕ) → run.from ≤ q → q < r → bit_at words (run.p * 1024 + q) ≡ true → get_or curve q 0 < least
  pub set : r < run.to → bit_at words (run.p * 1024 + r) ≡ true
  pub enough : r < run.to → least ≤ get_or curve r 0

-- what a search of the levels of a run finds: that level, below its end, or that there is none
abbrev pub FindsFirst : (curve words : List ℕ) (run : Run) (least : ℕ) → Option ℕ → Type 0
FindsFirst curve words run least (Some r) = (r < run.to) × First curve words run least r
FindsFirst curve words run least None = First curve words run least (max run.from run.to)

-- what filling a row from the next one asks
pub record RowAsks (curve words : List ℕ) (run next : Run) (span : Span) : Type 0 where
  pub few : run.p < 2 ^ 32
  pub inside : run.p * 32 + 64 ≤ length words
  pub one_after : next.p ≡ run.p + 1
  pub levels : length curve ≤ 1024
  pub run_inside : run.to ≤ length curve
  pub next_inside : next.to ≤ length curve
  pub never_falls : NeverFalls curve
  pub least_small : span.least < 2 ^ 62
  pub most_small : span.most < 2 ^ 62

-- a row is filled from the next one, and `some` tells whether any level of it is lit
pub record RowFilled (curve before after : List ℕ) (run next : Run) (span : Span) (some : Bool) : Type 0 where
  pub kept : RowKept before after run.p
  pub here : (d : ℕ) → d < length curve
      → lit after run d ≡ (leb run.from d && (ltb d run.to && reaches curve (lit before next) span d))
  pub found : some ≡ any (lit after run) (length curve)
