-- One word of a row, level by level.
-- Assumes nothing.
use mathlib.Core.Path.{◌≡◌}
use mathlib.Core.Bool.{true, false, ◌&&◌}
use mathlib.Core.List.{List}
use Prim.Native.Nat.{ℕ, ◌+◌, ◌%◌, ◌^◌, max, ◌≤◌, ◌<◌}
use native.Mathlib.Omega.{arith}
use lib.Dec.{leb, ltb, eqb}
use lib.ListN.{get_or}
use lib.Bits.{bit_or}
use Rattle.laws.specs.Rises.{NeverFalls}
use Rattle.reach.specs.declared.Run.{Run}
use Rattle.reach.specs.declared.Span.{Span}
use Rattle.reach.specs.Bits.{digit}
use Rattle.reach.specs.Rows.{lit, reaches, First, RowAsks}
use Rattle.reach.specs.Words.{InWord, Skipped, level_of, WordFilled}
use Rattle.std.proofs.lemmas.Nat.Bits.{bit_at-zero}
use Rattle.reach.proofs.Bits.{digit_set, digits_kept}
use Rattle.reach.proofs.Rows.{on_from, lit_is, is_lit}
use Rattle.reach.proofs.Steps.{reaches_by, skipped_next, none_past}

-- the levels from `from` to d − 1 are in the word, and q is where the search for d goes on
pub record Gathering (curve words : List ℕ) (run next : Run) (span : Span) (bits d q : ℕ) : Type 0 where
  pub low : run.from ≤ d
  pub high : d ≤ max run.from run.to
  pub here : (k : ℕ) → eqb (digit bits k) 1
      ≡ (leb run.from (level_of run.from k) && (ltb (level_of run.from k) d && reaches curve (lit words next) span (level_of run.from k)))
  pub after : next.from ≤ q
  pub skipped : Skipped curve (lit words next) span.least d q

-- no level is in it yet
pub gathering_none : (curve words : List ℕ) (run next : Run) (span : Span)
    → Gathering curve words run next span 0 run.from next.from
unfolding digit
gathering_none curve words run next span = grind (arith, bit_at-zero, lit_is words next)

module _ {curve words : List ℕ} {bits d q : ℕ} {run next : Run} {span : Span}
    (h : Gathering curve words run next span bits d q) where
  -- level d is next, and the search for it found r
  module _ (asks : RowAsks curve words run next span) (inside : d < run.to)
      {start r : ℕ} (starts : start ≡ max q d) (first : First curve words (on_from next start) (get_or curve d 0 + span.least) r) where
    -- the search for d starts where all that was passed is too dim for it
    passed : Skipped curve (lit words next) span.least d r
    passed = grind (arith, first.skipped, lit_is words next)

    -- a word that is right for the levels up to d
    gathered_next : (more : ℕ) → ((k : ℕ) → eqb (digit more k) 1
        ≡ (leb run.from (level_of run.from k) && (ltb (level_of run.from k) (d + 1) && reaches curve (lit words next) span (level_of run.from k))))
        → Gathering curve words run next span more (d + 1) r
    gathered_next more here = grind (arith, skipped_next curve _ span d asks.never_falls passed (d + 1))

    -- level d does not reach the next row where the level found, if any, is too bright
    pub gathering_skip : (r < next.to → get_or curve d 0 + span.most < get_or curve r 0) → Gathering curve words run next span bits (d + 1) r
    gathering_skip far =
        let none = none_past curve _ span d asks.never_falls passed next.to (λ e on. (lit_is words next e on).high) far in
        gathered_next bits (λ k. grind (arith, h.here k))

    -- and reaches it where it is not
    pub gathering_mark : InWord run → r < next.to → get_or curve r 0 ≤ get_or curve d 0 + span.most
        → Gathering curve words run next span (bit_or bits (2 ^ (d % 32))) (d + 1) r
    gathering_mark one l near =
        gathered_next (bit_or bits (2 ^ (d % 32)))
        (λ k. grind (arith, h.here k, digit_set bits (d % 32), digits_kept bits (d % 32) k, some_way))
      where
        some_way : reaches curve (lit words next) span d ≡ true
        some_way =
            reaches_by curve _ span d r
            (grind (arith, is_lit words next r, first.set, first.enough))

  -- no level of the next row is left for d and the levels after it
  pub gathering_end : NeverFalls curve → d < run.to → next.to ≤ max q d → WordFilled curve words run next span (record { bits = bits; q = q })
  gathering_end never inside l = record {
    here = λ k. grind (arith, h.here k, none (level_of run.from k));
    after = h.after;
    skipped = skipped_next curve _ span d never h.skipped (max run.from run.to) (omega arith);
  }
    where
      passed : Skipped curve (lit words next) span.least d next.to
      passed = grind arith

      none : (e : ℕ) → d ≤ e → reaches curve (lit words next) span e ≡ false
      none e m =
          none_past curve _ span e never (skipped_next curve _ span d never passed e m) next.to
          (grind (arith, lit_is words next)) (λ u. absurd (omega arith))
