-- One word of a row, for a run whose levels lie in it.
use Rattle.std.specs.Prelude.{ℕ, ◌+◌, ◌*◌, ◌/◌, max, ◌≤◌, ◌<◌, ◌≡◌, Bool, true, ◌&&◌, List, leb, ltb, eqb, length, get_or}
use Rattle.reach.specs.declared.Run.{Run}
use Rattle.reach.specs.declared.Span.{Span}
use Rattle.reach.specs.declared.Word.{Word}
use Rattle.reach.specs.Bits.{digit}
use Rattle.reach.specs.Rows.{lit, reaches}

-- the levels of a run lie in one word
abbrev pub InWord : Run → Type 0
InWord run = run.to ≤ run.from / 32 * 32 + 32

-- no level of the next row from d to q − 1 is bright enough for a step from d
pub record Skipped (curve : List ℕ) (next : ℕ → Bool) (least d q : ℕ) : Type 0 where
  pub dim : (e : ℕ) → d ≤ e → e < q → e < length curve → next e ≡ true → get_or curve e 0 < get_or curve d 0 + least

-- the level of bit k in the word that holds level d
abbrev pub level_of : (d k : ℕ) → ℕ
level_of d k = d / 32 * 32 + k

-- the word of the row that holds the levels of a run: a bit is set where its level is one of them and reaches the next row.
-- The search for the levels after them goes on at word.q
pub record WordFilled (curve words : List ℕ) (run next : Run) (span : Span) (word : Word) : Type 0 where
  pub here : (k : ℕ) → eqb (digit word.bits k) 1
      ≡ (leb run.from (level_of run.from k) && (ltb (level_of run.from k) run.to && reaches curve (lit words next) span (level_of run.from k)))
  pub after : next.from ≤ word.q
  pub skipped : Skipped curve (lit words next) span.least (max run.from run.to) word.q
