-- A row filled from the next one, word by word.
-- Assumes nothing.
use mathlib.Core.Path.{◌≡◌, refl, sym, ◌∙◌}
use mathlib.Core.Logic.{inr, ⊎_elim}
use mathlib.Core.Bool.{true}
use mathlib.Core.List.{List}
use Prim.Native.Nat.{ℕ, ◌+◌, ◌*◌, ◌/◌, ◌%◌, min, max, ◌≤◌, ◌<◌}
use native.Mathlib.Omega.{arith}
use lib.Dec.{ltb, eqb}
use lib.ListN.{length, set}
use lib.Seq.{get_or-set_same, get_or-set_other}
use lib.Bits.{bit_or}
use Rattle.std.proofs.lemmas.Nat.{le_or_l, le_or_r}
use borrow.Author.Tests.{lt-ltb}
use Rattle.laws.specs.Search.{any}
use Rattle.laws.proofs.Cases.{is_yes}
use Rattle.laws.proofs.Search.{any_intro, any_none, some_of}
use Rattle.reach.specs.declared.Run.{Run}
use Rattle.reach.specs.declared.Span.{Span}
use Rattle.reach.specs.declared.Word.{Word}
use Rattle.reach.specs.Bits.{digit, bit_at}
use Rattle.reach.specs.Rows.{lit, reaches, RowAsks, RowFilled}
use Rattle.reach.specs.Words.{Skipped, level_of, WordFilled}
use Rattle.reach.proofs.Bits.{bit_same, digit_pos, some_digit, or_either}
use Rattle.reach.proofs.Rows.{up_to, on_from, lit_is, is_lit, row_bit, row_kept, kept_none, kept_set}
use Rattle.reach.proofs.Steps.{skipped_next, reaches_later, skipped_later}

-- where the word i of the row starts, of the levels from `from` on
abbrev pub starts : (from i : ℕ) → ℕ
starts from i = max from (i * 32)

-- the run's levels in the words before word i are filled, and q is where the search for those of word i goes on
pub record Filling (curve before words : List ℕ) (run next : Run) (span : Span) (gathered i q : ℕ) : Type 0 where
  pub next_low : next.from ≤ q
  pub filled : RowFilled curve before words (up_to run (min (starts run.from i) run.to)) next span (ltb 0 gathered)
  pub skipped : Skipped curve (lit before next) span.least (starts run.from i) q

-- nothing is filled yet
pub filling_none : (curve words : List ℕ) (run next : Run) (span : Span)
    → Filling curve words words run next span 0 (run.from / 32) next.from
unfolding lit
filling_none curve words run next span = grind (arith, kept_none words run.p, any_none (lit words (up_to run (min (starts run.from (run.from / 32)) run.to))) (length curve), lit_is words next)

-- word i of the row is stored, with its bits for the levels d to `end` − 1
module _ {curve before words : List ℕ} {gathered i q d end : ℕ} {run next : Run} {span : Span} {word : Word}
    (asks : RowAsks curve before run next span) (h : Filling curve before words run next span gathered i q)
    (after_first : run.from / 32 ≤ i) (inside : i * 32 < run.to) (begins : d ≡ starts run.from i) (ends : end ≡ min run.to (i * 32 + 32))
    (done : WordFilled curve words (record { p = run.p; from = d; to = end }) (on_from next q) span word) where
  abbrev after : List ℕ
  after = set words (run.p * 32 + i) word.bits

  abbrev below : ℕ
  below = min (starts run.from i) run.to

  -- the levels below d are in other words
  old_bit : (e : ℕ) → run.from ≤ e → e < d → bit_at after (run.p * 1024 + e) ≡ bit_at words (run.p * 1024 + e)
  old_bit e a b = bit_same after words (run.p * 1024 + e) (get_or-set_other words _ _ word.bits 0 (λ s. omega arith))

  -- and those from d on in this one
  new_bit : (e : ℕ) → d ≤ e → e < end → bit_at after (run.p * 1024 + e) ≡ eqb (digit word.bits (e % 32)) 1
  new_bit e a b =
      let same : e / 32 ≡ i = omega arith in
      row_bit after run.p e ∙ rw (same, get_or-set_same words (run.p * 32 + i) word.bits 0 (omega (arith, h.filled.kept.len))) refl

  -- the next row is as before
  next_row : lit words (on_from next q) ≡ lit before (on_from next q)
  next_row = row_kept h.filled.kept next.p (inr (omega arith)) q next.to (omega arith)

  -- each bit is what it is to be
  bits_here : (e : ℕ) → run.from ≤ e → e < end → e < length curve → bit_at after (run.p * 1024 + e) ≡ reaches curve (lit before next) span e
  unfolding lit
  bits_here e a b u = grind (arith, new_bit e, old_bit e a, done.here (e % 32), next_row, h.filled.here e u, reaches_later before next span asks.never_falls h.next_low h.skipped e)

  lit_here : (e : ℕ) → run.from ≤ e → e < end → bit_at after (run.p * 1024 + e) ≡ true → any (lit after (up_to run end)) (length curve) ≡ true
  lit_here e a b on = is_yes _ (any_intro (lit after (up_to run end)) (length curve) e (omega arith) (grind (arith, is_lit after (up_to run end) e)))

  -- some level is lit where what is gathered is not zero
  some_lit : 0 < bit_or gathered word.bits → any (lit after (up_to run end)) (length curve) ≡ true
  some_lit pos =
      ⊎_elim
      (λ (g : 0 < gathered).
      some_of (lit words (up_to run below)) (length curve) (sym h.filled.found ∙ lt-ltb 0 gathered g)
      (λ e u on.
      let at = lit_is words (up_to run below) e on in
      lit_here e at.low (omega arith) (old_bit e at.low (omega arith) ∙ at.bit)))
      (λ (g : 0 < word.bits).
      some_digit word.bits g
      (λ k one. lit_here (level_of d k) (grind (arith, done.here k)) (grind (arith, done.here k)) (grind (arith, done.here k, new_bit (level_of d k)))))
      (or_either gathered word.bits pos)

  -- and only there
  lit_some : any (lit after (up_to run end)) (length curve) ≡ true → 0 < bit_or gathered word.bits
  lit_some found =
      some_of (lit after (up_to run end)) (length curve) found
      (λ e u on.
      let at = lit_is after (up_to run end) e on in
      let some = any_intro (lit words (up_to run below)) (length curve) e u in
      let was = is_lit words (up_to run below) e in
      grind (arith, new_bit e, old_bit e, digit_pos word.bits (e % 32), le_or_r gathered word.bits, le_or_l gathered word.bits))

  pub filling_more : Filling curve before after run next span (bit_or gathered word.bits) (i + 1) word.q
  unfolding lit
  filling_more = record {
    next_low = omega (arith, h.next_low, done.after);
    filled =
        let e : min (starts run.from (i + 1)) run.to ≡ end = omega arith in
        rw e record {
          kept = kept_set h.filled.kept (run.p * 32 + i) word.bits (omega arith) (omega arith);
          here = λ e u. grind (arith, bits_here e);
          found = grind (arith, some_lit, lit_some);
        };
    skipped =
        skipped_later before next span asks.never_falls h.next_low h.skipped (starts run.from (i + 1)) word.q (omega arith)
        (skipped_next curve _ span (max d end) asks.never_falls (rw next_row at done.skipped) (starts run.from (i + 1)) (omega arith));
  }
