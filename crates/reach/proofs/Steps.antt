-- The levels that reach the next row, and the pointer into that row, which never goes back.
-- Assumes nothing.
use mathlib.Core.Path.{◌≡◌}
use mathlib.Core.Bool.{Bool, true, false}
use mathlib.Core.List.{List}
use Prim.Native.Nat.{ℕ, ◌+◌, ◌≤◌, ◌<◌}
use native.Mathlib.Omega.{arith}
use lib.Dec.{T}
use lib.ListN.{length, get_or}
use Rattle.laws.specs.Rises.{NeverFalls}
use Rattle.laws.proofs.Cases.{by, is_yes, yes_is, same_outcome}
use Rattle.laws.proofs.Search.{any_intro, some_of}
use Rattle.reach.specs.declared.Run.{Run}
use Rattle.reach.specs.declared.Span.{Span}
use Rattle.reach.specs.Rows.{lit, step_fits, reaches}
use Rattle.reach.specs.Words.{Skipped}
use Rattle.reach.proofs.Rows.{on_from, lit_is, lit_moved}

-- the step from level d to level q fits
pub record Fits (curve : List ℕ) (span : Span) (d q : ℕ) : Type 0 where
  pub low : d ≤ q
  pub enough : get_or curve d 0 + span.least ≤ get_or curve q 0
  pub near : get_or curve q 0 ≤ get_or curve d 0 + span.most

module _ {curve : List ℕ} {span : Span} {d q : ℕ} where
  pub fits_is : T (step_fits curve span d q) → Fits curve span d q
  unfolding step_fits
  fits_is t = grind arith

  pub is_fit : Fits curve span d q → T (step_fits curve span d q)
  unfolding step_fits
  is_fit f = grind arith

-- level q of the next row is lit, and the step to it from level d fits
pub record Step (curve : List ℕ) (next : ℕ → Bool) (span : Span) (d q : ℕ) : Type 0 where
  pub inside : q < length curve
  pub on : next q ≡ true
  pub fits : Fits curve span d q

module _ (curve : List ℕ) (next : ℕ → Bool) (span : Span) (d : ℕ) where
  pub reaches_by : (q : ℕ) → Step curve next span d q → reaches curve next span d ≡ true
  unfolding reaches
  reaches_by q s = is_yes _ (any_intro _ (length curve) q s.inside (grind (arith, is_fit)))

  reaches_some {ℓ} : {X : Type ℓ} → reaches curve next span d ≡ true → ((q : ℕ) → Step curve next span d q → X) → X
  unfolding reaches
  reaches_some r found = some_of _ (length curve) r (λ q u h. found q (grind (arith, fits_is)))

  module _ (never : NeverFalls curve) {r : ℕ} (skipped : Skipped curve next span.least d r) where
    -- what is not bright enough for d is not for the levels after it
    pub skipped_next : (e : ℕ) → d ≤ e → Skipped curve next span.least e r
    skipped_next e m = grind arith

    -- where the step to r is too high, no step fits
    pub none_past : (to : ℕ) → ((q : ℕ) → next q ≡ true → q < to) → (r < to → get_or curve d 0 + span.most < get_or curve r 0)
        → reaches curve next span d ≡ false
    none_past to high far =
        by (reaches curve next span d)
        (λ t. reaches_some t (λ q s. grind (arith, high q, never.keeps r q, skipped.dim q)))
        (λ f. f)

-- where each step fits in another row too, a level that reaches the one reaches the other
reaches_other : (curve : List ℕ) (next other : ℕ → Bool) (span : Span) (d : ℕ) → ((q : ℕ) → Step curve next span d q → other q ≡ true)
    → T (reaches curve next span d) → T (reaches curve other span d)
reaches_other curve next other span d h t =
    reaches_some curve next span d (is_yes _ t) (λ q s. yes_is (reaches_by curve other span d q (grind (arith, h q))))

-- the lit levels below q are too dim for d: for d and the levels after it, the run from q on is as good as the whole
module _ {curve : List ℕ} (words : List ℕ) (run : Run) (span : Span) {d q : ℕ} (never : NeverFalls curve) (low : run.from ≤ q)
    (skipped : Skipped curve (lit words run) span.least d q) where
  pub reaches_later : (e : ℕ) → d ≤ e → reaches curve (lit words run) span e ≡ reaches curve (lit words (on_from run q)) span e
  reaches_later e m =
      let before = skipped_next curve _ span d never skipped e m in
      same_outcome _ _
      (reaches_other curve _ _ span e (λ i s. grind (arith, lit_moved words run i s.on q)))
      (reaches_other curve _ _ span e (λ i s. lit_moved words (on_from run q) i s.on run.from (omega (arith, lit_is words (on_from run q) i s.on))))

  pub skipped_later : (e r : ℕ) → d ≤ e → Skipped curve (lit words (on_from run q)) span.least e r → Skipped curve (lit words run) span.least e r
  skipped_later e r m rest =
      let before = skipped_next curve _ span d never skipped e m in
      grind (arith, lit_moved words run)
