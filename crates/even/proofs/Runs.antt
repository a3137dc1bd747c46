-- The levels allowed at a P-value are those of its run, and the ends of the runs never fall.
-- Assumes nothing.
use Prim.Native.Nat.{ℕ, suc, ◌+◌, ◌-◌, ◌*◌, ◌/◌, ◌≤◌, ◌<◌}
use mathlib.Core.Path.{◌≡◌}
use mathlib.Core.Bool.{◌&&◌}
use native.Mathlib.Nat.{le_refl, mul-add, add-sub_of_le, mul-le-mul_left, mul-le-mul_right}
use native.Mathlib.Omega.{arith}
use mathlib.Core.List.{List}
use lib.Dec.{T, leb, ltb}
use lib.ListN.{length, get_or}
use mir.Facts.{leb_yes, yes_leb, clash}
use Rattle.laws.specs.Search.{any, lowest}
use Rattle.laws.specs.Rises.{NeverFalls}
use Rattle.laws.proofs.Rises.{keeps_by_steps}
use Rattle.laws.proofs.Search.{any_intro, lowest_passes, lowest_top, lowest_le, lowest_is, lowest_under, lowest_found}
use Rattle.even.specs.Even.{Given, t, AllowedAt, Usable}
use Rattle.even.specs.Table.{allowed_at}
use Rattle.even.specs.Runs.{brightest, reaching, run_from, run_to, run_of, NotAbove}

-- ---- the first level that is not darker than l

module _ (curve : List ℕ) (l : ℕ) where
  pub reaching_top : reaching curve l ≤ length curve
  unfolding reaching
  reaching_top = lowest_top _ (length curve)

  pub reached : (d : ℕ) → l ≤ get_or curve d 0 → reaching curve l ≤ d
  unfolding reaching
  reached d h = lowest_le _ (length curve) d (yes_leb h)

  -- levels under it are darker
  pub is_darker : (d : ℕ) → d < reaching curve l → get_or curve d 0 < l
  is_darker d h = grind (arith, reached d)

  -- a darker level that is not above it is below it
  pub not_reached : (d : ℕ) → d < length curve → d ≤ reaching curve l → get_or curve d 0 < l → d + 1 ≤ reaching curve l
  unfolding reaching
  not_reached d k h a = grind (arith, lowest_found (λ i. leb l (get_or curve i 0)) (length curve))

  module _ (keeps : NeverFalls curve) where
    -- those from it on are not
    pub not_darker : (d : ℕ) → reaching curve l ≤ d → d < length curve → l ≤ get_or curve d 0
    unfolding reaching
    not_darker d h k = grind (arith, lowest_found (λ i. leb l (get_or curve i 0)) (length curve), keeps.keeps (reaching curve l) d)

    pub still_darker : (d : ℕ) → d < length curve → get_or curve d 0 < l → d < reaching curve l
    still_darker d k a = grind (arith, not_darker d)

pub reaching_rises : (curve : List ℕ) → NeverFalls curve → (l m : ℕ) → l ≤ m → reaching curve l ≤ reaching curve m
reaching_rises curve keeps l m h = grind (arith, is_darker curve l (reaching curve m), not_darker curve m keeps (reaching curve m), reaching_top curve l)

-- ---- the band around a target: of any two luminances, s and t, and w thousandths of error

-- the lower end never falls, because no more than the whole target is allowed as error
pub darkest_rises : (w s t : ℕ) → w ≤ 1000 → s ≤ t → s - w * s / 1000 ≤ t - w * t / 1000
darkest_rises w s t h a =
    let e : w * t ≡ w * s + w * (t - s) = rw (← mul-add, add-sub_of_le a) in
    let m = mul-le-mul_right (t - s) h in
    grind arith

pub brightest_rises : (w s t : ℕ) → s ≤ t → s + w * s / 1000 ≤ t + w * t / 1000
brightest_rises w s t a = omega (arith, mul-le-mul_left w a)

-- so neither end of a run does
pub not_above : (curve : List ℕ) (w s t : ℕ) → NeverFalls curve → w ≤ 1000 → s ≤ t
    → (reaching curve (s - w * s / 1000) ≤ reaching curve (t - w * t / 1000)) × (reaching curve (s + w * s / 1000 + 1) ≤ reaching curve (t + w * t / 1000 + 1))
not_above curve w s t keeps h a = (
  reaching_rises curve keeps _ _ (darkest_rises w s t h a),
  reaching_rises curve keeps _ _ (omega (arith, brightest_rises w s t a)),
)

module _ {x : Given} (u : Usable x) where
  targets_keep : NeverFalls x.targets
  targets_keep = keeps_by_steps x.targets (grind (arith, u.targets_rise))

  -- by P-value
  pub runs_rise : (p q : ℕ) → p ≤ q → q < length x.targets → NotAbove x q (run_of x p)
  runs_rise p q h l =
      let (from, to) = not_above x.curve x.tolerance (t x p) (t x q) u.curve_keeps u.tolerance_high (targets_keep.keeps p q h l) in
      record { from_low = from; to_low = to }

  pub run_rises : (p : ℕ) → suc p < length x.targets → NotAbove x (suc p) (run_of x p)
  run_rises p l = runs_rise p (suc p) (omega arith) l

module _ (x : Given) where
  pub allowed_is : (p d : ℕ) → T (allowed_at x p d) → AllowedAt x p d
  unfolding allowed_at
  allowed_is p d h = leb_yes h

  pub is_allowed : (p d : ℕ) → AllowedAt x p d → T (allowed_at x p d)
  unfolding allowed_at
  is_allowed p d h = yes_leb h

  module _ (u : Usable x) where
    -- ---- the run of a P-value

    pub run_allowed : (p d : ℕ) → d < length x.curve → run_from x p ≤ d → d < run_to x p → AllowedAt x p d
    run_allowed p d k a b =
        let low = not_darker x.curve _ u.curve_keeps d a k in
        let high = is_darker x.curve _ d b in
        grind arith

    pub allowed_from : (p d : ℕ) → AllowedAt x p d → run_from x p ≤ d
    allowed_from p d h = reached x.curve _ d (grind arith)

    pub allowed_to : (p d : ℕ) → d < length x.curve → AllowedAt x p d → d < run_to x p
    allowed_to p d k h = still_darker x.curve _ u.curve_keeps d k (grind arith)

    -- the test by the run
    pub allowed_run : (p d : ℕ) → d < length x.curve → allowed_at x p d ≡ (leb (run_from x p) d && ltb d (run_to x p))
    allowed_run p d k = grind (arith, allowed_is p d, allowed_from p d, allowed_to p d k, is_allowed p d, run_allowed p d k)

    -- ---- the lowest allowed level

    pub some_allowed : (p : ℕ) → run_from x p < run_to x p → T (any (allowed_at x p) (length x.curve))
    some_allowed p h =
        let k : run_from x p < length x.curve = omega (arith, reaching_top x.curve (brightest x p + 1)) in
        any_intro _ (length x.curve) (run_from x p) k (is_allowed p _ (run_allowed p _ k (omega arith) h))

    pub run_some : (p : ℕ) → T (any (allowed_at x p) (length x.curve)) → run_from x p < run_to x p
    run_some p s =
        let h = allowed_is p _ (lowest_passes (allowed_at x p) _ s) in
        omega (arith, allowed_from p _ h, allowed_to p _ (lowest_under (allowed_at x p) _ s) h)

    pub lowest_from : (p : ℕ) → T (any (allowed_at x p) (length x.curve)) → lowest (allowed_at x p) (length x.curve) ≡ run_from x p
    lowest_from p s =
        let h = run_some p s in
        let i : run_from x p < length x.curve = omega (arith, reaching_top x.curve (brightest x p + 1)) in
        lowest_is _ (length x.curve) (run_from x p) i (is_allowed p _ (run_allowed p _ i (le_refl _) h))
        (λ j l a. clash l (allowed_from p j (allowed_is p j a)))
