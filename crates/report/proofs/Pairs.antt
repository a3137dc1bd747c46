-- Two tables side by side, each pair with its P-value.
-- Assumes nothing.
use Prim.Native.Nat.{ℕ, suc, ◌+◌, ◌≤◌, ◌<◌}
use mathlib.Core.Path.{◌≡◌, sym, ap, ◌∙◌}
use mathlib.Core.List.{List, ◌∷◌}
use lib.ListN.{length, get_or, drop, length-drop}
use lib.Seq.{drop-cons}
use native.Mathlib.Numerals.{add-one}
use native.Mathlib.Omega.{arith}
use denote.Ref.{Bor}
use Rattle.std.specs.Prelude.{Some}
use Rattle.std.specs.Iterator.Adapters.{enumerate_source, enumerate_count, enumerate_steps, zip_first, zip_second}
use Rattle.std.specs.Slice.Iter.{iter_rest}
use Rattle.std.specs.declared.iter.Enumerate.{Enumerate}
use Rattle.std.specs.declared.iter.Zip.{Zip}
use Rattle.std.specs.declared.slice.Iter.{Iter}
use Rattle.std.proofs.iter.Yields.{fronts}
use Rattle.std.proofs.lemmas.Iterator.{zips}

-- what is left of a list, where its first element is taken
taken : (xs rest : List ℕ) (i x : ℕ) → drop i xs ≡ x ∷ rest → (i < length xs) × (x ≡ get_or xs i 0) × (rest ≡ drop (i + 1) xs)
taken xs rest i x e =
    let h : i < length xs = omega (arith, ap length e, length-drop i xs) in
    let next : x ∷ rest ≡ get_or xs i 0 ∷ drop (suc i) xs = sym e ∙ drop-cons xs i 0 h in (
      h,
      ap (λ l. get_or l 0 0) next,
      rw add-one (ap (λ l. drop 1 l) next),
    )

-- all but the pairs that are counted are left of two tables
pub record Left (xs ys : List ℕ) (s : Enumerate (Zip (Iter ℕ) (Iter ℕ))) : Type 0 where
  pub first : iter_rest (zip_first (enumerate_source s)) ≡ drop (enumerate_count s) xs
  pub second : iter_rest (zip_second (enumerate_source s)) ≡ drop (enumerate_count s) ys
  pub within : enumerate_count s ≤ 256

pub all_left : {xs ys : List ℕ} {s e : Enumerate (Zip (Iter ℕ) (Iter ℕ))} {z : Zip (Iter ℕ) (Iter ℕ)} {i : Iter ℕ} → s ≡ e → enumerate_source e ≡ z → enumerate_count e ≡ 0
    → zip_first z ≡ i → iter_rest i ≡ xs → iter_rest (zip_second z) ≡ ys → Left xs ys s × (enumerate_count s ≡ 0)
all_left is source count front first second =
    let none = ap enumerate_count is ∙ count in
    (record { first = rw (none, is, source, front) first; second = rw (none, is, source) second; within = omega (arith, none) }, none)

module _ {xs ys : List ℕ} (long : length xs ≡ 256) (also : length ys ≡ 256) {s : Enumerate (Zip (Iter ℕ) (Iter ℕ))} (left : Left xs ys s) where
  pub next_left : (t : Enumerate (Zip (Iter ℕ) (Iter ℕ))) (p : ℕ × (Bor ℕ × Bor ℕ)) → enumerate_steps (zips fronts fronts) s (Some p) t
      → Left xs ys t × (p.0 ≡ enumerate_count s) × (enumerate_count s < 256) × (p.1.0.now ≡ get_or xs (enumerate_count s) 0) × (p.1.1.now ≡ get_or ys (enumerate_count s) 0)
      × (enumerate_count t ≡ enumerate_count s + 1)
  next_left t p h =
      let a = taken xs _ (enumerate_count s) _ (sym left.first ∙ h.0.0) in
      let b = taken ys _ (enumerate_count s) _ (sym left.second ∙ h.0.1) in (
        record { first = rw h.2 a.2; second = rw h.2 b.2; within = omega (arith, h.2, a.0, long) },
        h.1,
        omega (arith, a.0, long),
        a.1,
        b.1,
        h.2,
      )
