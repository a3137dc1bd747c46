-- From the sections that are taken off one by one to what the record's reader promises.
-- Assumes nothing.
use Prim.Native.Nat.{ℕ, ◌+◌, ◌-◌, ◌*◌, ◌/◌, ◌≤◌}
use borrow.Author.Tests.{le-ltb}
use mathlib.Core.Path.{◌≡◌, refl, sym, ap, ◌∙◌}
use mathlib.Core.List.{List, map, map-map}
use mathlib.Core.Bool.{true}
use lib.ListN.{length, take, drop, length-drop}
use lib.Seq.{drop-drop}
use Rattle.std.proofs.lemmas.List.{take_rest}
use native.Mathlib.Omega.{arith}
use Rattle.std.specs.Prelude.{Ok, Err}
use Rattle.record.specs.Bytes.{word, long, fields}
use Rattle.record.specs.declared.Section.{Section}
use Rattle.record.specs.declared.items.Reading.{Reading}
use Rattle.record.specs.declared.items.JobRecord.{JobRecord}
use Rattle.record.specs.Sections.{permitted, width, items, count_of, layout_of, sections}
use Rattle.record.specs.Tests.{answer_of, judged}
use Rattle.record.specs.Reader.{Taken, TakenAs, ReadFrom, words, longs, ddls_of, luminances_of, lists_of}
use Rattle.record.specs.declared.Section.TheVariants.{Settings, Lamps, Sweep, Check}
use Rattle.record.specs.declared.Refusal.TheVariants.{TrailingBytes}
use Rattle.record.proofs.Fields.{fields_length, fields_map, reading_of}
use Rattle.record.proofs.Parts.{lists}

-- a section is taken off as the code does it
pub taken : (k : Section) (s : List ℕ) {n w m : ℕ} {front found more : List ℕ} → 2 ≤ length s → n ≡ word 0 s → w ≡ width k → permitted k n ≡ true → n * w ≤ length (take (length s - 2) (drop 2 s))
    → front ≡ take (n * w) (take (length s - 2) (drop 2 s)) → more ≡ drop (n * w) (take (length s - 2) (drop 2 s)) → m ≡ n → found ≡ front → Taken k s m found more
unfolding count_of
taken k s {n} {w} {m} h e f p l a b c d =
    let r = take_rest s 2 in
    let q : 2 + word 0 s * width k ≤ length s = rw (← e, ← f) (omega (arith, rw r at l, length-drop 2 s)) in
    let z : m ≡ word 0 s = c ∙ e in
    record {
      count = rw (le-ltb _ _ h, rw e at p, le-ltb _ _ q, z);
      may = rw c (rw p tt);
      items = d ∙ a ∙ rw (r, f, c);
      rest = b ∙ rw (r, f, c, drop-drop);
    }

-- the number of items in so many bytes
width_times : (k : Section) (n : ℕ) {w l : ℕ} → w ≡ width k → l ≡ n * w → l / w ≡ n
width_times Settings n e h = rw e (omega (arith, rw e at h))
width_times Lamps n e h = rw e (omega (arith, rw e at h))
width_times Sweep n e h = rw e (omega (arith, rw e at h))
width_times Check n e h = rw e (omega (arith, rw e at h))

-- and its items are what its bytes hold
pub taken_as : {A : Type 0} (f : List ℕ → A) {k : Section} {s front more : List ℕ} {n w : ℕ} {found : List A} → Taken k s n front more → w ≡ width k → length front ≡ n * w
    → found ≡ fields w f (length front / w) front → TakenAs f k s found more
taken_as f {k} {s} {front} {more} {n} {w} {found} t e l d =
    let m : found ≡ fields (width k) f n (items k n s) = d ∙ rw (width_times k n e l, e, t.items) refl in
    let c : length found ≡ n = rw m (fields_length (width k) f n (items k n s)) in
    record { taken = record { count = rw c t.count; may = rw c t.may; items = refl; rest = rw c t.rest }; are = rw c m }

module _ (s : List ℕ) {a b c d : ℕ} {i₀ i₁ i₂ i₃ s₁ s₂ s₃ s₄ : List ℕ}
    (t₀ : Taken Settings s a i₀ s₁) (t₁ : Taken Lamps s₁ b i₁ s₂) (t₂ : Taken Sweep s₂ c i₂ s₃) (t₃ : Taken Check s₃ d i₃ s₄) where
  -- bytes are left over
  pub goes_past : (length s₄ ≡ 0 → ⊥) → ReadFrom s (Err TrailingBytes)
  unfolding answer_of sections layout_of
  goes_past h = grind arith

  -- or none
  pub whole_lists : length s₄ ≡ 0 → sections s ≡ Ok (lists (fields 2 (word 0) a i₀) (fields 2 (word 0) b i₁) (fields 6 (word 0) c i₂) (fields 6 (long 2) c i₂) (fields 4 (long 0) d i₃))
  unfolding sections layout_of
  whole_lists h = grind arith

-- one field of each reading
each : (f : Reading → ℕ) (raw : List (List ℕ)) (n : ℕ) (s : List ℕ) → map reading_of raw ≡ fields 6 reading_of n s → map (λ x. f (reading_of x)) raw ≡ fields 6 (λ x. f (reading_of x)) n s
each f raw n s e = sym (map-map f reading_of raw) ∙ ap (map f) e ∙ fields_map 6 reading_of f n s

module _ {s s₁ s₂ s₃ s₄ : List ℕ} (r : JobRecord) (t₀ : TakenAs (word 0) Settings s (words r.settings) s₁) (t₁ : TakenAs (word 0) Lamps s₁ (words r.lamps) s₂)
    (t₂ : TakenAs reading_of Sweep s₂ (map reading_of r.sweep.raw.now) s₃) (t₃ : TakenAs (long 0) Check s₃ (longs r.check) s₄) (h : length s₄ ≡ 0) where
  pub whole_read : sections s ≡ Ok (lists_of r)
  whole_read =
      whole_lists s t₀.taken t₁.taken t₂.taken t₃.taken h
      ∙ sym (λ i. Ok (lists (t₀.are i) (t₁.are i) (each (λ x. x.ddl.0) _ _ _ t₂.are i) (each (λ x. x.luminance.0) _ _ _ t₂.are i) (t₃.are i)))

  pub answer_read : r.job ≡ judged (words r.settings) (words r.lamps) (ddls_of r.sweep) (luminances_of r.sweep) → ReadFrom s (Ok r)
  unfolding answer_of
  answer_read e = record { lists = sym whole_read; answer = rw whole_read e }
