-- Exactly one outcome: every list of bytes has one, and each has the answer that the reader gives.
-- Assumes nothing.
use Prim.Native.Nat.{ℕ, ◌+◌, ◌*◌}
use mathlib.Core.Path.{◌≡◌, refl, sym, ap, ◌∙◌}
use mathlib.Core.List.{List, [], ◌∷◌, ◌++◌}
use mathlib.Core.Bool.{◌&&◌}
use mathlib.Core.Logic.{◌⊎◌, inl, inr, ⊎_elim}
use lib.ListN.{length, get_or, drop, take-append-drop, length-drop}
use lib.Seq.{drop-drop, length-take-le}
use lib.Dec.{T}
use native.Mathlib.Omega.{arith}
use Rattle.std.specs.Prelude.{Result, Ok, Err}
use Rattle.laws.proofs.Cases.{by, le_or_lt, is_yes, is_no, yes_is, no_is}
use Rattle.record.specs.Bytes.{word, long, fields, bytes16, bytes32}
use Rattle.record.specs.Sections.{permitted, width, count_of, items, rest, Lists, sections, layout_of}
use Rattle.record.specs.Tests.{all_up_to, settings_in_range, lamps_in_range, spans, max_ddl, is_never_falling, judged, answer_of}
use Rattle.record.specs.Written.{section, written}
use Rattle.record.specs.Outcome.{Whole, Reached, to_settings, to_lamps, to_sweep, to_check, EndsIn, count_cut, items_cut, Barred, Holds, Outcome, too_short, not_permitted, trailing, out_of_range, not_spanning, falls, passes, answer_for, Under, WrittenJob}
use Rattle.record.specs.declared.Section.{Section}
use Rattle.record.specs.declared.Section.TheVariants.{Settings, Lamps, Sweep, Check}
use Rattle.record.specs.declared.Refusal.{Refusal}
use Rattle.record.specs.declared.Refusal.TheVariants.{RecordTooShort, CountNotPermitted, TrailingBytes}
use Rattle.record.specs.declared.Job.{Job}
use Rattle.record.proofs.Parts.{lists}
use Rattle.record.proofs.Fields.{fields_length}
use Rattle.record.proofs.Counted.{up_to_1024}
use Rattle.record.proofs.Written.{word_back, word_fits, long_fits, fields_fit, up_to_drop, up_to_take, word_front_again, long_front_again, run_again, run_sweep_again}
use Rattle.record.specs.Reader.{ReadFrom}
use Rattle.record.proofs.Held.{goes_past as left_over}
use Rattle.record.proofs.RoundTrip.{whole_taken, round_trip}

-- ---- the answer of each outcome

ends_count : {k : Section} {t : List ℕ} → EndsIn k t → count_of k t ≡ Err RecordTooShort
unfolding count_of
ends_count (count_cut h) = grind arith
ends_count {k} {t} (items_cut n bs e m h) =
    let w : word 0 t ≡ n = ap (word 0) e ∙ word_back n (omega (arith, up_to_1024 k n (is_yes (permitted k n) m))) in
    grind (arith, ap length e)

barred_count : {k : Section} {t : List ℕ} → Barred k t → count_of k t ≡ Err CountNotPermitted
unfolding count_of
barred_count {k} {t} b =
    let w : word 0 t ≡ b.count = ap (word 0) b.is ∙ word_back b.count (omega (arith, b.fits)) in
    grind (arith, b.may_not, ap length b.is)

-- a section that cannot be read ends the reading
stops : {s t : List ℕ} {k : Section} {r : Refusal} → Reached s k t → count_of k t ≡ Err r → ReadFrom s (Err r)
unfolding answer_of sections layout_of
stops to_settings e = grind arith
stops (to_lamps w₀) e = grind (arith, whole_taken w₀)
stops (to_sweep (to_lamps w₀) w₁) e = grind (arith, whole_taken w₀, whole_taken w₁)
stops (to_check (to_sweep (to_lamps w₀) w₁) w₂) e = grind (arith, whole_taken w₀, whole_taken w₁, whole_taken w₂)

-- so do bytes after the last one
goes_past : {s t more : List ℕ} {x : ℕ} → Reached s Check t → Whole Check t (x ∷ more) → ReadFrom s (Err TrailingBytes)
goes_past {s} (to_check (to_sweep (to_lamps w₀) w₁) w₂) w₃ = left_over s (whole_taken w₀) (whole_taken w₁) (whole_taken w₂) (whole_taken w₃) (λ e. omega arith)

held_answer : {s : List ℕ} {l : Lists} → Holds s l → answer_of s ≡ judged l.settings l.lamps l.ddls l.luminances
unfolding answer_of
held_answer {l = l} h = grind (arith, h.is, round_trip l h.writable)

pub decides : {s : List ℕ} (o : Outcome s) → answer_of s ≡ answer_for o
unfolding judged
decides (too_short r e) = sym (stops r (ends_count e)).answer
decides (not_permitted r b) = sym (stops r (barred_count b)).answer
decides (trailing r w) = sym (goes_past r w).answer
decides (out_of_range h a) = held_answer h ∙ rw (is_no _ a)
decides (not_spanning h a b) = held_answer h ∙ rw (is_yes _ a, is_no _ b)
decides (falls h a b c) = held_answer h ∙ rw (is_yes _ a, is_yes _ b, is_no _ c)
decides (passes h a b c) = held_answer h ∙ rw (is_yes _ a, is_yes _ b, is_yes _ c)

-- so any two have the same answer
pub one_answer : {s : List ℕ} (o p : Outcome s) → answer_for o ≡ answer_for p
one_answer o p = sym (decides o) ∙ decides p

-- ---- every list of bytes has an outcome

-- section k at the front of t, and what follows it, in bytes
record Front (k : Section) (t : List ℕ) : Type 0 where
  more : List ℕ
  whole : Whole k t more
  item_bytes : T (all_up_to 255 whole.items)
  bytes : T (all_up_to 255 more)

front : (k : Section) (t : List ℕ) → T (all_up_to 255 t) → Front k t ⊎ (EndsIn k t ⊎ Barred k t)
front k t b =
    ⊎_elim
    (λ two.
    let n = word 0 t in
    let split : bytes16 n ++ drop 2 t ≡ t = word_front_again t b two in
    by (permitted k n)
    (λ p.
    ⊎_elim
    (λ fits. inl (record {
      more = rest k n t;
      whole = record {
        count = n;
        items = items k n t;
        may = yes_is p;
        all = length-take-le (n * width k) (drop 2 t) (omega (arith, length-drop 2 t));
        is = rw (← drop-drop (n * width k) 2 t, take-append-drop) (sym split);
      };
      item_bytes = up_to_take 255 (n * width k) (drop 2 t) (up_to_drop 255 2 t b);
      bytes = up_to_drop 255 (2 + n * width k) t b;
    }))
    (λ short. inr (inl (items_cut n (drop 2 t) (sym split) (yes_is p) (omega (arith, length-drop 2 t)))))
    (le_or_lt (2 + n * width k) (length t)))
    (λ p. inr (inr (record { count = n; fits = omega (arith, word_fits 0 t b); more = drop 2 t; is = sym split; may_not = no_is p }))))
    (λ short. inr (inl (count_cut short)))
    (le_or_lt 2 (length t))

broken : {s t : List ℕ} {k : Section} → Reached s k t → EndsIn k t ⊎ Barred k t → Outcome s
broken r (inl e) = too_short r e
broken r (inr b) = not_permitted r b

-- what four whole sections hold
module _ {s t u v : List ℕ} (w₀ : Whole Settings s t) (w₁ : Whole Lamps t u) (w₂ : Whole Sweep u v) (w₃ : Whole Check v [])
    (b₀ : T (all_up_to 255 w₀.items)) (b₁ : T (all_up_to 255 w₁.items)) (b₂ : T (all_up_to 255 w₂.items)) (b₃ : T (all_up_to 255 w₃.items)) where
  holds : Holds s (lists (fields 2 (word 0) w₀.count w₀.items) (fields 2 (word 0) w₁.count w₁.items) (fields 6 (word 0) w₂.count w₂.items) (fields 6 (long 2) w₂.count w₂.items) (fields 4 (long 0) w₃.count w₃.items))
  unfolding written
  holds = record {
    writable = grind (arith, fields_length {A = ℕ}, fields_fit, word_fits, long_fits);
    is =
        simp fields_length
        (rw (
          run_again 2 (word 0) bytes16 word_front_again _ _ (record { bytes = b₀; all = w₀.all }),
          run_again 2 (word 0) bytes16 word_front_again _ _ (record { bytes = b₁; all = w₁.all }),
          run_sweep_again _ _ (record { bytes = b₂; all = w₂.all }),
          run_again 4 (long 0) bytes32 long_front_again _ _ (record { bytes = b₃; all = w₃.all }),
        )
        (w₀.is ∙ ap (section w₀.count w₀.items) (w₁.is ∙ ap (section w₁.count w₁.items) (w₂.is ∙ ap (section w₂.count w₂.items) w₃.is))));
  }

held_outcome : {s : List ℕ} {l : Lists} → Holds s l → Outcome s
held_outcome {l = l} h =
    by (settings_in_range l.settings && lamps_in_range l.lamps)
    (λ a. by (spans (max_ddl (get_or l.settings 0 0)) l.ddls)
    (λ b. by (is_never_falling l.luminances)
    (λ c. passes h (yes_is a) (yes_is b) (yes_is c))
    (λ c. falls h (yes_is a) (yes_is b) (no_is c)))
    (λ b. not_spanning h (yes_is a) (no_is b)))
    (λ a. out_of_range h (no_is a))

-- the last section is there; the record ends with it, or goes on
end_outcome : {s t u v : List ℕ} (w₀ : Whole Settings s t) (w₁ : Whole Lamps t u) (w₂ : Whole Sweep u v) (more : List ℕ) (w₃ : Whole Check v more)
    → T (all_up_to 255 w₀.items) → T (all_up_to 255 w₁.items) → T (all_up_to 255 w₂.items) → T (all_up_to 255 w₃.items) → Outcome s
end_outcome w₀ w₁ w₂ [] w₃ b₀ b₁ b₂ b₃ = held_outcome (holds w₀ w₁ w₂ w₃ b₀ b₁ b₂ b₃)
end_outcome w₀ w₁ w₂ (x ∷ more) w₃ b₀ b₁ b₂ b₃ = trailing (to_check (to_sweep (to_lamps w₀) w₁) w₂) w₃

pub some_outcome : (s : List ℕ) → T (all_up_to 255 s) → Outcome s
some_outcome s b =
    ⊎_elim
    (λ f₀.
    let r₁ = to_lamps f₀.whole in
    ⊎_elim
    (λ f₁.
    let r₂ = to_sweep r₁ f₁.whole in
    ⊎_elim
    (λ f₂.
    let r₃ = to_check r₂ f₂.whole in
    ⊎_elim
    (λ f₃. end_outcome f₀.whole f₁.whole f₂.whole f₃.more f₃.whole f₀.item_bytes f₁.item_bytes f₂.item_bytes f₃.item_bytes)
    (broken r₃)
    (front Check f₂.more f₂.bytes))
    (broken r₂)
    (front Sweep f₁.more f₁.bytes))
    (broken r₁)
    (front Lamps f₀.more f₀.bytes))
    (broken to_settings)
    (front Settings s b)

-- ---- a record that can be read is the written form of its lists

module _ (s : List ℕ) (l : Lists) (e : sections s ≡ Ok l) where
  same_lists : {m : Lists} → Holds s m → Holds s l
  same_lists {m} h = grind (arith, round_trip m h.writable)

  held : Outcome s → Holds s l
  held (too_short r x) = cc (stops r (ends_count x)).lists
  held (not_permitted r x) = cc (stops r (barred_count x)).lists
  held (trailing r w) = cc (goes_past r w).lists
  held (out_of_range h a) = same_lists h
  held (not_spanning h a b) = same_lists h
  held (falls h a b c) = same_lists h
  held (passes h a b c) = same_lists h

  pub lists_written : T (all_up_to 255 s) → Holds s l
  lists_written b = held (some_outcome s b)

-- ---- what the reader's answer says of the bytes

-- whatever the answer, its condition holds
pub only_under : (s : List ℕ) → T (all_up_to 255 s) → Under s (answer_of s)
only_under s b = record { outcome = some_outcome s b; is = sym (decides (some_outcome s b)) }

-- an accepted record is the written form of its lists
pub accepted_written : (s : List ℕ) (job : Job) → T (all_up_to 255 s) → answer_of s ≡ Ok job → WrittenJob s job
unfolding answer_of judged
accepted_written s job b e = from (sections s) refl
  where
    from : (r : Result Lists Refusal) → sections s ≡ r → WrittenJob s job
    from (Err r) f = cc (simp f at e)
    from (Ok l) f = record { lists = l; holds = lists_written s l f b; is = grind arith }
