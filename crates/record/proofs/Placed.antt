-- Where the sections of a record stand.
-- Assumes nothing.
use Prim.Native.Nat.{ℕ, ◌+◌, ◌*◌, ◌≤◌}
use mathlib.Core.Path.{◌≡◌, subst}
use mathlib.Core.List.{List}
use lib.ListN.{length, length-drop}
use native.Mathlib.Omega.{arith}
use Rattle.std.specs.Prelude.{Result, Ok}
use Rattle.record.specs.Sections.{Counts, count_of, rest, after, ended, layout_of}
use Rattle.record.specs.declared.Section.TheVariants.{Settings, Lamps, Sweep, Check}
use Rattle.record.specs.declared.Refusal.{Refusal}
use Rattle.record.proofs.Parts.{counts}
use Rattle.record.proofs.Counted.{Counted, counted, up_to_most}

-- what is left to read from the lamps, the sweep and the check on
abbrev pub layout_from_check : (a b c : ℕ) → List ℕ → Result Counts Refusal
layout_from_check a b c s = after (count_of Check s) (λ d. ended a b c d (rest Check d s))

abbrev pub layout_from_sweep : (a b : ℕ) → List ℕ → Result Counts Refusal
layout_from_sweep a b s = after (count_of Sweep s) (λ c. layout_from_check a b c (rest Sweep c s))

abbrev pub layout_from_lamps : (a : ℕ) → List ℕ → Result Counts Refusal
layout_from_lamps a s = after (count_of Lamps s) (λ b. layout_from_sweep a b (rest Lamps b s))

-- ---- what a complete layout says of the record

pub record Took (x : Result ℕ Refusal) (F : ℕ → Result Counts Refusal) (n : Counts) : Type 0 where
  pub m : ℕ
  pub is : x ≡ Ok m
  pub more : F m ≡ Ok n

took : (x : Result ℕ Refusal) (F : ℕ → Result Counts Refusal) (n : Counts) → after x F ≡ Ok n → Took x F n
took y1 y2 n h = grind arith

-- all four sections are complete, and nothing follows them
pub record Placed (s : List ℕ) (n : Counts) : Type 0 where
  pub settings : Counted Settings s n.settings
  pub lamps : Counted Lamps (rest Settings n.settings s) n.lamps
  pub sweep : Counted Sweep (rest Lamps n.lamps (rest Settings n.settings s)) n.sweep
  pub check : Counted Check (rest Sweep n.sweep (rest Lamps n.lamps (rest Settings n.settings s))) n.check
  pub none_left : length (rest Check n.check (rest Sweep n.sweep (rest Lamps n.lamps (rest Settings n.settings s)))) ≡ 0

-- the counts that were read are those of the layout
record Whole (a b c d : ℕ) (n : Counts) (s : List ℕ) : Type 0 where
  is : counts a b c d ≡ n
  none_left : length s ≡ 0

whole : (a b c d : ℕ) (n : Counts) (s : List ℕ) → ended a b c d s ≡ Ok n → Whole a b c d n s
whole a b c d n s h = grind arith

pub placed : (s : List ℕ) (n : Counts) → layout_of s ≡ Ok n → Placed s n
unfolding layout_of
placed s n h =
    let t₀ = took (count_of Settings s) (λ a. layout_from_lamps a (rest Settings a s)) n h in
    let s₁ = rest Settings t₀.m s in
    let t₁ = took (count_of Lamps s₁) (λ b. layout_from_sweep t₀.m b (rest Lamps b s₁)) n t₀.more in
    let s₂ = rest Lamps t₁.m s₁ in
    let t₂ = took (count_of Sweep s₂) (λ c. layout_from_check t₀.m t₁.m c (rest Sweep c s₂)) n t₁.more in
    let s₃ = rest Sweep t₂.m s₂ in
    let t₃ = took (count_of Check s₃) (λ d. ended t₀.m t₁.m t₂.m d (rest Check d s₃)) n t₂.more in
    let e = whole t₀.m t₁.m t₂.m t₃.m n (rest Check t₃.m s₃) t₃.more in
    subst (Placed s) {x = counts t₀.m t₁.m t₂.m t₃.m} e.is
    (record {
      settings = counted Settings s t₀.m t₀.is;
      lamps = counted Lamps s₁ t₁.m t₁.is;
      sweep = counted Sweep s₂ t₂.m t₂.is;
      check = counted Check s₃ t₃.m t₃.is;
      none_left = e.none_left;
    })

-- the permitted counts as facts, and how long the record is
pub record Sizes (s : List ℕ) (n : Counts) : Type 0 where
  pub settings : n.settings ≡ 5
  pub lamps : n.lamps ≤ 8
  pub sweep_least : 2 ≤ n.sweep
  pub sweep : n.sweep ≤ 1024
  pub check : n.check ≤ 18
  pub whole : 2 + n.settings * 2 + (2 + n.lamps * 2) + (2 + n.sweep * 6) + (2 + n.check * 4) ≡ length s

pub sizes : (s : List ℕ) (n : Counts) → layout_of s ≡ Ok n → Sizes s n
sizes s n h =
    let p = placed s n h in
    grind (arith, up_to_most, length-drop {A = ℕ})
