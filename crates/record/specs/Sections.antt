-- The four sections of a job record, read front to back.
use Rattle.std.specs.Prelude.{ℕ, ◌+◌, ◌*◌, List, [], Bool, not, cond, ◌&&◌, ◌||◌, length, take, drop, ltb, leb, eqb, Result, Ok, Err}
use Rattle.record.specs.Bytes.{word, long, fields}
use Rattle.record.specs.declared.Refusal.{Refusal}
use Rattle.record.specs.declared.Refusal.TheVariants.{RecordTooShort, CountNotPermitted, TrailingBytes}
use Rattle.record.specs.declared.Section.{Section}
use Rattle.record.specs.declared.Section.TheVariants.{Settings, Lamps, Sweep, Check}

-- the counts that a section may have
abbrev pub permitted : Section → ℕ → Bool
permitted Settings n = eqb n 5
permitted Lamps n = leb n 8
permitted Sweep n = leb 2 n && leb n 1024
permitted Check n = eqb n 0 || eqb n 18

-- the bytes of each item
abbrev pub width : Section → ℕ
width Settings = 2
width Lamps = 2
width Sweep = 6
width Check = 4

-- section k at the front of s: 2 where the bytes end in its count, 3 where it may not have that count, 2 where they end in its items; else the number of its items
unfoldable pub count_of : Section → List ℕ → Result ℕ Refusal
count_of k s =
    cond (ltb (length s) 2) (Err RecordTooShort)
    (cond (not (permitted k (word 0 s))) (Err CountNotPermitted)
    (cond (ltb (length s) (2 + word 0 s * width k)) (Err RecordTooShort)
    (Ok (word 0 s))))

-- the bytes of the n items of a section at the front of s
abbrev pub items : Section → ℕ → List ℕ → List ℕ
items k n s = take (n * width k) (drop 2 s)

-- what follows a section of n items at the front of s
abbrev pub rest : Section → ℕ → List ℕ → List ℕ
rest k n s = drop (2 + n * width k) s

-- the first refusal ends the reading; else it goes on
abbrev pub after : {A B : Type 0} → Result A Refusal → (A → Result B Refusal) → Result B Refusal
after (Err r) more = Err r
after (Ok x) more = more x

-- the counts of the four sections
pub record Counts : Type 0 where
  pub settings : ℕ
  pub lamps : ℕ
  pub sweep : ℕ
  pub check : ℕ

-- nothing may follow the last section
abbrev pub ended : (a b c d : ℕ) → List ℕ → Result Counts Refusal
ended a b c d s = cond (eqb (length s) 0) (Ok (record { settings = a; lamps = b; sweep = c; check = d })) (Err TrailingBytes)

-- the record front to back: the counts of its four sections, or the first fault met
unfoldable pub layout_of : List ℕ → Result Counts Refusal
layout_of s =
    after (count_of Settings s)
    (λ a.
    let s₁ = rest Settings a s in
    after (count_of Lamps s₁)
    (λ b.
    let s₂ = rest Lamps b s₁ in
    after (count_of Sweep s₂)
    (λ c.
    let s₃ = rest Sweep c s₂ in
    after (count_of Check s₃)
    (λ d. ended a b c d (rest Check d s₃)))))

-- the five lists that a record holds
pub record Lists : Type 0 where
  pub settings : List ℕ
  pub lamps : List ℕ
  pub ddls : List ℕ
  pub luminances : List ℕ
  pub check : List ℕ

-- those that stand in s by their counts
abbrev pub lists_at : List ℕ → Counts → Lists
lists_at s n =
    let s₁ = rest Settings n.settings s in
    let s₂ = rest Lamps n.lamps s₁ in
    let s₃ = rest Sweep n.sweep s₂ in
    record {
      settings = fields 2 (word 0) n.settings (items Settings n.settings s);
      lamps = fields 2 (word 0) n.lamps (items Lamps n.lamps s₁);
      ddls = fields 6 (word 0) n.sweep (items Sweep n.sweep s₂);
      luminances = fields 6 (long 2) n.sweep (items Sweep n.sweep s₂);
      check = fields 4 (long 0) n.check (items Check n.check s₃);
    }

-- the lists of a record, or its refusal, 2 to 4
unfoldable pub sections : List ℕ → Result Lists Refusal
sections s = after (layout_of s) (λ n. Ok (lists_at s n))

-- those of a result; empty where the record is refused with 2 to 4
abbrev pub lists_in : Result Lists Refusal → Lists
lists_in (Ok l) = l
lists_in (Err r) = record { settings = []; lamps = []; ddls = []; luminances = []; check = [] }

abbrev pub settings_in : Result Lists Refusal → List ℕ
settings_in r = (lists_in r).settings

abbrev pub lamps_in : Result Lists Refusal → List ℕ
lamps_in r = (lists_in r).lamps

abbrev pub ddls_in : Result Lists Refusal → List ℕ
ddls_in r = (lists_in r).ddls

abbrev pub luminances_in : Result Lists Refusal → List ℕ
luminances_in r = (lists_in r).luminances

abbrev pub check_in : Result Lists Refusal → List ℕ
check_in r = (lists_in r).check
